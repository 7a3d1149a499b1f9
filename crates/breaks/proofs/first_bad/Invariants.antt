-- Each turn halves the part in which the text breaks.
use Prim.Native.Nat.{◌-◌}
use Rattle.breaks.proofs.Laws.{Between}
use Rattle.breaks.proofs.first_bad.Given as goal

abbrev pub invariant-loop-high : goal.invariant-loop-high
invariant-loop-high l = Between l.kind l.s l.low l.high

abbrev pub decreases-loop-high : goal.decreases-loop-high
decreases-loop-high l = l.high - l.low
