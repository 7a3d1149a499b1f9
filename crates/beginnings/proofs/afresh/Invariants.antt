-- The loop has the greatest count of the beginnings up to its place.
use mathlib.Core.Path.{◌≡◌}
use Rattle.beginnings.specs.Beginnings.{greatest}
use Rattle.beginnings.proofs.afresh.Given as goal

abbrev pub invariant-loop-i : goal.invariant-loop-i
invariant-loop-i l = l.most ≡ greatest l.kind l.s l.i
