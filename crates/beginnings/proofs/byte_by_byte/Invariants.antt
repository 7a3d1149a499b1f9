-- The loop's state stands for the bytes up to its place.
use mathlib.Core.Path.{◌≡◌}
use lib.ListN.{take}
use Rattle.beginnings.specs.Beginnings.{greatest}
use Rattle.beginnings.proofs.Counts.{Holds}
use Rattle.beginnings.proofs.byte_by_byte.Given as goal

abbrev pub invariant-loop-i : goal.invariant-loop-i
invariant-loop-i l = Holds l.initial.state.kind (take l.i l.s) l.state × (l.most ≡ greatest l.initial.state.kind l.s l.i)
