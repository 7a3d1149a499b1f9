-- A piece is refused where it would make too many bytes. After i bytes of any other the state is what they make of it; behind a full one all
-- are only counted.
use Prim.Native.Nat.{◌-◌}
use lib.ListN.{length}
use Rattle.arriving.proofs.Pushing.{Pushed}
use Rattle.arriving.proofs.step.Given as goal

abbrev pub invariant-loop-i : goal.invariant-loop-i
invariant-loop-i l = Pushed l.initial.state l.piece l.state l.i

abbrev pub decreases-loop-i : goal.decreases-loop-i
decreases-loop-i l = length l.piece - l.i
