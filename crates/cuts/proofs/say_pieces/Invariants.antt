-- Each turn gives the state a piece and puts what is said of it, and behind the last piece stands what is said at the end.
use lib.ListN.{length, drop}
use Rattle.cuts.proofs.Cutting.{parts}
use Rattle.cuts.proofs.Sofar.{Sofar}
use Rattle.cuts.proofs.say_pieces.Given as goal

abbrev pub invariant-loop-piece : goal.invariant-loop-piece
invariant-loop-piece l = Sofar l.fn.kind l.s l.initial.out l.at l.out l.state l.next (drop (length l.yielded) (parts l.s))
