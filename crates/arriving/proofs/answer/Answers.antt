-- A record of the kept bytes ends among them.
use native.Mathlib.Omega.{arith}
use borrow.Author.Rules.{rules}
use Rattle.arriving.proofs.Answering.{few}
use Rattle.arriving.proofs.answer.Goals as goal

pub offset_bounds-places-n : goal.offset_bounds-places-n
offset_bounds-places-n c = omega (arith, few c.args.state c.min.result c.in-Ok.found (search rules) (rw c.in-Ok.is at c.read-read.ensures.answer))

pub bounds-places-n : goal.bounds-places-n
bounds-places-n c = omega (arith, few c.args.state c.min.result c.in-Ok.found (search rules) (rw c.in-Ok.is at c.read-read.ensures.answer))
