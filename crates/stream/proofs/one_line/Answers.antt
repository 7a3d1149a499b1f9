-- A line that ends gets its response, and one that goes on none.
use mathlib.Core.Path.{refl, sym}
use native.Mathlib.Omega.{arith}
use lib.Seq.{length-take-le}
use Rattle.lines.proofs.Laws.{taken_room}
use Rattle.stream.proofs.Laws.{one_ended, one_open}
use Rattle.stream.proofs.one_line.Goals as goal

pub slice_bounds-respond-end : goal.slice_bounds-respond-end
slice_bounds-respond-end c = omega (arith, taken_room c.take_line-taken.ensures refl c.requires.0)

pub slice_bounds-respond-end-then-taken : goal.slice_bounds-respond-end-then-taken
slice_bounds-respond-end-then-taken c = sym (length-take-le _ _ (omega (arith, taken_room c.take_line-taken.ensures refl c.requires.0)))

pub returns-then-taken : goal.returns-then-taken
returns-then-taken c = one_ended c.args.program c.take_line-taken.ensures c.requires.0 c.if-taken.true c.respond.ensures

pub returns : goal.returns
returns c = one_open c.args.program c.take_line-taken.ensures c.requires.0 c.if-taken.false
