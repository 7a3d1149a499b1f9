-- A line that ends is counted, and one that goes on is held.
use mathlib.Core.Path.{refl, sym}
use native.Mathlib.Omega.{arith}
use lib.Seq.{length-take-le}
use Rattle.lines.proofs.Laws.{taken_room}
use Rattle.logs.proofs.Laws.{one_ended, one_open}
use Rattle.logs.proofs.one_line.Goals as goal

pub returns-then-taken : goal.returns-then-taken
returns-then-taken c =
    rw (c.with_line.ensures, c.count.ensures, c.see-line.ensures) (one_ended c.args.week _ c.take_line-taken.ensures c.requires c.if-taken.true)

pub returns : goal.returns
returns c =
    one_open c.args.week _ c.take_line-taken.ensures c.requires c.if-taken.false

pub slice_bounds-see-end : goal.slice_bounds-see-end
slice_bounds-see-end c = omega (arith, taken_room c.take_line-taken.ensures refl c.requires)

pub slice_bounds-see-end-then-taken : goal.slice_bounds-see-end-then-taken
slice_bounds-see-end-then-taken c = sym (length-take-le _ _ (omega (arith, taken_room c.take_line-taken.ensures refl c.requires)))
