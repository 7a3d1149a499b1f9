-- A repeat, or none, and the sides.
use Rattle.std.proofs.Common.{rules}
use mathlib.Core.Bool.{false}
use mathlib.Core.Option.{some, none}
use mathlib.Core.Path.{refl}
use Rattle.parser.specs.Reading.{no, got}
use Rattle.interval.proofs.Whole.{with_repeat, repeat_missed}
use Rattle.interval.proofs.interval_at.Goals as goal

pub returns-in-Ok : goal.returns-in-Ok
returns-in-Ok c =
    let a = c.args in
    with_repeat a.choices a.s.now a.at (got _ _) (some _) _ false _ _ refl c.in-Ok.ensures c.with_range.ensures

pub returns-in-Err-Wrong : goal.returns-in-Err-Wrong
returns-in-Err-Wrong c =
    let a = c.args in
    with_repeat a.choices a.s.now a.at no none a.at false _ _ refl (rw c.in-Err-Wrong.field-0-is at c.in-Err-Wrong.ensures) c.with_range-in-Err-Wrong.ensures

pub returns-in-Err : goal.returns-in-Err
returns-in-Err c =
    let a = c.args in
    repeat_missed a.choices a.s.now a.at _ (search rules) c.in-Err.ensures
