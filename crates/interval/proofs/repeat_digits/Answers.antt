-- By the run, which is a duration's with a smaller limit, and the byte behind it.
use Rattle.std.proofs.Common.{rules}
use mathlib.Core.Bool.{false}
use mathlib.Core.Option.{some, none}
use mathlib.Core.Path.{refl}
use Rattle.parser.specs.Reading.{no, got}
use Rattle.interval.proofs.Telling.{run_small, run_large, run_none, digits_then, digits_stop, digits_missed}
use Rattle.interval.proofs.repeat_digits.Goals as goal

pub returns-in-Ok : goal.returns-in-Ok
returns-in-Ok c =
    let a = c.args in
    digits_then a.s.now a.at (got _ _) (some _) _ _ _ _ refl (run_small a.s.now a.at _ _ _ c.if-run-le-MOST.true c.in-Ok.ensures) c.repeat_end.ensures

pub returns-in-Ok-2 : goal.returns-in-Ok-2
returns-in-Ok-2 c =
    let a = c.args in
    digits_stop a.s.now a.at 2 (run_large a.s.now a.at _ _ _ c.if-run-le-MOST.false c.in-Ok.ensures)

pub returns-in-Err-Wrong : goal.returns-in-Err-Wrong
returns-in-Err-Wrong c =
    let a = c.args in
    digits_then a.s.now a.at no none a.at false _ _ refl (run_none a.s.now a.at false (rw c.in-Err-Wrong.field-0-is at c.in-Err-Wrong.ensures)) c.repeat_end-in-Err-Wrong.ensures

pub returns-in-Err : goal.returns-in-Err
returns-in-Err c =
    let a = c.args in
    digits_missed a.s.now a.at _ (search rules) c.in-Err.ensures
