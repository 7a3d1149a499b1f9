-- `/` and a date-time, behind which the duration is settled; or nothing of it.
use Rattle.std.proofs.Common.{rules}
use mathlib.Core.Bool.{true, false}
use mathlib.Core.Path.{refl}
use Rattle.interval.proofs.Telling.{end_settled, left_out}
use Rattle.interval.proofs.after_duration.Goals as goal

pub returns-in-Ok : goal.returns-in-Ok
returns-in-Ok c =
    let a = c.args in
    end_settled a.choices a.duration a.s.now a.at a.more _ _ c.requires refl c.in-Ok.ensures

pub returns-in-Err-Stopped : goal.returns-in-Err-Stopped
returns-in-Err-Stopped c =
    let a = c.args in
    end_settled a.choices a.duration a.s.now a.at a.more _ _ c.requires refl (rw c.in-Err-Stopped.field-0-is at c.in-Err-Stopped.ensures)

pub returns-then-more : goal.returns-then-more
returns-then-more c =
    let a = c.args in
    rw c.if-more.true (left_out a.choices a.duration a.s.now a.at true _ (search rules) c.in-Err.ensures)

pub returns-else-more : goal.returns-else-more
returns-else-more c =
    let a = c.args in
    rw (c.if-more.false, c.is_cut.ensures) (left_out a.choices a.duration a.s.now a.at false _ (search rules) c.in-Err.ensures)
