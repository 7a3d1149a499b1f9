-- The month, then the day or none.
use mir.Facts.{to_z-of_z}
use Rattle.types.specs.declared.Date.TheVariants.{YMD}
use Rattle.parser.specs.Reading.{map}
use Rattle.parser.specs.Fields.{month}
use Rattle.date.specs.Answer.{dashed_day_of_month, month_and_dashed_day}
use Rattle.parser.proofs.Passed.{passed_got, says_seq_missed}
use Rattle.date.proofs.Missed.{says_both, says_both_missed}
use Rattle.date.proofs.date_ymd.Goals as goal

pub returns-in_err-month : goal.returns-in_err-month
unfolding month_and_dashed_day
returns-in_err-month c =
    let a = c.args in
    passed_got _ _ c.from_residual.ensures.1 (says_seq_missed month a.s.now a.at (λ x. map (λ d. YMD a.year x d) dashed_day_of_month) _ c.in_err-month.ensures)

pub returns-in_err-day : goal.returns-in_err-day
unfolding month_and_dashed_day
returns-in_err-day c =
    let a = c.args in
    passed_got _ _ c.from_residual-in_err-day.ensures.1 (says_both_missed month dashed_day_of_month (λ x d. YMD a.year x d) a.s.now a.at _ _ c.in_ok-month.ensures _ c.in_err-day.ensures)

pub returns : goal.returns
unfolding month_and_dashed_day
returns c =
    let a = c.args in
    rw (to_z-of_z c.ranges.year) (says_both month dashed_day_of_month (λ x d. YMD a.year x d) a.s.now a.at _ _ c.in_ok-month.ensures _ _ c.in_ok-day.ensures)
