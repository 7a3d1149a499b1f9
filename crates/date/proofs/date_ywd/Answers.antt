-- The week, then its day.
use mir.Facts.{to_z-of_z}
use Rattle.types.specs.declared.Date.TheVariants.{Week}
use Rattle.parser.specs.Reading.{map}
use Rattle.date.specs.Rules.{week, day_of_week, week_and_day}
use Rattle.parser.proofs.Passed.{passed_got, says_seq_missed}
use Rattle.date.proofs.Missed.{says_both, says_both_missed}
use Rattle.date.proofs.date_ywd.Goals as goal

pub returns-in_err-week : goal.returns-in_err-week
unfolding week_and_day
returns-in_err-week c =
    let a = c.args in
    passed_got _ _ c.from_residual.ensures.1 (says_seq_missed week a.s.now a.at (λ x. map (λ d. Week a.year x d) day_of_week) _ c.in_err-week.ensures)

pub returns-in_err-day : goal.returns-in_err-day
unfolding week_and_day
returns-in_err-day c =
    let a = c.args in
    passed_got _ _ c.from_residual-in_err-day.ensures.1 (says_both_missed week day_of_week (λ x d. Week a.year x d) a.s.now a.at _ _ c.in_ok-week.ensures _ c.in_err-day.ensures)

pub returns : goal.returns
unfolding week_and_day
returns c =
    let a = c.args in
    let same = to_z-of_z c.ranges.year in
    rw same (says_both week day_of_week (λ x d. Week a.year x d) a.s.now a.at _ _ c.in_ok-week.ensures _ _ c.in_ok-day.ensures)
