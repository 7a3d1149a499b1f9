-- The day of the year.
use mir.Facts.{to_z-of_z}
use Rattle.types.specs.declared.Date.TheVariants.{Ordinal}
use Rattle.parser.proofs.Says.{says_map}
use Rattle.date.specs.Rules.{day_of_year, ordinal}
use Rattle.parser.proofs.Passed.{passed_got, says_map_missed}
use Rattle.date.proofs.date_yddd.Goals as goal

pub returns-in_err-day : goal.returns-in_err-day
unfolding ordinal
returns-in_err-day c =
    let a = c.args in
    passed_got _ _ c.from_residual.ensures.1 (says_map_missed day_of_year a.s.now a.at (λ d. Ordinal a.year d) _ c.in_err-day.ensures)

pub returns : goal.returns
unfolding ordinal
returns c =
    let a = c.args in
    let same = to_z-of_z c.ranges.year in
    rw same (says_map day_of_year a.s.now a.at (λ d. Ordinal a.year d) _ _ c.in_ok-day.ensures)
