-- A dash and a day, or none.
use Rattle.parser.specs.Reading.{opt}
use Rattle.parser.proofs.Says.{says_opt}
use Rattle.date.specs.Answer.{dashed_day, dashed_day_of_month}
use Rattle.date.proofs.Dashed.{says_first}
use Rattle.date.proofs.day_of_month.Goals as goal

pub returns : goal.returns
unfolding dashed_day_of_month
returns c =
    let a = c.args in
    says_first (opt dashed_day) a.s.now a.at _ _ _ _ (says_opt dashed_day a.s.now a.at _ _ c.dashed_day-day.ensures) c.optional.ensures.found c.optional.ensures.more
