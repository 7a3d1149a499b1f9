-- `W`, then the week.
use mathlib.Core.Bool.{false}
use Rattle.parser.specs.Reading.{lit}
use Rattle.date.specs.Rules.{week_of_year}
use Rattle.parser.proofs.Says.{says_seq_got}
use Rattle.parser.proofs.Passed.{passed_exact, says_seq_missed}
use Rattle.date.proofs.date_week.Goals as goal

pub returns-in_err-next : goal.returns-in_err-next
returns-in_err-next c =
    let a = c.args in
    passed_exact _ _ c.from_residual.ensures.1 (says_seq_missed (lit 87) a.s.now a.at (λ _. week_of_year) _ c.in_err-next.ensures)

pub returns : goal.returns
returns c =
    let a = c.args in
    says_seq_got (lit 87) a.s.now a.at (λ _. week_of_year) tt _ false _ _ c.in_ok-next.ensures c.week_of_year.ensures
