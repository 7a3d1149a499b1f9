-- The dash, then the day.
use mathlib.Core.Bool.{false}
use Rattle.parser.specs.Fields.{day}
use Rattle.date.specs.Rules.{dash}
use Rattle.parser.proofs.Says.{says_seq_got}
use Rattle.parser.proofs.Passed.{passed_exact, says_seq_missed}
use Rattle.date.proofs.dashed_day.Goals as goal

pub returns-in_err-next : goal.returns-in_err-next
returns-in_err-next c =
    let a = c.args in
    passed_exact _ _ c.from_residual.ensures.1 (says_seq_missed dash a.s.now a.at (λ _. day) _ c.in_err-next.ensures)

pub returns : goal.returns
returns c =
    let a = c.args in
    says_seq_got dash a.s.now a.at (λ _. day) tt _ false _ _ c.in_ok-next.ensures c.date_day.ensures
