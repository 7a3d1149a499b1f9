-- `/` and what follows it.
use mathlib.Core.Bool.{false}
use Rattle.parser.specs.Reading.{lit}
use Rattle.parser.proofs.Says.{says_seq_got}
use Rattle.interval.specs.Rules.{stamp}
use Rattle.parser.proofs.Passed.{passed_got, says_seq_missed}
use Rattle.interval.proofs.end_at.Goals as goal

pub returns-in_err-next : goal.returns-in_err-next
returns-in_err-next c =
    let a = c.args in
    passed_got _ _ c.from_residual.ensures.1 (says_seq_missed (lit 47) a.s.now a.at (λ _. stamp a.choices) _ c.in_err-next.ensures)

pub returns : goal.returns
returns c =
    let a = c.args in
    says_seq_got (lit 47) a.s.now a.at (λ _. stamp a.choices) tt _ false _ _ c.in_ok-next.ensures c.stamp_at.ensures.read
