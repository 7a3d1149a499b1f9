-- `R` and what follows it.
use mathlib.Core.Bool.{false}
use Rattle.parser.specs.Reading.{lit}
use Rattle.parser.proofs.Says.{says_seq_got}
use Rattle.interval.specs.Rules.{digits_and_slash, repeated}
use Rattle.parser.proofs.Passed.{passed_exact, says_seq_missed}
use Rattle.interval.proofs.interval_repetitions.Goals as goal

pub returns-in_err-next : goal.returns-in_err-next
unfolding repeated
returns-in_err-next c =
    let a = c.args in
    passed_exact _ _ c.from_residual.ensures.1 (says_seq_missed (lit 82) a.s.now a.at (λ _. digits_and_slash) _ c.in_err-next.ensures)

pub returns : goal.returns
unfolding repeated
returns c =
    let a = c.args in
    says_seq_got (lit 82) a.s.now a.at (λ _. digits_and_slash) tt _ false _ _ c.in_ok-next.ensures c.repeat_digits.ensures
