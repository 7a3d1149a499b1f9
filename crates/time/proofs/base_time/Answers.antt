-- The hour, then what follows it.
use mathlib.Core.Bool.{false}
use Rattle.parser.proofs.Says.{says_seq_got}
use Rattle.time.specs.Rules.{hour_of, ends_day, base_time, after_hour}
use Rattle.parser.proofs.Passed.{passed_got, says_seq_missed}
use Rattle.time.proofs.base_time.Goals as goal

pub returns-in_err-hour : goal.returns-in_err-hour
unfolding base_time
returns-in_err-hour c =
    let a = c.args in
    let e = a.choices.edition in
    passed_got _ _ c.from_residual.ensures.1 (says_seq_missed (hour_of e) a.s.now a.at (λ h. after_hour a.choices.reading (ends_day e h) h) _ c.in_err-hour.ensures)

pub returns-in_err-value : goal.returns-in_err-value
unfolding base_time
returns-in_err-value c =
    let a = c.args in
    let e = a.choices.edition in
    passed_got _ _ c.from_residual-in_err-value.ensures.1
    (says_seq_got (hour_of e) a.s.now a.at (λ h. after_hour a.choices.reading (ends_day e h) h) _ _ false _ _ c.in_ok-hour.ensures (rw c.ends_day-zero.ensures at c.in_err-value.ensures))

pub returns : goal.returns
unfolding base_time
returns c =
    let a = c.args in
    let e = a.choices.edition in
    says_seq_got (hour_of e) a.s.now a.at (λ h. after_hour a.choices.reading (ends_day e h) h) _ _ false _ _ c.in_ok-hour.ensures (rw c.ends_day-zero.ensures at c.in_ok-value.ensures)
