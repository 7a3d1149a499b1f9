-- The second is there or left out, and the fraction is one of it or of the minute.
use mathlib.Core.Path.{sym, ◌∙◌}
use Rattle.parser.specs.Reading.{opt}
use Rattle.parser.specs.Fields.{second, preceded_by, or_zero}
use Rattle.parser.proofs.Says.{says_seq_on, says_opt}
use Rattle.fields.specs.Read.{number_read}
use Rattle.time.specs.Rules.{zero_if, unit_of, millisecond, second_millisecond}
use Rattle.parser.proofs.Passed.{passed_got, says_seq_missed, says_opt_missed}
use Rattle.time.proofs.Zero.{unmarked, number_taken}
use Rattle.time.proofs.time_second_millisecond.Goals as goal

pub returns-in_err-second : goal.returns-in_err-second
unfolding second_millisecond
returns-in_err-second c =
    let a = c.args in
    let p = preceded_by 58 (zero_if a.zero second) in
    passed_got _ _ c.from_residual.ensures.1 (says_seq_missed (opt p) a.s.now a.at (λ se. millisecond (unit_of a.reading se) a.zero a.minute (or_zero se)) _ (says_opt_missed p a.s.now a.at 0 _ _ c.after_colon-found.ensures _ c.in_err-second.ensures.found c.in_err-second.ensures.more))

pub time_millisecond-requires-clause-at_value : goal.time_millisecond-requires-clause-at_value
time_millisecond-requires-clause-at_value c more =
    let a = c.args in
    unmarked a.zero 60 a.s.now a.at _ c.after_colon-found.ensures _ _ c.in_ok-second.ensures.found (sym c.in_ok-second.ensures.more ∙ more)

pub returns : goal.returns
unfolding second_millisecond
returns c =
    let a = c.args in
    let p = preceded_by 58 (zero_if a.zero second) in
    let t = number_taken a.s.now a.at c.after_colon-found.result _ _ c.in_ok-second.ensures.found in
    let found = says_opt p a.s.now a.at _ _ c.after_colon-found.ensures in
    says_seq_on (opt p) (λ se. millisecond (unit_of a.reading se) a.zero a.minute (or_zero se)) a.s.now a.at (number_read c.after_colon-found.result) _ _ _ _
    (rw (t.0, ← c.in_ok-second.ensures.more) at found) (rw (c.unit_of.ensures, t.1) at c.time_millisecond.ensures)
