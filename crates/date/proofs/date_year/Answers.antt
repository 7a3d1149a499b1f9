-- A sign, another byte, or the end; each time the digits are read on from the place that is left.
use mathlib.Core.Bool.{false}
use mathlib.Core.Option.{some, none}
use Rattle.parser.specs.Reading.{opt}
use Rattle.parser.specs.Fields.{signed}
use Rattle.date.specs.Rules.{minus, digits_of_year, year}
use Rattle.parser.proofs.Says.{says_opt, says_seq_got}
use Rattle.parser.proofs.Leaves.{signed_at_end}
use Rattle.date.proofs.Missed.{says_cut_missed}
use Rattle.date.proofs.Parts.{digits_of_year_fails}
use Rattle.std.proofs.Common.{rules}
use Rattle.date.proofs.date_year.Goals as goal

pub returns-in-Ok : goal.returns-in-Ok
unfolding year
returns-in-Ok c =
    let a = c.args in
    says_seq_got (opt signed) a.s.now a.at (λ o. digits_of_year (minus o)) (some _) _ false _ _ (says_opt signed a.s.now a.at _ _ c.in-Ok.ensures) c.digits_of_year.ensures

pub returns-in-Err-Wrong : goal.returns-in-Err-Wrong
unfolding year
returns-in-Err-Wrong c =
    let a = c.args in
    let mark = rw c.in-Err-Wrong.field-0-is at c.in-Err-Wrong.ensures in
    says_seq_got (opt signed) a.s.now a.at (λ o. digits_of_year (minus o)) none a.at false _ _ (says_opt signed a.s.now a.at _ _ mark) c.digits_of_year-in-Err-Wrong.ensures

pub returns-in-Err : goal.returns-in-Err
unfolding year
returns-in-Err c =
    let a = c.args in
    says_cut_missed signed a.s.now a.at (λ o. digits_of_year (minus o)) _ (λ e. search rules) signed_at_end (digits_of_year_fails false) c.in-Err.ensures
