-- The year is read once, which is as good as once for each alternative.
use mathlib.Core.Bool.{false}
use mir.Syntax.{w32}
use mir.Facts.{to_z-of_z}
use Rattle.parser.specs.Reading.{seq}
use Rattle.date.specs.Rules.{year, date}
use Rattle.date.specs.Answer.{after_year}
use Rattle.parser.proofs.Alike.{alike_says}
use Rattle.parser.proofs.Says.{says_seq_got}
use Rattle.date.proofs.Laws.{date_alike}
use Rattle.parser.proofs.Passed.{passed_got, says_seq_missed}
use borrow.Author.Rules.{rules}
use Rattle.date.proofs.date_at.Goals as goal

pub returns-in_err-year : goal.returns-in_err-year
returns-in_err-year c =
    let a = c.args in
    passed_got _ _ c.from_residual.ensures.1 (alike_says date (seq year after_year) date_alike a.s.now a.at _ _ (says_seq_missed year a.s.now a.at after_year _ c.in_err-year.ensures))

pub returns : goal.returns
returns c =
    let a = c.args in
    let y = c.in_ok-year.year.value in
    let same = to_z-of_z {w = w32} {z = y} (search rules) in
    alike_says date (seq year after_year) date_alike a.s.now a.at _ _ (says_seq_got year a.s.now a.at after_year _ _ false _ _ c.in_ok-year.ensures (rw same at c.after_year.ensures))
