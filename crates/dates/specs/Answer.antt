-- What is promised of the answers.
use Rattle.std.specs.Prelude.{ℕ, List, Result}
use Rattle.types.specs.declared.Date.{Date}
use Rattle.parser.specs.Answer.{Begins, Ended}
use Rattle.parser.specs.Told.{told}
use Rattle.parser.specs.declared.answer.Counted.{Counted}
use Rattle.parser.specs.declared.answer.Refused.{Refused}
use Rattle.parser.specs.declared.answer.Read.{Read}
use Rattle.date.specs.Rules.{date}

-- what the two readers promise of their answers
abbrev pub date_reads : List ℕ → Read Date → Type 0
date_reads s r = Begins 7 date s (told r.answer) r.verdict

abbrev pub date_parses : List ℕ → Result (Counted Date) Refused → Type 0
date_parses s a = Ended date s (told a)
