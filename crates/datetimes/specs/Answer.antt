-- What is promised of the answers.
use Rattle.std.specs.Prelude.{ℕ, List, Result}
use Rattle.types.specs.declared.Choices.{Choices}
use Rattle.types.specs.declared.DateTime.{DateTime}
use Rattle.parser.specs.Answer.{Begins, Ended}
use Rattle.parser.specs.Told.{told}
use Rattle.parser.specs.declared.answer.Counted.{Counted}
use Rattle.parser.specs.declared.answer.Refused.{Refused}
use Rattle.parser.specs.declared.answer.Read.{Read}
use Rattle.datetime.specs.Rules.{date_time}

-- what the two readers promise of their answers
abbrev pub date_time_reads : Choices → List ℕ → Read DateTime → Type 0
date_time_reads c s r = Begins 10 (date_time c) s (told r.answer) r.verdict

abbrev pub date_time_parses : Choices → List ℕ → Result (Counted DateTime) Refused → Type 0
date_time_parses c s a = Ended (date_time c) s (told a)
