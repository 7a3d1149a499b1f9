-- What is promised of the answers.
use Rattle.std.specs.Prelude.{ℕ, List, Result}
use Rattle.types.specs.declared.Duration.{Duration}
use Rattle.parser.specs.Answer.{Begins, Ended}
use Rattle.parser.specs.Told.{told}
use Rattle.parser.specs.declared.answer.Counted.{Counted}
use Rattle.parser.specs.declared.answer.Refused.{Refused}
use Rattle.parser.specs.declared.answer.Read.{Read}
use Rattle.duration.specs.Rules.{duration}

-- what the two readers promise of their answers
abbrev pub duration_reads : List ℕ → Read Duration → Type 0
duration_reads s r = Begins 3 duration s (told r.answer) r.verdict

abbrev pub duration_parses : List ℕ → Result (Counted Duration) Refused → Type 0
duration_parses s a = Ended duration s (told a)
