-- What is promised of the answers.
use Rattle.std.specs.Prelude.{ℕ, List, Result}
use Rattle.types.specs.declared.Choices.{Choices}
use Rattle.types.specs.declared.Time.{Time}
use Rattle.parser.specs.Answer.{Begins, Ended}
use Rattle.parser.specs.Told.{told}
use Rattle.parser.specs.declared.answer.Counted.{Counted}
use Rattle.parser.specs.declared.answer.Refused.{Refused}
use Rattle.parser.specs.declared.answer.Read.{Read}
use Rattle.time.specs.Rules.{time}

-- what the two readers promise of their answers
abbrev pub time_reads : Choices → List ℕ → Read Time → Type 0
time_reads c s r = Begins 2 (time c) s (told r.answer) r.verdict

abbrev pub time_parses : Choices → List ℕ → Result (Counted Time) Refused → Type 0
time_parses c s a = Ended (time c) s (told a)
