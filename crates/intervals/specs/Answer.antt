-- What is promised of the answers.
use Rattle.std.specs.Prelude.{ℕ, List, Result}
use Rattle.types.specs.declared.Choices.{Choices}
use Rattle.types.specs.declared.Interval.{Interval}
use Rattle.parser.specs.Answer.{Begins, Ended}
use Rattle.parser.specs.Told.{told}
use Rattle.parser.specs.declared.answer.Counted.{Counted}
use Rattle.parser.specs.declared.answer.Refused.{Refused}
use Rattle.parser.specs.declared.answer.Read.{Read}
use Rattle.interval.specs.Once.{interval}

-- what the two readers promise of their answers
abbrev pub interval_reads : Choices → List ℕ → Read Interval → Type 0
interval_reads c s r = Begins 14 (interval c) s (told r.answer) r.verdict

abbrev pub interval_parses : Choices → List ℕ → Result (Counted Interval) Refused → Type 0
interval_parses c s a = Ended (interval c) s (told a)
