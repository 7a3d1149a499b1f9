-- What is promised of the answers.
use Rattle.std.specs.Prelude.{ℕ, List, Result}
use Rattle.types.specs.declared.Offset.{Offset}
use Rattle.parser.specs.Answer.{Begins, Ended}
use Rattle.parser.specs.Told.{told}
use Rattle.parser.specs.declared.answer.Counted.{Counted}
use Rattle.parser.specs.declared.answer.Refused.{Refused}
use Rattle.parser.specs.declared.answer.Read.{Read}
use Rattle.offset.specs.Rules.{offset}

-- what the two readers promise of their answers
abbrev pub offset_reads : List ℕ → Read Offset → Type 0
offset_reads s r = Begins 2 offset s (told r.answer) r.verdict

abbrev pub offset_parses : List ℕ → Result (Counted Offset) Refused → Type 0
offset_parses s a = Ended offset s (told a)
