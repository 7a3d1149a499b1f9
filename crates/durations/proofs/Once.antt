-- No two answers meet one promise: the rule fixes number, record and count, and the continuations the verdict.
use Rattle.std.specs.Prelude.{List, ℕ, ◌≡◌, Result}
use Rattle.types.specs.declared.Duration.{Duration}
use Rattle.parser.specs.declared.answer.Counted.{Counted}
use Rattle.parser.specs.declared.answer.Refused.{Refused}
use Rattle.parser.specs.declared.answer.Read.{Read}
use Rattle.parser.proofs.Once as parser
use Rattle.durations.specs.Answer.{duration_reads, duration_parses}
use Rattle.duration.specs.Rules.{duration}

pub read_once : (s : List ℕ) (a b : Read Duration) → duration_reads s a → duration_reads s b → a ≡ b
read_once s = parser.read_once duration s 3

pub parsed_once : (s : List ℕ) (a b : Result (Counted Duration) Refused) → duration_parses s a → duration_parses s b → a ≡ b
parsed_once s = parser.parsed_once duration s
