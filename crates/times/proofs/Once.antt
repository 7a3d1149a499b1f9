-- No two answers meet one promise: the rule fixes number, record and count, and the continuations the verdict.
use Rattle.std.specs.Prelude.{List, ℕ, ◌≡◌, Result}
use Rattle.types.specs.declared.Choices.{Choices}
use Rattle.types.specs.declared.Time.{Time}
use Rattle.parser.specs.declared.answer.Counted.{Counted}
use Rattle.parser.specs.declared.answer.Refused.{Refused}
use Rattle.parser.specs.declared.answer.Read.{Read}
use Rattle.parser.proofs.Once as parser
use Rattle.times.specs.Answer.{time_reads, time_parses}
use Rattle.time.specs.Rules.{time}

pub read_once : (c : Choices) (s : List ℕ) (a b : Read Time) → time_reads c s a → time_reads c s b → a ≡ b
read_once c s = parser.read_once (time c) s 2

pub parsed_once : (c : Choices) (s : List ℕ) (a b : Result (Counted Time) Refused) → time_parses c s a → time_parses c s b → a ≡ b
parsed_once c s = parser.parsed_once (time c) s
