-- No two answers meet one promise: the rule fixes number, record and count, and the continuations the verdict.
use Rattle.std.specs.Prelude.{List, ℕ, ◌≡◌, Result}
use Rattle.types.specs.declared.Choices.{Choices}
use Rattle.types.specs.declared.Interval.{Interval}
use Rattle.parser.specs.declared.answer.Counted.{Counted}
use Rattle.parser.specs.declared.answer.Refused.{Refused}
use Rattle.parser.specs.declared.answer.Read.{Read}
use Rattle.parser.proofs.Once as parser
use Rattle.intervals.specs.Answer.{interval_reads, interval_parses}
use Rattle.interval.specs.Once.{interval}

pub read_once : (c : Choices) (s : List ℕ) (a b : Read Interval) → interval_reads c s a → interval_reads c s b → a ≡ b
read_once c s = parser.read_once (interval c) s 14

pub parsed_once : (c : Choices) (s : List ℕ) (a b : Result (Counted Interval) Refused) → interval_parses c s a → interval_parses c s b → a ≡ b
parsed_once c s = parser.parsed_once (interval c) s
