-- No two answers meet one promise: the rule fixes number, record and count, and the continuations the verdict.
use Rattle.std.specs.Prelude.{List, ℕ, ◌≡◌, Result}
use Rattle.types.specs.declared.Choices.{Choices}
use Rattle.types.specs.declared.DateTime.{DateTime}
use Rattle.parser.specs.declared.answer.Counted.{Counted}
use Rattle.parser.specs.declared.answer.Refused.{Refused}
use Rattle.parser.specs.declared.answer.Read.{Read}
use Rattle.parser.proofs.Once as parser
use Rattle.datetimes.specs.Answer.{date_time_reads, date_time_parses}
use Rattle.datetime.specs.Rules.{date_time}

pub read_once : (c : Choices) (s : List ℕ) (a b : Read DateTime) → date_time_reads c s a → date_time_reads c s b → a ≡ b
read_once c s = parser.read_once (date_time c) s 10

pub parsed_once : (c : Choices) (s : List ℕ) (a b : Result (Counted DateTime) Refused) → date_time_parses c s a → date_time_parses c s b → a ≡ b
parsed_once c s = parser.parsed_once (date_time c) s
