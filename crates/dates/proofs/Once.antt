-- No two answers meet one promise: the rule fixes number, record and count, and the continuations the verdict.
use Rattle.std.specs.Prelude.{List, ℕ, ◌≡◌, Result}
use Rattle.types.specs.declared.Date.{Date}
use Rattle.parser.specs.declared.answer.Counted.{Counted}
use Rattle.parser.specs.declared.answer.Refused.{Refused}
use Rattle.parser.specs.declared.answer.Read.{Read}
use Rattle.parser.proofs.Once as parser
use Rattle.dates.specs.Answer.{date_reads, date_parses}
use Rattle.date.specs.Rules.{date}

pub read_once : (s : List ℕ) (a b : Read Date) → date_reads s a → date_reads s b → a ≡ b
read_once s = parser.read_once date s 7

pub parsed_once : (s : List ℕ) (a b : Result (Counted Date) Refused) → date_parses s a → date_parses s b → a ≡ b
parsed_once s = parser.parsed_once date s
