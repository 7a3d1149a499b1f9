-- No two answers meet one promise: the rule fixes number, record and count, and the continuations the verdict.
use Rattle.std.specs.Prelude.{List, ℕ, ◌≡◌, Result}
use Rattle.types.specs.declared.Offset.{Offset}
use Rattle.parser.specs.declared.answer.Counted.{Counted}
use Rattle.parser.specs.declared.answer.Refused.{Refused}
use Rattle.parser.specs.declared.answer.Read.{Read}
use Rattle.parser.proofs.Once as parser
use Rattle.offsets.specs.Answer.{offset_reads, offset_parses}
use Rattle.offset.specs.Rules.{offset}

pub read_once : (s : List ℕ) (a b : Read Offset) → offset_reads s a → offset_reads s b → a ≡ b
read_once s = parser.read_once offset s 2

pub parsed_once : (s : List ℕ) (a b : Result (Counted Offset) Refused) → offset_parses s a → offset_parses s b → a ≡ b
parsed_once s = parser.parsed_once offset s
