-- No two answers meet one promise, of whichever kind: the rule fixes number, record and count, and the continuations the verdict.
use Prim.Native.Nat.{ℕ}
use mathlib.Core.List.{List}
use mathlib.Core.Path.{◌≡◌}
use Rattle.parser.specs.Told.{told}
use Rattle.parser.specs.declared.answer.Read.{Read}
use Rattle.parser.proofs.Once as once
use Rattle.kinds.specs.declared.answer.Kind.{Kind}
use Rattle.kinds.specs.declared.answer.Record.{Record}
use Rattle.kinds.specs.Kinds.{Answer, rule_of, bound, Reads, Parses}

pub told_once : (a b : Answer) → told a ≡ told b → a ≡ b
told_once = once.told_once

pub read_once : (k : Kind) (s : List ℕ) (a b : Read Record) → Reads k s a → Reads k s b → a ≡ b
read_once k s = once.read_once (rule_of k) s (bound k)

pub parsed_once : (k : Kind) (s : List ℕ) (a b : Answer) → Parses k s a → Parses k s b → a ≡ b
parsed_once k s = once.parsed_once (rule_of k) s
