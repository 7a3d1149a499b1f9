-- What broke a text, over the whole reader of its kind and all continuations.
use Rattle.std.specs.Prelude.{ℕ, ◌+◌, ◌<◌, List, ◌++◌, ◌≡◌, length, take}
use Rattle.types.specs.Editions.{document01}
use Rattle.parser.specs.Answer.{recorded, Ended}
use Rattle.kinds.specs.declared.answer.Kind.{Kind}
use Rattle.kinds.specs.declared.answer.Kind.TheVariants as kind
use Rattle.kinds.specs.declared.answer.Record.{Record}
use Rattle.kinds.specs.Kinds.{rule_of}
use Rattle.breaks.specs.declared.Reason.{Reason}
use Rattle.breaks.specs.declared.Reason.TheVariants.{Ok, Early, Bad}

-- "under 2019 rules", whatever choices a kind is named with
abbrev pub under2019 : Kind → Kind
under2019 kind.Date = kind.Date
under2019 (kind.Time c) = kind.Time document01
under2019 kind.Offset = kind.Offset
under2019 (kind.Stamp c) = kind.Stamp document01
under2019 kind.Duration = kind.Duration
under2019 (kind.Interval c) = kind.Interval document01

-- "the whole reader accepts the line": it answers with a record
pub record Accepts (k : Kind) (s : List ℕ) : Type 0 where
  pub value : Record
  pub count : ℕ
  pub whole : Ended (rule_of (under2019 k)) s (recorded value count)

-- "some continuation of it is accepted", perhaps the empty one
pub record Completable (k : Kind) (s : List ℕ) : Type 0 where
  pub more : List ℕ
  pub accepted : Accepts k (s ++ more)

-- "the first byte after which no continuation, not even the empty one, is accepted": it stands at n. "The part shown could be completed, and with
-- one byte more it couldn't."
pub record BreaksAt (k : Kind) (s : List ℕ) (n : ℕ) : Type 0 where
  pub within : n < length s
  pub before : Completable k (take n s)
  pub behind : Completable k (take (n + 1) s) → ⊥

-- "If the whole reader accepts the line, a tool says so. Else, if some continuation of it is accepted, the tool says that the line ends early. Else
-- it names the first byte [..]"
abbrev pub Tells : Kind → List ℕ → Reason → Type 0
Tells k s Ok = Accepts k s
Tells k s Early = (Accepts k s → ⊥) × Completable k s
Tells k s (Bad n) = (Completable k s → ⊥) × BreaksAt k s n

-- "and hands back the part of the caller's line before that byte": the length of that part, "(for `early`, of the whole text)"
abbrev pub handed : ℕ → Reason → ℕ
handed all Ok = all
handed all Early = all
handed all (Bad n) = n

pub record Hands (k : Kind) (s r : List ℕ) : Type 0 where
  pub reason : Reason
  pub tells : Tells k s reason
  pub part : r ≡ take (handed (length s) reason) s

-- a number for each, for a caller who has numbers alone
abbrev pub numbered : Reason → ℕ
numbered Ok = 0
numbered Early = 1
numbered (Bad n) = 2
