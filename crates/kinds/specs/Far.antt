-- Request W11: how far away another answer is.
use Rattle.std.specs.Prelude.{ℕ, ◌≤◌, ◌<◌, List, [], ◌∷◌, ◌++◌, ◌≡◌, length}
use Rattle.parser.specs.Answer.{Told, begun}
use Rattle.kinds.specs.declared.answer.Kind.{Kind}
use Rattle.kinds.specs.declared.answer.Kind.TheVariants as kind
use Rattle.kinds.specs.declared.answer.Record.{Record}
use Rattle.kinds.specs.Kinds.{rule_of}

-- the beginning reader's answer: number, record and count
abbrev pub answer_of : Kind → List ℕ → Told Record
answer_of k s = begun ((rule_of k).reads s 0)

abbrev pub Bytes : List ℕ → Type 0
Bytes [] = Unit {0}
Bytes (b ∷ l) = (b < 256) × Bytes l

-- "a continuation of at most ten bytes that changes the answer": of at most n
pub record Near (n : ℕ) (k : Kind) (s : List ℕ) : Type 0 where
  pub more : List ℕ
  pub bytes : Bytes more
  pub few : length more ≤ n
  pub another : answer_of k (s ++ more) ≡ answer_of k s → ⊥

-- "of the five kinds"
abbrev pub OfFive : Kind → Type 0
OfFive kind.Date = Unit
OfFive (kind.Time c) = Unit
OfFive kind.Offset = Unit
OfFive (kind.Stamp c) = Unit
OfFive kind.Duration = Unit
OfFive (kind.Interval c) = ⊥

-- "has none shorter"
abbrev pub NoneShorter : ℕ → Kind → List ℕ → Type 0
NoneShorter n k s = (x : List ℕ) → length x < n → answer_of k (s ++ x) ≡ answer_of k s

-- an input that needs n
pub record Needs (n : ℕ) (k : Kind) (s : List ℕ) : Type 0 where
  pub near : Near n k s
  pub none_shorter : NoneShorter n k s

-- an input of each kind that needs as many as any: a `+`, since a `Z` alone is an offset, and three bytes, `P1Y`, complete the empty interval (W12: "a
-- lone `+` needs them"); of the others the empty one
abbrev pub farthest : Kind → List ℕ
farthest kind.Date = []
farthest (kind.Time c) = []
farthest kind.Offset = 43 ∷ []
farthest (kind.Stamp c) = []
farthest kind.Duration = []
farthest (kind.Interval c) = 43 ∷ []
