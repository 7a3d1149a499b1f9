-- What each function promises a C caller of the slots; and, of a kind that choices change, where the caller names them by a number: what is
-- promised under those choices, and of a number that names none 254, whatever slots and bytes there are, with nothing written.
use Rattle.std.specs.Prelude.{ℕ, ◌<◌, ◌≤◌, List, ℤ, length}
use Rattle.types.specs.declared.Choices.{Choices}
use Rattle.types.specs.declared.Verdict.{Verdict}
use Rattle.parser.specs.Reading.{Reader}
use Rattle.parser.specs.Answer.{begun, ended, Judged}
use Rattle.slots.specs.Slots.{verdict_slot, no_verdict, Untouched, Answered}
use Rattle.slots.specs.Choosing.{Unnamed, Under}

-- of a beginning reader whose kind takes n slots; the verdict is open within k bytes
pub record BeginsIn {A : Type 0} (n k : ℕ) (p : Reader A) (slots : A → List ℤ) (s : List ℕ) (before after : List ℤ) (r : ℕ) : Type 0 where
  pub few : length before < n → Untouched before after r
  pub room : n ≤ length before → (v : Verdict) × (Judged k p s v × Answered slots (verdict_slot v) (begun (p.reads s 0)) before after r)

-- of a whole reader
pub record EndsIn {A : Type 0} (n : ℕ) (p : Reader A) (slots : A → List ℤ) (s : List ℕ) (before after : List ℤ) (r : ℕ) : Type 0 where
  pub few : length before < n → Untouched before after r
  pub room : n ≤ length before → Answered slots no_verdict (ended (length s) (p.reads s 0)) before after r

-- the same under choices
abbrev pub BeginsUnder : {A : Type 0} → ℕ → ℕ → (Choices → Reader A) → (A → List ℤ) → ℕ → List ℕ → List ℤ → List ℤ → ℕ → Type 0
BeginsUnder n k p slots choices s before after r = Under choices (λ c. BeginsIn n k (p c) slots s before after r) (Unnamed before after r)

abbrev pub EndsUnder : {A : Type 0} → ℕ → (Choices → Reader A) → (A → List ℤ) → ℕ → List ℕ → List ℤ → List ℤ → ℕ → Type 0
EndsUnder n p slots choices s before after r = Under choices (λ c. EndsIn n (p c) slots s before after r) (Unnamed before after r)
