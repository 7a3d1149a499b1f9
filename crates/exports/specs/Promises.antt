-- What the writer of a kind that choices change promises a C caller, who names them by a number: what it promises under those choices, and of
-- a number that names none 254, whatever slots and bytes there are, with nothing written. The readers' are in slot_readers' specs/Promises.antt.
use Rattle.std.specs.Prelude.{ℕ, List, ◌≡◌, ℤ}
use Rattle.types.specs.declared.Choices.{Choices}
use Rattle.parser.specs.Reading.{Reader}
use Rattle.slots.specs.Choosing.{Unnamed, Under}
use Rattle.slot_writers.specs.Promise.{WritesFrom}

abbrev pub WritesUnder : {A : Type 0} → ℕ → (Choices → Reader A) → (A → List ℤ) → (A → List ℕ) → ℕ → List ℤ → List ℤ → List ℕ → List ℕ → ℕ → Type 0
WritesUnder n p slots spelling choices before after old new r = Under choices (λ c. WritesFrom n (p c) slots spelling before after old new r) (Unnamed before after r × (new ≡ old))
