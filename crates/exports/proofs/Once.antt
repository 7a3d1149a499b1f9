-- No two outcomes meet one promise of a writer under a number, also under one that names no choices. Of a reader's promise slot_readers says it.
use Prim.Native.Nat.{ℕ}
use mathlib.Core.List.{List}
use mathlib.Core.Path.{◌≡◌, sym, ◌∙◌}
use lib.IntN.{ℤ}
use Rattle.types.specs.declared.Choices.{Choices}
use Rattle.parser.specs.Reading.{Reader}
use Rattle.slots.proofs.Choosing.{under_once, unnamed_once}
use Rattle.slot_writers.proofs.Once as writers
use Rattle.exports.specs.Promises.{WritesUnder}

module _ {A : Type 0} (n : ℕ) (p : Choices → Reader A) (slots : A → List ℤ) (spelling : A → List ℕ) (choices : ℕ) (before a b : List ℤ) (old s t : List ℕ) (q r : ℕ) where
  pub written_once : WritesUnder n p slots spelling choices before a old s q → WritesUnder n p slots spelling choices before b old t r → (a ≡ b) × (s ≡ t) × (q ≡ r)
  written_once =
      under_once (λ c. writers.written_once a b s t q r n (p c) slots spelling before old)
      (λ i j. let one = unnamed_once i.0 j.0 in (one.0, i.1 ∙ sym j.1, one.1))
