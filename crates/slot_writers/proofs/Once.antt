-- No two outcomes meet one promise: the slots, the buffer and the number are fixed by what the slots and the buffer held before. Whether the
-- slots hold a record that some reader gives need not be told for that: where two outcomes differed, they would hold none, and then they agree.
use Prim.Native.Nat.{ℕ, ◌≤◌}
use mathlib.Core.List.{List, List-discrete}
use mathlib.Core.Bool.{Bool, true, false}
use mathlib.Core.Path.{◌≡◌, refl, sym, ◌∙◌}
use native.Mathlib.Decide.{ℕ_discrete}
use borrow.Author.Tests.{ltb-true, ltb-false}
use lib.Dec.{ltb}
use lib.IntN.{ℤ, ℤ_discrete}
use lib.ListN.{length}
use Rattle.parser.specs.Reading.{Reader}
use Rattle.writing.specs.Writing.{Readable}
use Rattle.slot_writers.specs.Promise.{Holds, LeavesIn, WritesFrom}

abbrev Same : List ℤ → List ℤ → List ℕ → List ℕ → ℕ → ℕ → Type 0
Same a b s t q r = (a ≡ b) × (s ≡ t) × (q ≡ r)

-- what cannot fail to be equal is
not_other : {B : Type 0} (x y : B) → Dec (x ≡ y) → ((x ≡ y → ⊥) → ⊥) → x ≡ y
not_other x y (yes e) h = e
not_other x y (no f) h = absurd (h f)

module _ (a b : List ℤ) (s t : List ℕ) (q r : ℕ) where
  left_once : {k m : ℕ} {l : List ℕ} {before : List ℤ} → LeavesIn k m l before a s q → LeavesIn k m l before b t r → Same a b s t q r
  left_once x y = (x.count ∙ sym y.count, x.buffer ∙ sym y.buffer, x.number ∙ sym y.number)

  not_others : ((Same a b s t q r → ⊥) → ⊥) → Same a b s t q r
  not_others h = (
    not_other a b (List-discrete ℤ_discrete a b) (λ f. h (λ same. f same.0)),
    not_other s t (List-discrete ℕ_discrete s t) (λ f. h (λ same. f same.1)),
    not_other q r (ℕ_discrete q r) (λ f. h (λ same. f same.2)),
  )

  module _ {A : Type 0} (n : ℕ) (p : Reader A) (slots : A → List ℤ) (spelling : A → List ℕ) (before : List ℤ) (old : List ℕ) where
    held : WritesFrom n p slots spelling before a old s q → WritesFrom n p slots spelling before b old t r → n ≤ length before → (c : A) → Readable p c → Holds slots c before → Same a b s t q r
    held x y room c g i = go (ltb (length old) (length (spelling c))) refl
      where
        go : (short : Bool) → ltb (length old) (length (spelling c)) ≡ short → Same a b s t q r
        go true e = let l = ltb-true _ _ e in left_once (x.short room c g i l) (y.short room c g i l)
        go false e = let l = ltb-false _ _ e in left_once (x.fits room c g i l) (y.fits room c g i l)

    pub written_once : WritesFrom n p slots spelling before a old s q → WritesFrom n p slots spelling before b old t r → (a ≡ b) × (s ≡ t) × (q ≡ r)
    written_once x y = go (ltb (length before) n) refl
      where
        go : (few : Bool) → ltb (length before) n ≡ few → Same a b s t q r
        go true e =
            let i = x.few (ltb-true _ _ e) in
            let j = y.few (ltb-true _ _ e) in
            (i.0.1 ∙ sym j.0.1, i.1 ∙ sym j.1, i.0.0 ∙ sym j.0.0)
        go false e =
            let room = ltb-false _ _ e in
            not_others (λ other. other (left_once (x.unread room (λ c g i. other (held x y room c g i))) (y.unread room (λ c g i. other (held x y room c g i)))))
