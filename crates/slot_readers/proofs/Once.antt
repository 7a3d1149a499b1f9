-- No two outcomes meet one promise: the slots and the number are fixed by the bytes and by what the slots held before. So it is under a number
-- too, also under one that names no choices.
use Prim.Native.Nat.{ℕ}
use mathlib.Core.Bool.{Bool, true, false}
use mathlib.Core.List.{List}
use mathlib.Core.Path.{◌≡◌, refl, sym, ap, ◌∙◌}
use lib.Dec.{ltb}
use lib.IntN.{ℤ}
use lib.ListN.{length}
use borrow.Author.Tests.{ltb-true, ltb-false}
use Rattle.types.specs.declared.Choices.{Choices}
use Rattle.types.specs.declared.Verdict.{Verdict}
use Rattle.parser.specs.Reading.{Reader}
use Rattle.parser.specs.Answer.{Told, begun, Judged}
use Rattle.parser.proofs.Verdict.{begins_once}
use Rattle.slots.specs.Slots.{verdict_slot, answer_slots, over, Answered}
use Rattle.slots.proofs.Choosing.{under_once, unnamed_once}
use Rattle.slot_readers.specs.Promises.{BeginsIn, EndsIn, BeginsUnder, EndsUnder}

answered_once : {A : Type 0} (f : A → List ℤ) (v w : ℤ) (told : Told A) (before a b : List ℤ) (q r : ℕ) → v ≡ w → Answered f v told before a q → Answered f w told before b r → (a ≡ b) × (q ≡ r)
answered_once f v w told before a b q r e x y =
    (x.filled ∙ ap (λ (z : ℤ). over (answer_slots f z told) before) e ∙ sym y.filled, x.number ∙ sym y.number)

module _ {A : Type 0} (n k : ℕ) (p : Reader A) (f : A → List ℤ) (s : List ℕ) (before a b : List ℤ) (q r : ℕ) where
  pub begun_once : BeginsIn n k p f s before a q → BeginsIn n k p f s before b r → (a ≡ b) × (q ≡ r)
  begun_once x y = go (ltb (length before) n) refl
    where
      one : (v w : Verdict) → Judged k p s v → Judged k p s w → v ≡ w
      one v w i j = (begins_once k p s (begun (p.reads s 0)) (begun (p.reads s 0)) v w (record { answer = refl; verdict = i }) (record { answer = refl; verdict = j })).1

      go : (t : Bool) → ltb (length before) n ≡ t → (a ≡ b) × (q ≡ r)
      go true e =
          let i = x.few (ltb-true _ _ e) in
          let j = y.few (ltb-true _ _ e) in
          (i.1 ∙ sym j.1, i.0 ∙ sym j.0)
      go false e =
          let i = x.room (ltb-false _ _ e) in
          let j = y.room (ltb-false _ _ e) in
          answered_once f (verdict_slot i.0) (verdict_slot j.0) (begun (p.reads s 0)) before a b q r (ap verdict_slot (one i.0 j.0 i.1.0 j.1.0)) i.1.1 j.1.1

  pub ended_once : EndsIn n p f s before a q → EndsIn n p f s before b r → (a ≡ b) × (q ≡ r)
  ended_once x y = go (ltb (length before) n) refl
    where
      go : (t : Bool) → ltb (length before) n ≡ t → (a ≡ b) × (q ≡ r)
      go true e =
          let i = x.few (ltb-true _ _ e) in
          let j = y.few (ltb-true _ _ e) in
          (i.1 ∙ sym j.1, i.0 ∙ sym j.0)
      go false e = answered_once f _ _ _ before a b q r refl (x.room (ltb-false _ _ e)) (y.room (ltb-false _ _ e))

module _ {A : Type 0} (n k : ℕ) (p : Choices → Reader A) (f : A → List ℤ) (choices : ℕ) (s : List ℕ) (before a b : List ℤ) (q r : ℕ) where
  pub begun_under_once : BeginsUnder n k p f choices s before a q → BeginsUnder n k p f choices s before b r → (a ≡ b) × (q ≡ r)
  begun_under_once = under_once (λ c. begun_once n k (p c) f s before a b q r) unnamed_once

  pub ended_under_once : EndsUnder n p f choices s before a q → EndsUnder n p f choices s before b r → (a ≡ b) × (q ≡ r)
  ended_under_once = under_once (λ c. ended_once n k (p c) f s before a b q r) unnamed_once
