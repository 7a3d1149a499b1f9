-- No two outcomes meet the promise: the slots and the number are fixed by the choices, the texts and what the slots held before. So it is also
-- under a number that names no choices.
use Prim.Native.Nat.{ℕ}
use mathlib.Core.Bool.{Bool, true, false}
use mathlib.Core.List.{List}
use mathlib.Core.Path.{◌≡◌, refl, sym, ap, ◌∙◌}
use lib.Dec.{ltb}
use lib.IntN.{ℤ}
use lib.ListN.{length}
use borrow.Author.Tests.{ltb-true, ltb-false}
use Rattle.types.specs.declared.Choices.{Choices}
use Rattle.slots.specs.Slots.{over}
use Rattle.slots.proofs.Choosing.{under_once, unnamed_once}
use Rattle.moments.specs.Moments.{apart_number}
use Rattle.gaps.proofs.Once.{apart_once}
use Rattle.aparts.specs.Promise.{apart_slots, ApartTold, ApartIn, ApartUnder}

module _ (s t : List ℕ) (before a b : List ℤ) (q r : ℕ) where
  told_once : (c : Choices) → ApartTold c s t before a q → ApartTold c s t before b r → (a ≡ b) × (q ≡ r)
  told_once c i j =
      let same = apart_once c s t i.told j.told i.tells j.tells in
      (i.filled ∙ ap (λ x. over (apart_slots x) before) same ∙ sym j.filled, i.number ∙ ap apart_number same ∙ sym j.number)

  in_once : (c : Choices) → ApartIn c s t before a q → ApartIn c s t before b r → (a ≡ b) × (q ≡ r)
  in_once c x y = go (ltb (length before) 3) refl
    where
      go : (few : Bool) → ltb (length before) 3 ≡ few → (a ≡ b) × (q ≡ r)
      go true e =
          let i = x.few (ltb-true _ _ e) in
          let j = y.few (ltb-true _ _ e) in
          (i.1 ∙ sym j.1, i.0 ∙ sym j.0)
      go false e = told_once c (x.room (ltb-false _ _ e)) (y.room (ltb-false _ _ e))

  pub apart_under_once : (choices : ℕ) → ApartUnder choices s t before a q → ApartUnder choices s t before b r → (a ≡ b) × (q ≡ r)
  apart_under_once choices = under_once in_once unnamed_once
