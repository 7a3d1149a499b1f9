-- What slots hold, as the code reads it from there: a number of 64 bits by its bits, and a list slot by slot.
use Prim.Native.Nat.{ℕ, suc, ◌-◌, ◌^◌, ◌<◌, ◌≤◌}
use mathlib.Core.List.{List, ◌∷◌}
use mathlib.Core.Bool.{Bool, true, false}
use mathlib.Core.Path.{◌≡◌, refl, ap, ◌∙◌}
use borrow.Author.Tests.{lt-ltb, le-ltb}
use lib.Dec.{ltb}
use lib.IntN.{ℤ, pos, negsuc}
use mir.Syntax.{w64}
use mir.Val.{to_z}
use Rattle.parser.specs.Reading.{pick}
use Rattle.slots.specs.Slots.{as_slot}

-- a slot has the same bits as its number
pub slot_bits : (n : ℕ) → as_slot n ≡ to_z w64 n
slot_bits n = go (ltb n (2 ^ 63)) refl
  where
    go : (t : Bool) → ltb n (2 ^ 63) ≡ t → pick t (pos n) (negsuc (2 ^ 64 - suc n)) ≡ to_z w64 n
    go true e = rw e
    go false e = rw e

pub slot_small : (n : ℕ) → n < 2 ^ 63 → as_slot n ≡ pos n
slot_small n h = rw (lt-ltb n (2 ^ 63) h)

pub slot_large : (n : ℕ) → 2 ^ 63 ≤ n → as_slot n ≡ negsuc (2 ^ 64 - suc n)
slot_large n h = rw (le-ltb n (2 ^ 63) h)

infixr 5 ◌then◌
pub ◌then◌ : {x y : ℤ} {xs ys : List ℤ} → x ≡ y → xs ≡ ys → x ∷ xs ≡ y ∷ ys
◌then◌ {y = y} {xs = xs} e es = ap (λ (z : ℤ). z ∷ xs) e ∙ ap (λ (zs : List ℤ). y ∷ zs) es
