-- What is known of a choice once it is known where it fell.
use mathlib.Core.Bool.{Bool, true, false}
use mathlib.Core.Path.{◌≡◌, refl}
use Rattle.parser.specs.Reading.{pick}

-- a choice that did not fall on what it is not
pub picked_second : {A : Type 0} (t : Bool) {x y g : A} → (x ≡ g → ⊥) → pick t x y ≡ g → (t ≡ false) × (y ≡ g)
picked_second true n e = absurd (n e)
picked_second false n e = (refl, e)

pub picked_first : {A : Type 0} (t : Bool) {x y g : A} → (y ≡ g → ⊥) → pick t x y ≡ g → (t ≡ true) × (x ≡ g)
picked_first true n e = (refl, e)
picked_first false n e = absurd (n e)

pub picked_neither : {A : Type 0} (t : Bool) {x y g : A} → (x ≡ g → ⊥) → (y ≡ g → ⊥) → pick t x y ≡ g → ⊥
picked_neither true m n e = m e
picked_neither false m n e = n e
