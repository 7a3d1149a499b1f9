-- How far apart two texts are, told to a C caller in three slots.
use Rattle.std.specs.Prelude.{ℕ, ◌<◌, ◌≤◌, List, [], ◌∷◌, ◌≡◌, ℤ, pos, length, Result}
use Rattle.std.specs.declared.result.Result.TheVariants.{Ok, Err}
use Rattle.types.specs.declared.Choices.{Choices}
use Rattle.slots.specs.Slots.{over, Untouched}
use Rattle.slots.specs.Choosing.{Unnamed, Under}
use Rattle.moments.specs.declared.Apart.{Apart}
use Rattle.moments.specs.declared.Faulty.{Faulty}
use Rattle.moments.specs.declared.Faulty.TheVariants.{First, Second}
use Rattle.moments.specs.Moments.{apart_number}
use Rattle.gaps.specs.Gaps.{Tells}

-- slot 0 the seconds, slot 1 the nanoseconds, and slot 2 the text that is refused: 0 none, 1 the first, 2 the second
abbrev pub apart_slots : Result Apart Faulty → List ℤ
apart_slots (Ok apart) = apart.seconds ∷ pos apart.nanoseconds ∷ pos 0 ∷ []
apart_slots (Err (First fault)) = pos 0 ∷ pos 0 ∷ pos 1 ∷ []
apart_slots (Err (Second fault)) = pos 0 ∷ pos 0 ∷ pos 2 ∷ []

-- 0, or the refusal's number; the slots past the third are as they were
pub record ApartTold (c : Choices) (s t : List ℕ) (before after : List ℤ) (r : ℕ) : Type 0 where
  pub told : Result Apart Faulty
  pub tells : Tells c s t told
  pub number : r ≡ apart_number told
  pub filled : after ≡ over (apart_slots told) before

pub record ApartIn (c : Choices) (s t : List ℕ) (before after : List ℤ) (r : ℕ) : Type 0 where
  pub few : length before < 3 → Untouched before after r
  pub room : 3 ≤ length before → ApartTold c s t before after r

-- under the choices that a number names
abbrev pub ApartUnder : ℕ → List ℕ → List ℕ → List ℤ → List ℤ → ℕ → Type 0
ApartUnder choices s t before after r = Under choices (λ c. ApartIn c s t before after r) (Unnamed before after r)
