-- Differences of texts: exchanged they are negated, over three texts they add up, and a text is 0 from itself.
use Prim.Native.Nat.{ℕ}
use mathlib.Core.List.{List}
use mathlib.Core.Option.{Option, some, none}
use mathlib.Core.Path.{◌≡◌, refl, sym, ap, ◌∙◌}
use lib.IntN.{neg_ℤ, ◌+ℤ◌}
use Rattle.std.specs.declared.result.Result.{Result}
use Rattle.std.specs.declared.result.Result.TheVariants.{Ok}
use Rattle.types.specs.declared.Choices.{Choices}
use Rattle.types.specs.declared.DateTime.{DateTime}
use Rattle.moments.specs.declared.Apart.{Apart}
use Rattle.moments.specs.declared.Fault.{Fault}
use Rattle.moments.specs.declared.Faulty.{Faulty}
use Rattle.moments.specs.Moments.{moment_of, Between}
use Rattle.moments.proofs.Differences as moments
use Rattle.gaps.specs.Gaps.{wholly, Refuses, OfTexts, Tells}

-- where a difference is told, both texts are date-times
pub record Both (c : Choices) (s t : List ℕ) (d : Apart) : Type 0 where
  pub first : DateTime
  pub second : DateTime
  pub first_is : (wholly c s).value ≡ some first
  pub second_is : (wholly c t).value ≡ some second
  pub between : Between (moment_of first) (moment_of second) (Ok d)

pub both : (c : Choices) (s t : List ℕ) (d : Apart) → Tells c s t (Ok d) → Both c s t d
both c s t d h = go (wholly c s).value (wholly c t).value refl refl h
  where
    refused : {n : ℕ} {which : Fault → Faulty} → Refuses n which (Ok d) → ⊥
    refused e = let g = e.is in cc

    go : (x y : Option DateTime) → (wholly c s).value ≡ x → (wholly c t).value ≡ y → OfTexts x (wholly c s).number y (wholly c t).number (Ok d) → Both c s t d
    go none y e f h = absurd (refused h)
    go (some x) none e f h = absurd (refused h)
    go (some x) (some y) e f h = record { first = x; second = y; first_is = e; second_is = f; between = h }

-- what is told of two texts that are these date-times
pub of_both : (c : Choices) (s t : List ℕ) (r : Result Apart Faulty) {x y : DateTime} → (wholly c s).value ≡ some x → (wholly c t).value ≡ some y → Tells c s t r → Between (moment_of x) (moment_of y) r
of_both c s t r e f h = rw f at (rw e at h)

-- "Exchanged stamps give the negated difference"
pub exchanged : (c : Choices) (s t : List ℕ) (d : Apart) (r : Result Apart Faulty) → Tells c s t (Ok d) → Tells c t s r → moments.Told (neg_ℤ (moments.in_all d)) r
exchanged c s t d r h k =
    let b = both c s t d h in
    moments.exchanged (moment_of b.first) (moment_of b.second) d r b.between (of_both c t s r b.second_is b.first_is k)

-- "differences over three stamps add up"
pub over_three : (c : Choices) (s t u : List ℕ) (d e : Apart) (r : Result Apart Faulty) → Tells c s t (Ok d) → Tells c t u (Ok e) → Tells c s u r → moments.Told (moments.in_all d +ℤ moments.in_all e) r
over_three c s t u d e r h k l =
    let p = both c s t d h in
    let q = both c t u e k in
    let met : ◌≡◌ {A = Option DateTime} (some p.second) (some q.first) = sym p.second_is ∙ q.first_is in
    let one : p.second ≡ q.first = cc in
    let behind = rw (ap moment_of (sym one)) at q.between in
    moments.over_three (moment_of p.first) (moment_of p.second) (moment_of q.second) d e r p.between behind (of_both c s u r p.first_is q.second_is l)

-- a text and itself
pub itself : (c : Choices) (s : List ℕ) (d : Apart) → Tells c s s (Ok d) → d ≡ moments.no_time
itself c s d h =
    let b = both c s s d h in
    let met : ◌≡◌ {A = Option DateTime} (some b.first) (some b.second) = sym b.first_is ∙ b.second_is in
    let one : b.first ≡ b.second = cc in
    moments.itself (moment_of b.first) d (rw (ap moment_of (sym one)) at b.between)
