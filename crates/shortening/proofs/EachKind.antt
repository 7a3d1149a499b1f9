-- What can be left out of a record of each kind, once over the kind.
use Prim.Native.Nat.{ℕ, ◌≤◌}
use mathlib.Core.List.{List}
use mathlib.Core.Bool.{Bool, true, false}
use mathlib.Core.Option.{Option, some, none}
use mathlib.Core.Logic.{inl}
use mathlib.Core.Path.{◌≡◌, refl, sym, ◌∙◌}
use native.Mathlib.Omega.{arith}
use lib.ListN.{length}
use Rattle.types.specs.declared.Choices.{Choices}
use Rattle.types.specs.declared.Duration.{Duration}
use Rattle.types.specs.declared.Interval.{Interval}
use Rattle.parser.specs.Reading.{Reader, map}
use Rattle.duration.specs.Rules.{duration}
use Rattle.interval.specs.Once.{interval}
use Rattle.interval.proofs.Alternatives.{interval_alike}
use Rattle.kinds.specs.declared.answer.Kind.{Kind}
use Rattle.kinds.specs.declared.answer.Kind.TheVariants as kind
use Rattle.kinds.specs.Kinds.{rule_of}
use Rattle.shortening.specs.Sides.{has_sides}
use Rattle.shortening.proofs.Cuts.{whole, kept, before, SameAt, map_same}
use Rattle.shortening.proofs.Families.{Family, zeros, fractions, Own, own, reaches_none, Proper}
use Rattle.shortening.proofs.Trims.{Trims}
use Rattle.shortening.proofs.Rules.{date_trims, time_trims, offset_trims, datetime_trims, duration_trims}
use Rattle.shortening.proofs.Sides.{zeros≢fractions, one_family, Tidied, tidied_all}
use Rattle.shortening.proofs.Intervals.{May, duration_simulates, interval_same}
use Rattle.shortening.proofs.Short.{interval_spans}

-- a text is read as the shorter one is, and an open one of which nothing more can be left out is short
pub record Shortens {A : Type 0} (sides : Bool) (o : Option Family) (p : Reader A) : Type 0 where
  pub simulates : (f : Family) (z : Own f) → May sides o f (own f z).before → SameAt (own f z) 0 0 p
  pub within : (s : List ℕ) → Tidied sides o s → p.more s 0 ≡ true → length s ≤ 199

-- ---- one family

trims_within : {A : Type 0} (f : Family) {w : ℕ} {p : Reader A} → w ≤ 199 → Trims f w p → (s : List ℕ) → Tidied false (some f) s → p.more s 0 ≡ true → length s ≤ 199
trims_within f le hp s h o = omega (arith, (hp.within s 0 (tidied_all f s h) 0 (first f)).opens o)
  where
    first : (g : Family) → Proper g s 0 0
    first zeros = (reaches_none s 0, refl)
    first fractions = reaches_none s 0

fraction_shortens : {A B : Type 0} (t : A → B) {w : ℕ} {p : Reader A} → w ≤ 199 → Trims fractions w p → Shortens false (some fractions) (map t p)
unfolding map
fraction_shortens t {w} {p} le hp = record { simulates = simulates; within = trims_within fractions le hp }
  where
    simulates : (f : Family) (z : Own f) → May false (some fractions) f (own f z).before → SameAt (own f z) 0 0 (map t p)
    simulates zeros z may = absurd (zeros≢fractions (sym may ∙ rw (one_family fractions z.before)))
    simulates fractions z may = map_same (own fractions z) 0 0 t p (hp.simulates (inl z) 0 0 (before refl (omega arith)))

duration_shortens : {B : Type 0} (t : Duration → B) → Shortens false (some zeros) (map t duration)
unfolding map
duration_shortens t = record { simulates = λ f z may. map_same (own f z) 0 0 t duration (duration_simulates f z 0 0 (before refl (omega arith))); within = trims_within zeros (omega arith) duration_trims }

-- ---- sides

interval_shortens : {B : Type 0} (t : Interval → B) (c : Choices) → Shortens true none (map t (interval c))
unfolding map
interval_shortens t c = record { simulates = λ f z may. map_same (own f z) 0 0 t (interval c) (same f z may); within = λ s h o. (interval_spans s h c 0 refl).opens (sym (interval_alike c s 0).more ∙ o) }
  where
    same : (f : Family) (z : Own f) → May true none f (own f z).before → SameAt (own f z) 0 0 (interval c)
    same f z may = rw ((interval_alike c (whole (own f z)) 0).reads, (interval_alike c (kept (own f z)) 0).reads) (interval_same f z c may 0 0 (before refl (omega arith)) refl)

-- ---- over the kind

-- what a text begins with
abbrev pub first_of : Kind → Option Family
first_of kind.Date = some fractions
first_of (kind.Time c) = some fractions
first_of kind.Offset = some fractions
first_of (kind.Stamp c) = some fractions
first_of kind.Duration = some zeros
first_of (kind.Interval c) = none

pub shortens : (k : Kind) → Shortens (has_sides k) (first_of k) (rule_of k)
shortens kind.Date = fraction_shortens _ (omega arith) date_trims
shortens (kind.Time c) = fraction_shortens _ (omega arith) (time_trims c)
shortens kind.Offset = fraction_shortens _ (omega arith) offset_trims
shortens (kind.Stamp c) = fraction_shortens _ (omega arith) (datetime_trims c)
shortens kind.Duration = duration_shortens _
shortens (kind.Interval c) = interval_shortens _ c
