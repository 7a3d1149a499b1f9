-- The ranges of a time, by the hour: what the code tests, field by field.
use Prim.Native.Nat.{ℕ, ◌%◌, ◌<◌, ◌≤◌}
use mathlib.Core.Bool.{Bool, true, false}
use mathlib.Core.Path.{◌≡◌, refl}
use native.Mathlib.Omega.{arith}
use borrow.Author.Tests.{leb-true, le-leb, lt-leb, eqb-true, ne_eqb}
use lib.Dec.{leb, eqb}
use Rattle.types.specs.declared.Choices.{Choices}
use Rattle.types.specs.declared.Edition.{Edition}
use Rattle.types.specs.declared.Edition.TheVariants.{E2004, E2019}
use Rattle.types.specs.declared.Fraction.{Fraction}
use Rattle.types.specs.declared.Time.{Time}
use Rattle.parser.specs.Digits.{field}
use Rattle.parser.proofs.Fields.{and_first, and_second}
use Rattle.time.specs.Rules.{hour_of, ends_day, no_fraction}
use Rattle.time_writer.specs.Ranges.{time_offset_given, last_hour, up_to, fraction_given, behind_given, clock_given, time_given}
use Rattle.time_writer.proofs.Nine.{FractionWithin, fraction_day}

-- what stands behind an hour
pub record Within (z : Bool) (m s : ℕ) (f : Fraction) : Type 0 where
  pub minute : m ≤ up_to z 59
  pub second : s ≤ up_to z 60
  pub fraction : FractionWithin z f

abbrev pub fraction_in : Time → Fraction
fraction_in t = record { nanosecond = t.nanosecond; digits = t.digits }

pub record TimeWithin (c : Choices) (t : Time) : Type 0 where
  pub hour : t.hour ≤ last_hour c.edition
  pub behind : Within (ends_day c.edition t.hour) t.minute t.second (fraction_in t)
  pub offset : time_offset_given t.offset ≡ true

pub time_within : (c : Choices) (t : Time) → time_given c t ≡ true → TimeWithin c t
unfolding time_given clock_given
time_within c t e =
    let last = last_hour c.edition in
    let z = ends_day c.edition t.hour in
    let f = and_first (clock_given c.edition t) _ e in
    let g = and_second (leb t.hour last) f in
    let h = and_second (leb t.minute (up_to z 59)) g in
    let i = and_second (leb t.second (up_to z 60)) h in
    record {
      hour = leb-true t.hour last (and_first (leb t.hour last) _ f);
      behind = record {
        minute = leb-true t.minute (up_to z 59) (and_first (leb t.minute (up_to z 59)) _ g);
        second = leb-true t.second (up_to z 60) (and_first (leb t.second (up_to z 60)) _ h);
        fraction = record {
          nanosecond = leb-true t.nanosecond (up_to z 999999999) (and_first (leb t.nanosecond (up_to z 999999999)) _ i);
          fits = and_second (leb t.nanosecond (up_to z 999999999)) i;
        };
      };
      offset = and_second (clock_given c.edition t) e;
    }

-- none is wider than document 01's, but for one hour
pub last_small : (e : Edition) → last_hour e ≤ 24
last_small E2019 = omega arith
last_small E2004 = omega arith

pub within_day : (z : Bool) {m s : ℕ} {f : Fraction} → Within z m s f → Within false m s f
within_day false w = w
within_day true w = record { minute = omega (arith, w.minute); second = omega (arith, w.second); fraction = fraction_day true w.fraction }

-- no digits are no nanoseconds
pub no_digits : (f : Fraction) → FractionWithin false f → f.digits ≡ 0 → no_fraction ≡ f
unfolding fraction_given
no_digits f w z =
    let fits : eqb (f.nanosecond % 1000000000) 0 ≡ true = and_second (leb 0 9) (rw z at w.fits) in
    let none : f.nanosecond ≡ 0 = omega (arith, w.nanosecond, eqb-true (f.nanosecond % 1000000000) 0 fits) in
    rw (none, z)

pub hour_is : (e : Edition) → hour_of e ≡ field 2 0 (last_hour e)
hour_is E2019 = refl
hour_is E2004 = refl

-- below 24 no hour ends the day, of either edition; 24 does, of 2004; and no edition goes further
pub in_day : (e : Edition) (t : Time) → t.hour < 24 → clock_given e t ≡ behind_given 59 60 999999999 t
unfolding clock_given
in_day E2019 t h = rw (le-leb t.hour 23 (omega arith))
in_day E2004 t h = rw (le-leb t.hour 24 (omega arith), ne_eqb t.hour 24 (λ e. omega arith))

pub end_of_day : (t : Time) → t.hour ≡ 24 → clock_given E2004 t ≡ behind_given 0 0 0 t
unfolding clock_given
end_of_day t h = rw h

pub past_last : (e : Edition) (t : Time) → last_hour e < t.hour → clock_given e t ≡ false
unfolding clock_given
past_last e t h = rw (lt-leb t.hour (last_hour e) h)
