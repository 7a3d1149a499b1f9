-- What is read as a time lies in the ranges of its edition, in either reading: what is counted stays below an hour, and is nothing where all
-- has to be 0.
use Prim.Native.Nat.{ℕ, ◌+◌, ◌*◌, ◌/◌, ◌%◌, ◌≤◌}
use mathlib.Core.Bool.{Bool, true, false}
use mathlib.Core.Option.{Option, some, none}
use mathlib.Core.Path.{◌≡◌, refl}
use native.Mathlib.Omega.{arith}
use native.Mathlib.Nat.{mod-one}
use borrow.Author.Tests.{le-leb, leb-true, eqb-true}
use lib.Dec.{eqb}
use Rattle.types.specs.declared.Choices.{Choices}
use Rattle.types.specs.declared.Edition.{Edition}
use Rattle.types.specs.declared.Fraction.{Fraction}
use Rattle.types.specs.declared.Offset.{Offset}
use Rattle.types.specs.declared.Reading.{Reading}
use Rattle.types.specs.declared.Reading.TheVariants.{Old, Standard}
use Rattle.parser.specs.Digits.{field, digits, number, any, at_most, fraction_of}
use Rattle.parser.specs.Fields.{either, or_zero}
use Rattle.parser.proofs.Leaves.{From}
use Rattle.time.specs.declared.Clock.{Clock}
use Rattle.time.specs.declared.TimeUnit.{TimeUnit}
use Rattle.time.specs.declared.TimeUnit.TheVariants.{Hour, Minute, Second}
use Rattle.time.specs.Rules.{hour_of, ends_day, zero_if, fraction_if, no_fraction, or_whole, unit_of, digits_counted, sum_of, clock_of, time_fraction, millisecond, second_millisecond, minute_second_millisecond, behind_hour, or_absent, time_of, time_offset, after_hour, base_time, time}
use Rattle.time.proofs.Sum.{sum_exact}
use Rattle.writing.proofs.Yields.{Yields, OrLeftOut, seq_yields, map_yields, opt_yields, alt_yields, must_yields, preceded_yields, field_yields, run_as_yields, anything, absent_within}
use Rattle.offset_writer.specs.Ranges.{offset_given}
use Rattle.offset_writer.proofs.Laws.{offset_yields}
use Rattle.time_writer.specs.Ranges.{time_offset_given, last_hour, up_to, fraction_given, clock_given, time_given}
use Rattle.time_writer.proofs.Nine.{FractionWithin, digits_within, zeros_within}
use Rattle.time_writer.proofs.Within.{hour_is, Within}

hour_yields : (e : Edition) → Yields (From 0 (last_hour e)) (hour_of e)
hour_yields e = rw (hour_is e) (field_yields 2 0 (last_hour e))

zero_yields : (z : Bool) (hi : ℕ) → Yields (From 0 (up_to z hi)) (zero_if z (field 2 0 hi))
zero_yields false hi = field_yields 2 0 hi
zero_yields true hi = must_yields (λ v. eqb v 0) (λ v f e. (omega arith, omega (arith, eqb-true v 0 e))) 1 (field_yields 2 0 hi)

digits_yield : (z : Bool) → Yields (FractionWithin z) (fraction_if z)
digits_yield false = run_as_yields fraction_of any 1 (λ l h. digits_within l)
digits_yield true = run_as_yields fraction_of (at_most 0) 1 (λ l h. zeros_within l (leb-true (number (digits l)) 0 h))

no_fraction_within : (z : Bool) → FractionWithin z no_fraction
unfolding fraction_given
no_fraction_within z = record { nanosecond = omega arith; fits = refl }

abbrev ClockWithin : Bool → Clock → Type 0
ClockWithin z c = Within z c.minute c.second c.fraction

-- of what was counted there are all nine digits, or none
counted_fits : (x : ℕ) → fraction_given (digits_counted x) x ≡ true
unfolding fraction_given
counted_fits x = go (eqb x 0) refl
  where
    go : (t : Bool) → eqb x 0 ≡ t → fraction_given (digits_counted x) x ≡ true
    go true e = rw (eqb-true x 0 e)
    go false e = rw (e, mod-one x)

-- a sum that stays below an hour, or of nothing where all has to be 0
sum_within : (z : Bool) (m n : ℕ) → m + n / 60000000000 ≤ up_to z 59 → n ≤ up_to z n → ClockWithin z (sum_of m n)
unfolding sum_of
sum_within true m n h few = let e : n ≡ 0 = omega arith in let f : m ≡ 0 = omega arith in rw (e, f) (record { minute = omega arith; second = omega arith; fraction = no_fraction_within true })
sum_within false m n h few = let x = sum_exact m n in record { minute = h; second = omega (arith, x.second); fraction = record { nanosecond = x.nanosecond; fits = counted_fits (n % 1000000000) } }

all_zero_lem : (z : Bool) (times n : ℕ) → n ≤ up_to z 999999999 → times * n ≤ up_to z (times * n)
all_zero_lem true times n h = let e : n ≡ 0 = omega arith in rw e (omega arith)
all_zero_lem false times n h = omega arith

point_yields : (u : TimeUnit) (z : Bool) (m s : ℕ) → ((f : Fraction) → FractionWithin z f → ClockWithin z (clock_of u m s f)) → Yields (ClockWithin z) (time_fraction u z m s)
unfolding time_fraction
point_yields u z m s h = map_yields _ h (seq_yields _ (anything (either 44 46)) (λ x y. digits_yield z))

or_whole_lem : (z : Bool) (m s : ℕ) → m ≤ up_to z 59 → s ≤ up_to z 60 → (c : Option Clock) → OrLeftOut (ClockWithin z) c → ClockWithin z (or_whole m s c)
or_whole_lem z m s hm hs none h = record { minute = hm; second = hs; fraction = no_fraction_within z }
or_whole_lem z m s hm hs (some c) h = h

-- a fraction of the unit, behind an hour of no minutes or behind minutes
counted_within : (u : TimeUnit) (z : Bool) (m s : ℕ) → m ≤ up_to z 59 → s ≤ up_to z 60 → (u ≡ Hour → m ≡ 0) → (f : Fraction) → FractionWithin z f → ClockWithin z (clock_of u m s f)
counted_within Second z m s hm hs bare f w = record { minute = hm; second = hs; fraction = w }
counted_within Minute z m s hm hs bare f w = sum_within z m (60 * f.nanosecond) (minutes z hm w.nanosecond) (all_zero_lem z 60 f.nanosecond w.nanosecond)
  where
    minutes : (z : Bool) → m ≤ up_to z 59 → f.nanosecond ≤ up_to z 999999999 → m + 60 * f.nanosecond / 60000000000 ≤ up_to z 59
    minutes true hm hn = omega (arith, hm, hn)
    minutes false hm hn = omega (arith, hm, hn)
counted_within Hour z m s hm hs bare f w = sum_within z m (3600 * f.nanosecond) (minutes z w.nanosecond) (all_zero_lem z 3600 f.nanosecond w.nanosecond)
  where
    minutes : (z : Bool) → f.nanosecond ≤ up_to z 999999999 → m + 3600 * f.nanosecond / 60000000000 ≤ up_to z 59
    minutes true hn = omega (arith, bare refl, hn)
    minutes false hn = omega (arith, bare refl, hn)

-- behind minutes it is none of an hour
second_not_hour : {n : ℕ} → ◌≡◌ {A = TimeUnit} Second Hour → n ≡ 0
second_not_hour e = let z : ◌≡◌ {A = ℕ} 0 1 = cc in absurd (omega arith)

not_hour : (r : Reading) (s : Option ℕ) {n : ℕ} → unit_of r s ≡ Hour → n ≡ 0
not_hour Old s e = second_not_hour e
not_hour Standard (some s) e = second_not_hour e
not_hour Standard none e = let z : ◌≡◌ {A = ℕ} 0 1 = cc in absurd (omega arith)

clock_yields : (r : Reading) (z : Bool) → Yields (ClockWithin z) (minute_second_millisecond r z)
unfolding minute_second_millisecond second_millisecond millisecond
clock_yields r z =
    seq_yields _ (preceded_yields 58 (zero_yields z 59)) (λ m fm. seq_yields _ (opt_yields (preceded_yields 58 (zero_yields z 60))) (λ s fs.
    let hs = absent_within (up_to z 60) s fs in
    map_yields _ (or_whole_lem z m (or_zero s) fm.1 hs) (opt_yields (point_yields (unit_of r s) z m (or_zero s) (counted_within (unit_of r s) z m (or_zero s) fm.1 hs (not_hour r s))))))

behind_yields : (r : Reading) (z : Bool) → Yields (ClockWithin z) (behind_hour r z)
unfolding behind_hour
behind_yields Old z = clock_yields Old z
behind_yields Standard z = alt_yields (clock_yields Standard z) (point_yields Hour z 0 0 (counted_within Hour z 0 0 (omega arith) (omega arith) (λ e. refl)))

given_of : (k : Choices) (h : ℕ) (c : Clock) (o : Option Offset) → h ≤ last_hour k.edition → ClockWithin (ends_day k.edition h) c → OrLeftOut (λ o. offset_given o ≡ true) o → time_given k (time_of h c o) ≡ true
unfolding time_given clock_given time_offset_given
given_of k h c o hh w g =
    let z = ends_day k.edition h in
    rw (le-leb h (last_hour k.edition) hh, le-leb c.minute (up_to z 59) w.minute, le-leb c.second (up_to z 60) w.second, le-leb c.fraction.nanosecond (up_to z 999999999) w.fraction.nanosecond, w.fraction.fits) (last o g)
  where
    last : (o : Option Offset) → OrLeftOut (λ o. offset_given o ≡ true) o → time_offset_given (or_absent o) ≡ true
    last none g = refl
    last (some o) g = g

pub base_yields : (c : Choices) → Yields (λ t. time_given c t ≡ true) (base_time c)
unfolding base_time after_hour time_offset
base_yields c =
    seq_yields _ (hour_yields c.edition) (λ h fh. seq_yields _ (opt_yields (behind_yields c.reading (ends_day c.edition h))) (λ k fk.
    map_yields _ (λ o fo. given_of c h (or_whole 0 0 k) o fh.1 (or_whole_lem (ends_day c.edition h) 0 0 (omega arith) (omega arith) k fk) fo) (opt_yields offset_yields)))

pub time_yields : (c : Choices) → Yields (λ t. time_given c t ≡ true) (time c)
unfolding time
time_yields c = preceded_yields 84 (base_yields c)
