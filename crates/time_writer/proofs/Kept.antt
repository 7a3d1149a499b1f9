-- Writing what was read gives back the text's own fraction, up to nine digits, but for one that the standard reading counted as minutes or
-- seconds; and a fraction that does not fit its digits is read from nothing.
use Prim.Native.Nat.{ℕ, zero, suc, ◌+◌, ◌*◌, ◌-◌, ◌≤◌, ◌<◌}
use mathlib.Core.List.{List, [], ◌∷◌, ◌++◌}
use mathlib.Core.Bool.{Bool, true, false}
use mathlib.Core.Option.{Option, none}
use mathlib.Core.Path.{◌≡◌, refl, sym, ap, ◌∙◌}
use mathlib.Core.Logic.{◌⊎◌, inl, inr}
use native.Mathlib.Omega.{arith}
use borrow.Author.Tests.{ltb-true, ltb-false, lt-leb, ne_eqb}
use lib.Dec.{ltb, eqb}
use lib.ListN.{length, get_or, take, drop, replicate, length-append, length-replicate}
use lib.Seq.{take_all, take-take, take-append-le, length-take-le}
use Rattle.types.specs.declared.Choices.{Choices}
use Rattle.types.specs.declared.Fraction.{Fraction}
use Rattle.types.specs.declared.Offset.{Offset}
use Rattle.types.specs.declared.Reading.{Reading}
use Rattle.types.specs.declared.Reading.TheVariants.{Old, Standard}
use Rattle.types.specs.declared.Time.{Time}
use Rattle.parser.specs.Reading.{no, got, stop, lit, seq, opt, alt, or_else, and, pick}
use Rattle.parser.specs.Digits.{digits, number_from, number, run_at, of_run, run_as, nanoseconds, fraction_of}
use Rattle.parser.specs.Fields.{minute, second, either, preceded_by, or_zero}
use Rattle.parser.proofs.Fields.{true≢false, digit_within}
use Rattle.parser.proofs.Places.{no≢got, stop≢got, got_value, got_place}
use Rattle.parser.proofs.Runs.{AllDigits, none as no_digit, also, run_digits, zero_digits}
use Rattle.runs.proofs.Nanoseconds.{nanoseconds_small}
use Rattle.offset.specs.Rules.{offset}
use Rattle.time.specs.declared.Clock.{Clock}
use Rattle.time.specs.declared.TimeUnit.{TimeUnit}
use Rattle.time.specs.declared.TimeUnit.TheVariants.{Hour, Minute, Second}
use Rattle.time.specs.Rules.{hour_of, ends_day, zero_if, numbers_if, fraction_if, no_fraction, or_whole, unit_of, clock_of, time_fraction, millisecond, second_millisecond, minute_second_millisecond, behind_hour, time_of, time_offset, after_hour, base_time, time}
use Rattle.writing.specs.Spelling.{padded, fraction_spelling}
use Rattle.writing.specs.Writing.{Readable}
use Rattle.writing.proofs.Digits.{length_padded, number_padded, padded_digits}
use Rattle.writing.proofs.Yields.{seq_found, map_found_lem, OptFound, absent, there, opt_found, alt_found}
use Rattle.time_writer.specs.Ranges.{fraction_given}
use Rattle.time_writer.proofs.Within.{fraction_in, time_within}
use Rattle.time_writer.proofs.Laws.{time_spells}

-- ---- digits are told by their number and how many they are

number_once : (d e : List ℕ) (v w : ℕ) → AllDigits d → AllDigits e → length d ≡ length e → number_from v d ≡ number_from w e → (v ≡ w) × (d ≡ e)
unfolding number_from
number_once [] [] v w hd he l n = (n, refl)
number_once [] (c ∷ e) v w hd he l n = absurd (omega arith)
number_once (b ∷ d) [] v w hd he l n = absurd (omega arith)
number_once (b ∷ d) (c ∷ e) v w (also hb hd) (also hc he) l n =
    let rest = number_once d e (v * 10 + (b - 48)) (w * 10 + (c - 48)) hd he (omega arith) n in
    let x = digit_within b hb in
    let y = digit_within c hc in
    let same : b ≡ c = omega (arith, rest.0) in
    (omega (arith, rest.0), rw (same, rest.1))

front : (k : ℕ) {d : List ℕ} → AllDigits d → AllDigits (take k d)
front zero h = no_digit
front (suc k) no_digit = no_digit
front (suc k) (also hb h) = also hb (front k h)

-- ---- the fraction is the text's own

-- all nine digits, padded as they were when they were read
nine_digits : (l : List ℕ) → padded 9 (nanoseconds (digits l)) ≡ take 9 (digits l ++ replicate 9 48)
nine_digits l =
    let d = digits l ++ replicate 9 48 in
    let n = nanoseconds (digits l) in
    let long : 9 ≤ length d = omega (arith, length-append (digits l) (replicate 9 48), length-replicate {A = ℕ} 9 48) in
    let size : length (padded 9 n) ≡ length (take 9 d) = length_padded 9 n ∙ sym (length-take-le 9 d long) in
    (number_once (padded 9 n) (take 9 d) 0 0 (padded_digits 9 n) (front 9 (run_digits l (zero_digits 9))) size (number_padded 9 n (omega (arith, nanoseconds_small l)))).1

pub fraction_kept : (l : List ℕ) → 0 < length (digits l) → fraction_spelling (fraction_of (digits l)).digits (fraction_of (digits l)).nanosecond ≡ 46 ∷ take 9 (digits l)
unfolding fraction_spelling
fraction_kept l some_digit = go (ltb 9 (length d)) refl
  where
    d : List ℕ
    d = digits l

    -- of the nine digits the first ones are the run's
    first : (k : ℕ) → k ≤ 9 → k ≤ length d → 0 < k → pick (eqb k 0) [] (46 ∷ take k (padded 9 (nanoseconds d))) ≡ 46 ∷ take k d
    first k few short pos = rw (ne_eqb k 0 (λ e. omega arith), nine_digits l, take-take k 9 (d ++ replicate 9 48) few, take-append-le k d (replicate 9 48) short)

    go : (t : Bool) → ltb 9 (length d) ≡ t → fraction_spelling (fraction_of d).digits (fraction_of d).nanosecond ≡ 46 ∷ take 9 d
    go true e = rw e (first 9 (omega arith) (omega (arith, ltb-true 9 (length d) e)) (omega arith))
    go false e = let few = ltb-false 9 (length d) e in rw e (first (length d) few (omega arith) some_digit ∙ ap (◌∷◌ 46) (take_all (length d) d (omega arith) ∙ sym (take_all 9 d few)))

-- what a clock has of the text at a place, with a fraction of this unit behind a minute and a second: nothing; or a comma or point and digits
-- stand there and are read, and the fraction is these; or they are counted
pub data Keeps (u : TimeUnit) (mi se : ℕ) (s : List ℕ) (at : ℕ) (c : Clock) (n : ℕ) : Type 0 where
  nothing : at ≡ n → no_fraction ≡ c.fraction → Keeps u mi se s at c n
  digits_at : (either 44 46).reads s at ≡ got tt (at + 1) → at + 1 + length (run_at s (at + 1)) ≡ n → fraction_spelling c.fraction.digits c.fraction.nanosecond ≡ 46 ∷ take 9 (run_at s (at + 1)) → Keeps u mi se s at c n
  counted : (u ≡ Second → ⊥) → (either 44 46).reads s at ≡ got tt (at + 1) → at + 1 + length (run_at s (at + 1)) ≡ n → clock_of u mi se (fraction_of (run_at s (at + 1))) ≡ c → Keeps u mi se s at c n

point_place : (s : List ℕ) (at : ℕ) (u : Unit) (m : ℕ) → (either 44 46).reads s at ≡ got u m → at + 1 ≡ m
unfolding alt lit
point_place s at u m e = go (and (ltb at (length s)) (eqb (get_or s at 0) 44)) (and (ltb at (length s)) (eqb (get_or s at 0) 46)) e
  where
    go : (t v : Bool) → or_else (pick t (got tt (at + 1)) no) (pick v (got tt (at + 1)) no) ≡ got u m → at + 1 ≡ m
    go true v e = got_place e
    go false true e = got_place e
    go false false e = absurd (no≢got e)

-- what a fraction's digits are read as, and where they end
record ReadRun (s : List ℕ) (at : ℕ) (f : Fraction) (n : ℕ) : Type 0 where
  some_digit : 0 < length (run_at s at)
  is : fraction_of (run_at s at) ≡ f
  ends : at + length (run_at s at) ≡ n

run_of : (z : Bool) (s : List ℕ) (at : ℕ) (f : Fraction) (n : ℕ) → (fraction_if z).reads s at ≡ got f n → ReadRun s at f n
unfolding run_as
run_of z s at f n e = go (run_at s at) refl e
  where
    go : (d : List ℕ) → run_at s at ≡ d → of_run d no (pick (numbers_if z (number d)) (got (fraction_of d) (at + length d)) (stop 1)) ≡ got f n → ReadRun s at f n
    go [] i e = absurd (no≢got e)
    go (b ∷ d) i e = some (numbers_if z (number (b ∷ d))) e
      where
        some : (t : Bool) → pick t (got (fraction_of (b ∷ d)) (at + length (b ∷ d))) (stop 1) ≡ got f n → ReadRun s at f n
        some true e = record { some_digit = rw i (omega arith); is = rw i (got_value e); ends = rw i (got_place e) }
        some false e = absurd (stop≢got e)

hour_not_second : ◌≡◌ {A = TimeUnit} Hour Second → ⊥
hour_not_second e = let z : ◌≡◌ {A = ℕ} 0 1 = cc in omega arith

minute_not_second : ◌≡◌ {A = TimeUnit} Minute Second → ⊥
minute_not_second e = let z : ◌≡◌ {A = ℕ} 0 1 = cc in omega arith

point_kept : (u : TimeUnit) (z : Bool) (mi se : ℕ) (s : List ℕ) (at : ℕ) (c : Clock) (n : ℕ) → (time_fraction u z mi se).reads s at ≡ got c n → Keeps u mi se s at c n
unfolding time_fraction
point_kept u z mi se s at c n e =
    let m = map_found_lem (clock_of u mi se) (seq (either 44 46) (λ _. fraction_if z)) s at c n e in
    let x = seq_found (either 44 46) (λ _. fraction_if z) s at m.value n m.reads in
    let p = point_place s at x.value x.place x.first in
    let d = run_of z s (at + 1) m.value n (rw (← p) at x.rest) in
    rw (← m.is, ← d.is) (go u (rw (← p) at x.first) d.ends d.some_digit)
  where
    go : (u : TimeUnit) → (either 44 46).reads s at ≡ got tt (at + 1) → at + 1 + length (run_at s (at + 1)) ≡ n → 0 < length (run_at s (at + 1)) → Keeps u mi se s at (clock_of u mi se (fraction_of (run_at s (at + 1)))) n
    go Hour point ends some_digit = counted hour_not_second point ends refl
    go Minute point ends some_digit = counted minute_not_second point ends refl
    go Second point ends some_digit = digits_at point ends (fraction_kept (drop (at + 1) s) some_digit)

pub kept : (u : TimeUnit) (z : Bool) (mi se : ℕ) (s : List ℕ) (at : ℕ) (c : Clock) (n : ℕ) → (millisecond u z mi se).reads s at ≡ got c n → Keeps u mi se s at c n
unfolding millisecond
kept u z mi se s at c n e =
    let m = map_found_lem (or_whole mi se) (opt (time_fraction u z mi se)) s at c n e in
    rw (← m.is) (go m.value (opt_found (time_fraction u z mi se) s at m.value n m.reads))
  where
    go : (o : Option Clock) → OptFound (time_fraction u z mi se) s at o n → Keeps u mi se s at (or_whole mi se o) n
    go o (absent eo here) = rw (← eo) (nothing here refl)
    go o (there k eo r) = rw (← eo) (point_kept u z mi se s at k n r)

abbrev clock_in : Time → Clock
clock_in t = record { minute = t.minute; second = t.second; fraction = fraction_in t }

-- the fraction of a time that was read: it is written as nothing; or the text has a comma or point somewhere, and the fraction is written as a
-- point and the first nine digits behind it; or, in the standard reading alone, these digits were counted, as a fraction of a minute or an hour
pub data TextsOwn (r : Reading) (s : List ℕ) (t : Time) : Type 0 where
  without : fraction_spelling t.digits t.nanosecond ≡ [] → TextsOwn r s t
  from : (at : ℕ) → (either 44 46).reads s at ≡ got tt (at + 1) → fraction_spelling t.digits t.nanosecond ≡ 46 ∷ take 9 (run_at s (at + 1)) → TextsOwn r s t
  of_unit : r ≡ Standard → (u : TimeUnit) → (u ≡ Second → ⊥) → (at mi se : ℕ) → (either 44 46).reads s at ≡ got tt (at + 1) → clock_of u mi se (fraction_of (run_at s (at + 1))) ≡ clock_in t → TextsOwn r s t

no_fraction_own : (r : Reading) (s : List ℕ) (h : ℕ) (c : Clock) (o : Option Offset) → no_fraction ≡ c.fraction → TextsOwn r s (time_of h c o)
unfolding fraction_spelling
no_fraction_own r s h c o e = without (rw (← e))

keeps_own : (r : Reading) (u : TimeUnit) (mi se : ℕ) (s : List ℕ) (at : ℕ) (c : Clock) (n : ℕ) (h : ℕ) (o : Option Offset) → ((u ≡ Second → ⊥) → r ≡ Standard) → Keeps u mi se s at c n → TextsOwn r s (time_of h c o)
keeps_own r u mi se s at c n h o standard (nothing here e) = no_fraction_own r s h c o e
keeps_own r u mi se s at c n h o standard (digits_at point ends is) = from at point is
keeps_own r u mi se s at c n h o standard (counted other point ends is) = of_unit (standard other) u other at mi se point is

-- a fraction is of a second, or the reading is the standard one
not_old : (r : Reading) (se : Option ℕ) → (unit_of r se ≡ Second → ⊥) → r ≡ Standard
not_old Old se h = absurd (h refl)
not_old Standard se h = refl

clock_own : (r : Reading) (s : List ℕ) (z : Bool) (h : ℕ) (c : Clock) (o : Option Offset) (at n : ℕ) → (minute_second_millisecond r z).reads s at ≡ got c n → TextsOwn r s (time_of h c o)
unfolding minute_second_millisecond second_millisecond
clock_own r s z h c o at n e =
    let x = seq_found (preceded_by 58 (zero_if z minute)) (second_millisecond r z) s at c n e in
    let y = seq_found (opt (preceded_by 58 (zero_if z second))) (λ se. millisecond (unit_of r se) z x.value (or_zero se)) s x.place c n x.rest in
    keeps_own r (unit_of r y.value) x.value (or_zero y.value) s y.place c n h o (not_old r y.value) (kept (unit_of r y.value) z x.value (or_zero y.value) s y.place c n y.rest)

behind_own : (r : Reading) (s : List ℕ) (z : Bool) (h : ℕ) (c : Clock) (o : Option Offset) (at n : ℕ) → (behind_hour r z).reads s at ≡ got c n → TextsOwn r s (time_of h c o)
unfolding behind_hour
behind_own Old s z h c o at n e = clock_own Old s z h c o at n e
behind_own Standard s z h c o at n e = go (alt_found (minute_second_millisecond Standard z) (time_fraction Hour z 0 0) s at c n e)
  where
    go : ((minute_second_millisecond Standard z).reads s at ≡ got c n) ⊎ ((time_fraction Hour z 0 0).reads s at ≡ got c n) → TextsOwn Standard s (time_of h c o)
    go (inl e) = clock_own Standard s z h c o at n e
    go (inr e) = keeps_own Standard Hour 0 0 s at c n h o (λ other. refl) (point_kept Hour z 0 0 s at c n e)

pub base_own : (c : Choices) (s : List ℕ) (at : ℕ) (t : Time) (n : ℕ) → (base_time c).reads s at ≡ got t n → TextsOwn c.reading s t
unfolding base_time after_hour time_offset
base_own c s at t n e =
    let r = c.reading in
    let x = seq_found (hour_of c.edition) (λ h. after_hour r (ends_day c.edition h) h) s at t n e in
    let z = ends_day c.edition x.value in
    let y = seq_found (opt (behind_hour r z)) (λ k. time_offset x.value (or_whole 0 0 k)) s x.place t n x.rest in
    let m = map_found_lem (time_of x.value (or_whole 0 0 y.value)) (opt offset) s y.place t n y.rest in
    rw (← m.is) (go z x.value m.value y.value (opt_found (behind_hour r z) s x.place y.value y.place y.first))
  where
    go : (z : Bool) (h : ℕ) (o : Option Offset) (k : Option Clock) {from to : ℕ} → OptFound (behind_hour c.reading z) s from k to → TextsOwn c.reading s (time_of h (or_whole 0 0 k) o)
    go z h o k (absent e here) = rw (← e) (no_fraction_own c.reading s h (or_whole 0 0 none) o refl)
    go z h o k {from} {to} (there a e r) = rw (← e) (behind_own c.reading s z h a o from to r)

-- of every text that is read as a time, under every edition, in the reading that is named
pub time_own : (c : Choices) (s : List ℕ) (at : ℕ) (t : Time) (n : ℕ) → (time c).reads s at ≡ got t n → TextsOwn c.reading s t
unfolding time
time_own c s at t n e = let x = seq_found (opt (lit 84)) (λ _. base_time c) s at t n e in base_own c s x.place t n x.rest

-- ---- what does not fit

-- "4 also for a nanosecond that doesn't fit its digit count": no reader gives it, of either edition
pub unfit : (c : Choices) (t : Time) → fraction_given t.digits t.nanosecond ≡ false → Readable (time c) t → ⊥
unfit c t e r = true≢false (sym (time_within c t ((time_spells c).ranges t r)).behind.fraction.fits ∙ e)

-- half a second with no digits, 123 nanoseconds with six, and anything with more than nine
pub half_a_second : fraction_given 0 500000000 ≡ false
unfolding fraction_given
half_a_second = refl

pub with_six : fraction_given 6 123 ≡ false
unfolding fraction_given
with_six = refl

pub past_nine : (k n : ℕ) → 9 < k → fraction_given k n ≡ false
unfolding fraction_given
past_nine k n h = rw (lt-leb k 9 h)
