-- The nine digits of a fraction: the first ones are what the code writes, digit by digit, and are read as the fraction where it fits them.
use Prim.Native.Nat.{ℕ, suc, ◌+◌, ◌*◌, ◌-◌, ◌/◌, ◌%◌, ◌^◌, ◌≤◌, ◌<◌}
use mathlib.Core.List.{List, [], ◌∷◌, ◌++◌}
use mathlib.Core.Bool.{Bool, true, false}
use mathlib.Core.Path.{◌≡◌, refl, sym, ap, ◌∙◌}
use native.Mathlib.Omega.{arith}
use native.Mathlib.Numerals.{add-one}
use native.Mathlib.Nat.{pow-suc, one-le-pow, div-one, div-div-eq-div-mul, div-add-mod', div-lt_iff_lt-mul, mul-mod_left, mod-one}
use borrow.Author.Tests.{eqb-true, eq-eqb, ltb-true, ltb-false, le-ltb, le-leb, leb-true}
use lib.Dec.{ltb, leb}
use lib.ListN.{length, take}
use lib.Pow.{pow-add}
use lib.Seq.{take_all, take_at}
use Rattle.types.specs.declared.Fraction.{Fraction}
use Rattle.parser.specs.Digits.{digits, number, nanoseconds, up_to_nine, fraction_of}
use Rattle.parser.proofs.Fields.{and_first, and_second}
use Rattle.parser.proofs.Runs.{AllDigits}
use Rattle.runs.proofs.Nanoseconds.{nanoseconds_small}
use Rattle.runs.proofs.Factors.{nanoseconds_short, nanoseconds_zero}
use Rattle.writing.specs.Spelling.{padded}
use Rattle.writing.proofs.Digits.{length_padded, number_padded, padded_digits, padded_split}
use Rattle.time_writer.specs.Ranges.{up_to, fraction_given}

-- ---- the first ones

pub nine_most : (k : ℕ) → up_to_nine k ≤ 9
nine_most k = go (ltb 9 k) refl
  where
    go : (t : Bool) → ltb 9 k ≡ t → up_to_nine k ≤ 9
    go true e = rw e (omega arith)
    go false e = rw e (ltb-false 9 k e)

few_of_nine : (k n : ℕ) → k ≤ 9 → take k (padded 9 n) ≡ padded k (n / 10 ^ (9 - k))
few_of_nine k n h =
    let nine : k + (9 - k) ≡ 9 = omega arith in
    ap (take k) (sym (ap (λ (w : ℕ). padded w n) nine) ∙ padded_split k (9 - k) n) ∙ take_at (padded k (n / 10 ^ (9 - k))) (padded (9 - k) n) k (length_padded k (n / 10 ^ (9 - k)))

pub first_of_nine : (k n : ℕ) → take k (padded 9 n) ≡ padded (up_to_nine k) (n / 10 ^ (9 - up_to_nine k))
first_of_nine k n = go (ltb 9 k) refl
  where
    go : (t : Bool) → ltb 9 k ≡ t → take k (padded 9 n) ≡ padded (up_to_nine k) (n / 10 ^ (9 - up_to_nine k))
    go true e = rw e (take_all k (padded 9 n) (omega (arith, length_padded 9 n, ltb-true 9 k e)) ∙ sym (ap (padded 9) (div-one n)))
    go false e = rw e (few_of_nine k n (ltb-false 9 k e))

-- ---- written digit by digit

ten_pow : (k : ℕ) → 1 ≤ 10 ^ k
ten_pow k = one-le-pow k 10 (omega arith)

pub unit_some : (k : ℕ) → 0 < 10 ^ (9 - k)
unit_some k = omega (arith, ten_pow (9 - k))

power : (i unit : ℕ) → unit ≡ 10 ^ (9 - i) → i < 9 → unit ≡ 10 ^ (9 - (i + 1)) * 10
power i unit e h = let one : 9 - i ≡ suc (9 - (i + 1)) = omega arith in e ∙ rw one (pow-suc 10 (9 - (i + 1)))

pub tenth : (i unit : ℕ) → unit ≡ 10 ^ (9 - i) → i < 9 → unit / 10 ≡ 10 ^ (9 - (i + 1))
tenth i unit e h = omega (arith, power i unit e h)

pub a_digit : (i unit : ℕ) → unit ≡ 10 ^ (9 - i) → i < 9 → 0 < unit / 10
a_digit i unit e h = omega (arith, tenth i unit e h, ten_pow (9 - (i + 1)))

-- the first digits of nine, and one more
first_digits : (n i unit : ℕ) → unit ≡ 10 ^ (9 - i) → i < 9 → n / (unit / 10) / 10 ≡ n / unit
first_digits n i unit e h = div-div-eq-div-mul n (unit / 10) 10 ∙ ap (λ (k : ℕ). n / k) (omega (arith, power i unit e h))

pub digits_turn : (n i unit : ℕ) → unit ≡ 10 ^ (9 - i) → i < 9 → padded (i + 1) (n / (unit / 10)) ≡ padded i (n / unit) ++ (48 + n / (unit / 10) % 10) ∷ []
unfolding padded
digits_turn n i unit e h = rw (add-one i, first_digits n i unit e h)

-- ---- read back

-- what a reader gives: no more nanoseconds than there may be, and nothing behind the digits that were written
pub record FractionWithin (z : Bool) (f : Fraction) : Type 0 where
  pub nanosecond : f.nanosecond ≤ up_to z 999999999
  pub fits : fraction_given f.digits f.nanosecond ≡ true

-- none is wider than document 01's
pub fraction_day : (z : Bool) {f : Fraction} → FractionWithin z f → FractionWithin false f
fraction_day false w = w
fraction_day true w = record { nanosecond = omega (arith, w.nanosecond); fits = w.fits }

pub digits_few : {z : Bool} {f : Fraction} → FractionWithin z f → f.digits ≤ 9
unfolding fraction_given
digits_few {f = f} w = leb-true f.digits 9 (and_first (leb f.digits 9) _ w.fits)

-- so many digits are digits, and are read as the fraction
pub record Back (n k : ℕ) (d : List ℕ) : Type 0 where
  pub digits : AllDigits d
  pub size : length d ≡ k
  pub number : number d ≡ n / 10 ^ (9 - k)
  pub fraction : fraction_of d ≡ record { nanosecond = n; digits = k }

pub fraction_back : (n k : ℕ) → n ≤ 999999999 → fraction_given k n ≡ true → Back n k (take k (padded 9 n))
unfolding fraction_given
fraction_back n k h e =
    let few = leb-true k 9 (and_first (leb k 9) _ e) in
    let unit = 10 ^ (9 - k) in
    let front = n / unit in
    let nine : k + (9 - k) ≡ 9 = omega arith in
    let whole : 10 ^ k * unit ≡ 1000000000 = sym (pow-add 10 k (9 - k)) ∙ ap (λ (w : ℕ). 10 ^ w) nine in
    let small : front < 10 ^ k = (div-lt_iff_lt-mul (ten_pow (9 - k))).1 (omega (arith, whole)) in
    let none : n % unit ≡ 0 = eqb-true (n % unit) 0 (and_second (leb k 9) e) in
    let d = padded k front in
    let size = length_padded k front in
    let value : number d ≡ front = number_padded k front small in
    let short : length d ≤ 9 = omega arith in
    let nano : nanoseconds d ≡ n = nanoseconds_short d short ∙ rw (value, size) (omega (arith, div-add-mod' n unit, none)) in
    rw (few_of_nine k n few) record { digits = padded_digits k front; size = size; number = value; fraction = rw (nano, size, le-ltb 9 k few) }

-- ---- and what is read fits

fraction_fits : (d : List ℕ) → fraction_given (fraction_of d).digits (fraction_of d).nanosecond ≡ true
unfolding fraction_given
fraction_fits d = go (ltb 9 (length d)) refl
  where
    go : (t : Bool) → ltb 9 (length d) ≡ t → fraction_given (fraction_of d).digits (fraction_of d).nanosecond ≡ true
    go true e = rw e (eq-eqb (nanoseconds d % 1) 0 (mod-one (nanoseconds d)))
    go false e =
        let short = ltb-false 9 (length d) e in
        rw (e, le-leb (length d) 9 short, nanoseconds_short d short) (eq-eqb (number d * 10 ^ (9 - length d) % 10 ^ (9 - length d)) 0 (mul-mod_left (number d) (10 ^ (9 - length d))))

pub digits_within : (l : List ℕ) → FractionWithin false (fraction_of (digits l))
digits_within l = record { nanosecond = omega (arith, nanoseconds_small l); fits = fraction_fits (digits l) }

pub zeros_within : (l : List ℕ) → number (digits l) ≤ 0 → FractionWithin true (fraction_of (digits l))
zeros_within l h = record { nanosecond = omega (arith, nanoseconds_zero (digits l) (omega arith)); fits = fraction_fits (digits l) }
