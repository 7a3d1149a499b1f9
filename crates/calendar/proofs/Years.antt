-- Years: the closed form is what is counted, and the years from the first one far back are those of the calendar.
use Prim.Native.Nat.{ℕ, zero, suc, ◌+◌, ◌*◌, ◌-◌, ◌%◌, ◌/◌, ◌<◌, ◌≤◌}
use mathlib.Core.Bool.{Bool, true, false, not}
use mathlib.Core.Path.{◌≡◌, refl, sym, ap, ◌∙◌}
use native.Mathlib.Omega.{arith}
use native.Mathlib.Nat.{mul-zero, mul-one, mul-add, mul-le-mul_left, lt_of_mul-lt-mul_left, div-add-mod, mul-mod_right, add-zero, mod-mod_of_dvd, dvd_of_mod-eq-zero, zero-mod}
use lib.Dec.{eqb}
use lib.IntN.{ℤ, pos, negsuc, suc_ℤ, ◌+ℤ◌, +ℤ_invl, -ℤ-+ℤ_cancel}
use borrow.Author.Tests.{eqb-true, eqb-false}
use Rattle.parser.specs.Reading.{and, or, pick}
use Rattle.calendar.specs.Calendar.{months, sum, year_days, new_year}
use Rattle.calendar.specs.Far.{before}

-- ---- the years one after another

pub new_year_next : (y : ℤ) → new_year (suc_ℤ y) ≡ new_year y +ℤ pos (year_days y)
unfolding new_year
new_year_next (pos n) = refl
new_year_next (negsuc zero) = sym (+ℤ_invl (pos (year_days (negsuc zero))))
new_year_next (negsuc (suc n)) = sym (-ℤ-+ℤ_cancel (new_year (negsuc n)) (pos (year_days (negsuc (suc n)))))

pub year_days_lem : (l : Bool) → sum (months l) ≡ 365 + pick l 1 0
unfolding sum
year_days_lem true = refl
year_days_lem false = refl

-- ---- how many of the first k numbers are multiples of n, and the quotient that tells it

one : Bool → ℕ
one true = 1
one false = 0

multiples : ℕ → ℕ → ℕ
multiples n zero = 0
multiples n (suc k) = multiples n k + one (eqb (k % n) 0)

-- it lies between k and k + n, n times over
pub record Ceiling (n k m : ℕ) : Type 0 where
  pub reaches : k ≤ n * m
  pub least : n * m < k + n

ceiling : (d k : ℕ) → Ceiling (suc d) k (multiples (suc d) k)
unfolding multiples one
ceiling d zero = record { reaches = omega arith; least = omega (arith, mul-zero (suc d)) }
ceiling d (suc k) = go (eqb (k % suc d) 0) refl (ceiling d k)
  where
    go : (t : Bool) → eqb (k % suc d) 0 ≡ t → Ceiling (suc d) k (multiples (suc d) k) → Ceiling (suc d) (suc k) (multiples (suc d) k + one t)
    go true e h =
        let m = multiples (suc d) k in
        let q = k / suc d in
        let parts : suc d * q + k % suc d ≡ k = div-add-mod k (suc d) in
        let none : k % suc d ≡ 0 = eqb-true (k % suc d) 0 e in
        let below : suc d * m < suc d * (q + 1) = omega (arith, h.least, parts, none, mul-add (suc d) q 1, mul-one (suc d)) in
        let most : suc d * m ≤ suc d * q = mul-le-mul_left (suc d) (omega (arith, lt_of_mul-lt-mul_left (suc d) below)) in
        record { reaches = omega (arith, h.reaches, mul-add (suc d) m 1, mul-one (suc d)); least = omega (arith, most, parts, none, mul-add (suc d) m 1, mul-one (suc d)) }
    go false e h =
        let m = multiples (suc d) k in
        let other : k ≡ suc d * m → ⊥ = λ (i : k ≡ suc d * m). eqb-false (k % suc d) 0 e (ap (λ (x : ℕ). x % suc d) i ∙ mul-mod_right (suc d) m) in
        record { reaches = omega (arith, h.reaches, other, add-zero m); least = omega (arith, h.least, add-zero m) }

-- ---- the days of the first k years, by the multiples of 4, 100 and 400 among them

-- what divides a divisor divides
finer : (c b k : ℕ) → b % c ≡ 0 → k % b ≡ 0 → k % c ≡ 0
finer c b k e h = sym (mod-mod_of_dvd c k (dvd_of_mod-eq-zero c e)) ∙ ap (λ (x : ℕ). x % c) h ∙ zero-mod c

-- so no number is a multiple of b and not of its divisor c
clash : (c b k : ℕ) {G : Type 0} → b % c ≡ 0 → eqb (k % c) 0 ≡ false → eqb (k % b) 0 ≡ true → G
clash c b k e f g = absurd (eqb-false (k % c) 0 f (finer c b k e (eqb-true (k % b) 0 g)))

leaps_by_multiples : (k : ℕ) → before k + multiples 100 k ≡ 365 * k + multiples 4 k + multiples 400 k
unfolding before multiples one
leaps_by_multiples zero = refl
leaps_by_multiples (suc k) = go (eqb (k % 4) 0) (eqb (k % 100) 0) (eqb (k % 400) 0) refl refl refl (leaps_by_multiples k)
  where
    go : (a b c : Bool) → eqb (k % 4) 0 ≡ a → eqb (k % 100) 0 ≡ b → eqb (k % 400) 0 ≡ c → before k + multiples 100 k ≡ 365 * k + multiples 4 k + multiples 400 k → before k + sum (months (and a (or (not b) c))) + (multiples 100 k + one b) ≡ 365 * suc k + (multiples 4 k + one a) + (multiples 400 k + one c)
    go true true true ea eb ec h = omega (arith, year_days_lem true)
    go true true false ea eb ec h = omega (arith, year_days_lem false)
    go true false true ea eb ec h = clash 100 400 k refl eb ec
    go true false false ea eb ec h = omega (arith, year_days_lem true)
    go false true true ea eb ec h = clash 4 100 k refl ea eb
    go false true false ea eb ec h = clash 4 100 k refl ea eb
    go false false true ea eb ec h = clash 4 400 k refl ea ec
    go false false false ea eb ec h = omega (arith, year_days_lem false)

-- the closed form
pub by_quotients : (k : ℕ) → before k ≡ 365 * k + (k + 3) / 4 - (k + 99) / 100 + (k + 399) / 400
by_quotients k =
    let fourths = ceiling 3 k in
    let hundredths = ceiling 99 k in
    let cycles = ceiling 399 k in
    let m4 : (k + 3) / 4 ≡ multiples 4 k = omega arith in
    let m100 : (k + 99) / 100 ≡ multiples 100 k = omega arith in
    let m400 : (k + 399) / 400 ≡ multiples 400 k = omega arith in
    omega (arith, leaps_by_multiples k)

-- of whole cycles of 400 years
pub of_cycles : (c : ℕ) → before (400 * c) ≡ 146097 * c
of_cycles c =
    let fourths = ceiling 3 (400 * c) in
    let hundredths = ceiling 99 (400 * c) in
    let cycles = ceiling 399 (400 * c) in
    let m4 : multiples 4 (400 * c) ≡ 100 * c = omega arith in
    let m100 : multiples 100 (400 * c) ≡ 4 * c = omega arith in
    let m400 : multiples 400 (400 * c) ≡ c = omega arith in
    omega (arith, leaps_by_multiples (400 * c))
