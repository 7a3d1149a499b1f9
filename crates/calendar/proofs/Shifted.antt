-- The years from the first one far back are those of the calendar: a whole number of 400 years moves no leap year.
use Prim.Native.Nat.{ℕ, zero, suc, ◌+◌, ◌*◌, ◌-◌, ◌%◌}
use mathlib.Core.Bool.{Bool, true, false, cond}
use mathlib.Core.Logic.{◌⊎◌, inl, inr}
use mathlib.Core.Path.{◌≡◌, refl, sym, ap, ap₂, subst, ◌∙◌}
use native.Mathlib.Omega.{arith}
use native.Mathlib.Nat.{add-mul-mod_self_left, add-mod, mod-mod, mul-mod_right, add-zero}
use lib.Dec.{ltb, eqb}
use lib.IntN.{ℤ, pos, negsuc, neg_ℤ, suc_ℤ, nat_abs, ◌+ℤ◌, ◌-ℤ◌, +ℤ_invr, suc_ℤ-+ℤ, +ℤ_assoc, +ℤ_idr, +ℤ-neg_ℤ_cancel}
use borrow.Author.Tests.{eqb-true, eqb-false, ltb-true, ltb-false}
use Rattle.calendar.specs.Calendar.{divides, leap, months, sum, year_days, new_year}
use Rattle.calendar.specs.Far.{leap_from, before}
use Rattle.calendar.proofs.Integers.{◌⊖◌, plus, same, of_pos, add_pos}
use Rattle.calendar.proofs.Years.{new_year_next, of_cycles}

-- ---- how far a number is from another

Away : ℕ → ℕ → ℕ → Type 0
Away k s a = (k ≡ a + s) ⊎ (k + a ≡ s)

away : (k s : ℕ) → Away k s (nat_abs (k ⊖ s))
unfolding Away
away k zero = inl (omega arith)
away k (suc s) = go (ltb k (suc s)) refl
  where
    go : (t : Bool) → ltb k (suc s) ≡ t → Away k (suc s) (nat_abs (cond t (negsuc (suc s - suc k)) (pos (k - suc s))))
    go true e = inr (omega (arith, ltb-true k (suc s) e))
    go false e = inl (omega (arith, ltb-false k (suc s) e))

-- two numbers whose sum a number divides are both multiples of it, or neither is
completes : (n m k a : ℕ) → k + a ≡ n * m → a % n ≡ 0 → k % n ≡ 0
completes n m k a e h =
    let sums : (k % n + a % n) % n ≡ 0 = sym (add-mod k a n) ∙ ap (λ (x : ℕ). x % n) e ∙ mul-mod_right n m in
    sym (mod-mod k n) ∙ ap (λ (x : ℕ). x % n) (sym (add-zero (k % n)) ∙ ap (λ (x : ℕ). k % n + x) (sym h)) ∙ sums

divides_away : (n m k a : ℕ) → Away k (n * m) a → eqb (a % n) 0 ≡ eqb (k % n) 0
unfolding Away
divides_away n m k a (inl e) = ap (λ (x : ℕ). eqb x 0) (sym (add-mul-mod_self_left a n m) ∙ ap (λ (x : ℕ). x % n) (sym e))
divides_away n m k a (inr e) = go (eqb (a % n) 0) (eqb (k % n) 0) refl refl
  where
    go : (s t : Bool) → eqb (a % n) 0 ≡ s → eqb (k % n) 0 ≡ t → s ≡ t
    go true true f g = refl
    go true false f g = absurd (eqb-false (k % n) 0 g (completes n m k a e (eqb-true (a % n) 0 f)))
    go false true f g =
        let back : a + k ≡ n * m = omega (arith, e) in
        absurd (eqb-false (a % n) 0 f (completes n m a k back (eqb-true (k % n) 0 g)))
    go false false f g = refl

divides_shifted : (n m s k : ℕ) → s ≡ n * m → divides n (k ⊖ s) ≡ eqb (k % n) 0
divides_shifted n m s k e = divides_away n m k (nat_abs (k ⊖ s)) (subst (λ (x : ℕ). Away k x (nat_abs (k ⊖ s))) e (away k s))

pub leap_shifted : (c k : ℕ) → leap (k ⊖ (400 * c)) ≡ leap_from k
unfolding leap
leap_shifted c k = rw (divides_shifted 4 (100 * c) (400 * c) k (omega arith), divides_shifted 100 (4 * c) (400 * c) k (omega arith), divides_shifted 400 c (400 * c) k (omega arith))

-- ---- the first day of a year

next : (k s : ℕ) → suc k ⊖ s ≡ suc_ℤ (k ⊖ s)
next k s = suc_ℤ-+ℤ (pos k) (neg_ℤ (pos s))

from_start : (c k : ℕ) → new_year (k ⊖ (400 * c)) ≡ new_year (0 ⊖ (400 * c)) +ℤ pos (before k)
unfolding before
from_start c zero = sym (+ℤ_idr (new_year (0 ⊖ (400 * c))))
from_start c (suc k) =
    ap new_year (next k (400 * c)) ∙ new_year_next (k ⊖ (400 * c))
    ∙ ap₂ ◌+ℤ◌ (from_start c k) (ap (λ (l : Bool). pos (sum (months l))) (leap_shifted c k))
    ∙ +ℤ_assoc (new_year (0 ⊖ (400 * c))) (pos (before k)) (pos (sum (months (leap_from k))))

start : (c : ℕ) → new_year (0 ⊖ (400 * c)) ≡ 0 ⊖ before (400 * c)
unfolding new_year
start c =
    let z = new_year (0 ⊖ (400 * c)) in
    let b = pos (before (400 * c)) in
    let none : z +ℤ b ≡ pos 0 = sym (from_start c (400 * c)) ∙ ap new_year (+ℤ_invr (pos (400 * c))) in
    sym (+ℤ-neg_ℤ_cancel z b) ∙ ap (λ (x : ℤ). x -ℤ b) none

pub new_year_shifted : (c k : ℕ) → new_year (k ⊖ (400 * c)) ≡ before k ⊖ (146097 * c)
new_year_shifted c k =
    from_start c k ∙ ap₂ ◌+ℤ◌ (start c) (of_pos (before k)) ∙ plus 0 (before (400 * c)) (before k) 0
    ∙ same (0 + before k) (before (400 * c) + 0) (before k) (146097 * c) (omega (arith, of_cycles c))

-- ---- the days of a year, and each of them

pub days_shifted : (c k : ℕ) → year_days (k ⊖ (400 * c)) ≡ sum (months (leap_from k))
days_shifted c k = ap (λ (l : Bool). sum (months l)) (leap_shifted c k)

pub day_shifted : (c k r : ℕ) → new_year (k ⊖ (400 * c)) +ℤ pos r ≡ (before k + r) ⊖ (146097 * c)
day_shifted c k r = ap (λ (z : ℤ). z +ℤ pos r) (new_year_shifted c k) ∙ add_pos (before k) (146097 * c) r
