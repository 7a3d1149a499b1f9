-- Months: the days before each of them, by a table.
use Prim.Native.Nat.{ℕ, zero, suc, ◌+◌, ◌≤◌, ◌<◌}
use mathlib.Core.Bool.{Bool, true, false}
use mathlib.Core.List.{List, [], ◌∷◌}
use mathlib.Core.Path.{◌≡◌, refl, sym, ap, ◌∙◌}
use native.Mathlib.Omega.{arith}
use native.Mathlib.Nat.{zero-add}
use native.Mathlib.Numerals.{add-one}
use lib.ListN.{get_or, take, length}
use Rattle.calendar.specs.Calendar.{months, sum}

abbrev pub table : List ℕ
table = 0 ∷ 0 ∷ 31 ∷ 59 ∷ 90 ∷ 120 ∷ 151 ∷ 181 ∷ 212 ∷ 243 ∷ 273 ∷ 304 ∷ 334 ∷ 365 ∷ []

-- a sum so far, behind each number of a list
sums : ℕ → List ℕ → List ℕ
sums n [] = n ∷ []
sums n (m ∷ l) = n ∷ sums (n + m) l

-- one test, which computes, of all entries
table_computed : table ≡ sums 0 (months false)
unfolding sums
table_computed = refl

sum_at : (n : ℕ) (l : List ℕ) (i : ℕ) → i ≤ length l → get_or (sums n l) i 0 ≡ n + sum (take i l)
unfolding sums sum
sum_at n [] zero h = omega arith
sum_at n [] (suc i) h = absurd (omega arith)
sum_at n (m ∷ l) zero h = omega arith
sum_at n (m ∷ l) (suc i) h = omega (arith, sum_at (n + m) l i (omega arith))

pub table_at : (m : ℕ) → m ≤ 13 → get_or table m 0 ≡ sum (take m (months false))
table_at m h = ap (λ (l : List ℕ). get_or l m 0) table_computed ∙ sum_at 0 (months false) m h ∙ zero-add (sum (take m (months false)))

-- it grows up to the year's days
pub sum_below : (l : List ℕ) (i : ℕ) → sum (take i l) ≤ sum l
unfolding sum
sum_below [] zero = omega arith
sum_below [] (suc i) = omega arith
sum_below (m ∷ l) zero = omega arith
sum_below (m ∷ l) (suc i) = omega (arith, sum_below l i)

-- a leap year has a day more behind February
pub later_in_leap : (m : ℕ) → 3 ≤ m → sum (take m (months true)) ≡ sum (take m (months false)) + 1
unfolding sum
later_in_leap zero h = absurd (omega arith)
later_in_leap (suc zero) h = absurd (omega arith)
later_in_leap (suc (suc zero)) h = absurd (omega arith)
later_in_leap (suc (suc (suc m))) h = omega arith

pub before_in_leap : (l : Bool) (m : ℕ) → m < 3 → sum (take m (months l)) ≡ sum (take m (months false))
unfolding sum
before_in_leap false m h = refl
before_in_leap true zero h = refl
before_in_leap true (suc zero) h = refl
before_in_leap true (suc (suc zero)) h = refl
before_in_leap true (suc (suc (suc m))) h = absurd (omega arith)

-- a month's days lie between the days before it and those before the next one
pub one_on : (l : List ℕ) (m : ℕ) → sum (take m l) + get_or l m 0 ≡ sum (take (suc m) l)
unfolding sum
one_on [] zero = refl
one_on [] (suc m) = refl
one_on (n ∷ l) zero = omega arith
one_on (n ∷ l) (suc m) = omega (arith, one_on l m)

pub one_more : (l : List ℕ) (m : ℕ) → sum (take m l) + get_or l m 0 ≡ sum (take (m + 1) l)
one_more l m = one_on l m ∙ ap (λ (k : ℕ). sum (take k l)) (sym (add-one m))
