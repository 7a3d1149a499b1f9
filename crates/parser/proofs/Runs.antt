-- Laws of digit runs: where they go on and end, and how they grow with the input.
use Prim.Native.Nat.{ℕ, zero, suc, ◌+◌, ◌*◌, ◌-◌, ◌<◌, ◌≤◌}
use mathlib.Core.List.{List, [], ◌∷◌, ◌++◌}
use mathlib.Core.Bool.{Bool, true, false}
use mathlib.Core.Path.{◌≡◌, refl, ap}
use native.Mathlib.Omega.{arith}
use native.Mathlib.Numerals.{add-one}
use lib.ListN.{length, get_or, replicate, drop_of_length-le}
use lib.Seq.{drop-cons}
use borrow.Author.Tests.{ltb-true, lt-ltb, le-ltb}
use Rattle.parser.specs.Reading.{pick}
use Rattle.parser.specs.Digits.{is_digit, digits, number_from, run_at, at_the_end, any, run_as}
use Rattle.parser.proofs.Fields.{DigitAt, OtherAt, and_true}

-- digits and nothing else, as a run is
pub data AllDigits : List ℕ → Type 0 where
  none : AllDigits []
  also : {b : ℕ} {d : List ℕ} → is_digit b ≡ true → AllDigits d → AllDigits (b ∷ d)

-- a run, and digits behind it
pub run_digits : (l : List ℕ) {z : List ℕ} → AllDigits z → AllDigits (digits l ++ z)
unfolding digits
run_digits [] h = h
run_digits (b ∷ l) {z} h = go (is_digit b) refl (run_digits l h)
  where
    go : (t : Bool) → is_digit b ≡ t → AllDigits (digits l ++ z) → AllDigits (pick t (b ∷ digits l) [] ++ z)
    go true e ih = also e ih
    go false e ih = h

pub zero_digits : (n : ℕ) → AllDigits (replicate n 48)
zero_digits zero = none
zero_digits (suc n) = also {b = 48} refl (zero_digits n)

-- a run at a digit is that digit and the run after it
pub run_step : (s : List ℕ) (at : ℕ) → DigitAt s at → run_at s at ≡ get_or s at 0 ∷ run_at s (at + 1)
unfolding digits
run_step s at d = rw (add-one at, drop-cons s at 0 (ltb-true at (length s) d.inside), d.is)

pub run_other : (s : List ℕ) (at : ℕ) → OtherAt s at → run_at s at ≡ []
unfolding digits
run_other s at o = rw (drop-cons s at 0 (ltb-true at (length s) o.inside), o.is)

pub run_end : (s : List ℕ) (at : ℕ) → length s ≤ at → run_at s at ≡ []
unfolding digits
run_end s at h = rw (drop_of_length-le s h)

-- digits never make a number smaller
pub number_grows : (d : List ℕ) (v : ℕ) → v ≤ number_from v d
unfolding number_from
number_grows [] v = omega arith
number_grows (b ∷ d) v = omega (arith, number_grows d (v * 10 + (b - 48)))

pub number_append : (a b : List ℕ) (v : ℕ) → number_from v (a ++ b) ≡ number_from (number_from v a) b
unfolding number_from
number_append [] b v = refl
number_append (c ∷ a) b v = number_append a b (v * 10 + (c - 48))

-- a longer input has the same run where it ends inside, and else one that begins with it
pub digits_short : (l : List ℕ) → length (digits l) ≤ length l
unfolding digits
digits_short [] = omega arith
digits_short (b ∷ l) = go (is_digit b) (digits_short l)
  where
    go : (t : Bool) → length (digits l) ≤ length l → length (pick t (b ∷ digits l) []) ≤ suc (length l)
    go true h = omega arith
    go false h = omega arith

pub digits_inside : (l x : List ℕ) → length (digits l) < length l → digits (l ++ x) ≡ digits l
unfolding digits
digits_inside [] x h = absurd (omega arith)
digits_inside (b ∷ l) x h = go (is_digit b) h (digits_inside l x)
  where
    go : (t : Bool) → length (pick t (b ∷ digits l) []) < suc (length l) → (length (digits l) < length l → digits (l ++ x) ≡ digits l) → pick t (b ∷ digits (l ++ x)) [] ≡ pick t (b ∷ digits l) []
    go true h ih = ap (λ (d : List ℕ). b ∷ d) (ih (omega arith))
    go false h ih = refl

pub digits_more_lem : (l x : List ℕ) → (y : List ℕ) × (digits (l ++ x) ≡ digits l ++ y)
unfolding digits
digits_more_lem [] x = (digits x, refl)
digits_more_lem (b ∷ l) x = go (is_digit b) (digits_more_lem l x)
  where
    go : (t : Bool) → (y : List ℕ) × (digits (l ++ x) ≡ digits l ++ y) → (y : List ℕ) × (pick t (b ∷ digits (l ++ x)) [] ≡ pick t (b ∷ digits l) [] ++ y)
    go true (y, e) = (y, ap (λ (d : List ℕ). b ∷ d) e)
    go false ih = ([], refl)

-- the input ends where the run does, or has another byte there
pub end_is : (s : List ℕ) (at next : ℕ) → next ≡ at + length (run_at s at) → length s ≤ next → at_the_end s at ≡ true
end_is s at next e h = rw (le-ltb (at + length (run_at s at)) (length s) (omega arith))

pub end_is_not : (s : List ℕ) (at next : ℕ) → next ≡ at + length (run_at s at) → next < length s → at_the_end s at ≡ false
end_is_not s at next e h = rw (lt-ltb (at + length (run_at s at)) (length s) (omega arith))

-- a run of any number is open at the end of the input alone
pub any_open : {A : Type 0} (f : List ℕ → A) (r : ℕ) (s : List ℕ) (at : ℕ) → (run_as f any r).more s at ≡ at_the_end s at
unfolding run_as
any_open f r s at = and_true (at_the_end s at)
