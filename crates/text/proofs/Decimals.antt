-- The fewest digits that hold a number, as the kit's `decimal` spells them, are its decimal digits; and a signed number is its size behind
-- its sign.
use Prim.Native.Nat.{ℕ, zero, suc, ◌+◌, ◌/◌, ◌%◌, ◌^◌, ◌≤◌, ◌<◌}
use mathlib.Core.Bool.{Bool, true, false}
use mathlib.Core.List.{[], ◌∷◌, ◌++◌}
use mathlib.Core.Path.{◌≡◌}
use native.Mathlib.Nat.{pow-suc, pow-le-pow_right, lt_of_not-le}
use native.Mathlib.Numerals.{sub-one}
use native.Mathlib.Omega.{arith}
use borrow.Author.Tests.{lt-ltb, le-ltb}
use lib.Dec.{ltb}
use lib.ListN.{length, length-append}
use Rattle.parser.specs.Reading.{pick}
use Rattle.io.specs.Digits.{last_digits, IsDigitCount}
use Rattle.text.specs.Text.{decimal, decimal_of}

-- they are no more than there is room for
pub digits_short : (k n : ℕ) → length (decimal_of k n) ≤ k
unfolding decimal_of
digits_short zero n = omega arith
digits_short (suc k) n = step (ltb n 10) (digits_short k (n / 10))
  where
    step : (t : Bool) → length (decimal_of k (n / 10)) ≤ k → length (pick t ((48 + n) ∷ []) (decimal_of k (n / 10) ++ ((48 + n % 10) ∷ []))) ≤ suc k
    step true h = omega arith
    step false h = simp length-append (omega arith)

ten_pow : (k : ℕ) → 1 ≤ 10 ^ k
ten_pow zero = omega arith
ten_pow (suc k) = omega (arith, pow-suc 10 k, ten_pow k)

spelled : (k m n : ℕ) → k < m → n < 10 ^ suc k → (0 < k → 10 ^ k ≤ n) → last_digits 10 (suc k) n ≡ decimal_of m n
unfolding decimal_of
spelled zero (suc m) n h few least =
    let small : n < 10 = omega arith in
    let same : n % 10 ≡ n = omega arith in
    rw (same, lt-ltb n 10 small)
spelled (suc k) (suc m) n h few least =
    let p = pow-suc 10 (suc k) in
    let q = pow-suc 10 k in
    let more = least (omega arith) in
    let large : 10 ≤ n = omega (arith, ten_pow k) in
    let last : n % 10 < 10 = omega arith in
    rw (le-ltb n 10 large, lt-ltb (n % 10) 10 last, spelled k m (n / 10) (omega arith) (omega arith) (λ z. omega arith))
spelled k zero n h few least = absurd (omega arith)

-- where twenty digits hold n, the fewest are no more
few : (n k : ℕ) → n < 10 ^ 20 → (0 < k → 10 ^ k ≤ n) → k < 20
few n k h least = lt_of_not-le (λ (over : 20 ≤ k).
    let p = least (omega arith) in
    let q : 10 ^ 20 ≤ 10 ^ k = pow-le-pow_right (omega arith) over in
    omega arith)

pub decimal_is : (n r : ℕ) → n < 10 ^ 20 → IsDigitCount 10 1 n r → last_digits 10 r n ≡ decimal n
decimal_is n zero h f = absurd (omega arith)
decimal_is n (suc k) h f =
    let least : 0 < k → 10 ^ k ≤ n = λ z. rw sub-one at (f.2 (omega arith)) in
    spelled k 20 n (few n k h least) f.1 least
