-- Nine digits stay below the power of ten that they reach.
use Rattle.std.proofs.Common.{◌≡◌, ℕ, zero, suc, ◌+◌, ◌-◌, ◌*◌, ◌^◌, ◌<◌, leb, List, [], ◌∷◌, ◌++◌, take, replicate, mul_assoc, mul-one, arith, leb-true}
use native.Mathlib.Nat.{pow-succ'}
use Rattle.parser.specs.Digits.{digits, number_from, nanoseconds}
use Rattle.parser.proofs.Fields.{and_second}
use Rattle.parser.proofs.Runs.{AllDigits, also, run_digits, zero_digits}

pub times_ten : (m n : ℕ) → m * 10 * 10 ^ n ≡ m * 10 ^ suc n
times_ten m n = rw (pow-succ' 10 n) (mul_assoc m 10 (10 ^ n))

below_power : (n v m : ℕ) → v < m → v < m * 10 ^ n
below_power zero v m h = rw (mul-one m) h
below_power (suc n) v m h = rw (← times_ten m n) (below_power n v (m * 10) (omega arith))

-- n digits after v are below the power that n digits reach
number_below : (d : List ℕ) → AllDigits d → (n v m : ℕ) → v < m → number_from v (take n d) < m * 10 ^ n
unfolding number_from
number_below d ds zero v m h = rw (mul-one m) h
number_below [] ds (suc n) v m h = below_power (suc n) v m h
number_below (b ∷ d) (also hb ds) (suc n) v m h = rw (← times_ten m n) (number_below d ds n (v * 10 + (b - 48)) (m * 10) (omega (arith, leb-true b 57 (and_second (leb 48 b) hb))))

pub nanoseconds_small : (l : List ℕ) → nanoseconds (digits l) < 1000000000
nanoseconds_small l = number_below (digits l ++ replicate 9 48) (run_digits l (zero_digits 9)) 9 0 1 (omega arith)
