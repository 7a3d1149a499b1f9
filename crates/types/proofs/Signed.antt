-- How large a signed sum gets: enough to see that the minutes in all of any offset fit 64 bits.
use Prim.Native.Nat.{ℕ, zero, suc, ◌+◌, ◌*◌, ◌-◌, ◌≤◌}
use mathlib.Core.Bool.{Bool, true, false, cond}
use native.Mathlib.Omega.{arith}
use lib.Dec.{ltb}
use lib.IntN.{ℤ, pos, negsuc, neg_ℤ, sub_ℕ, ◌+ℤ◌, ◌*ℤ◌}
use lib.Signed.{mag}

pub neg_mag : (n : ℕ) → mag (neg_ℤ (pos n)) ≤ n
neg_mag zero = omega arith
neg_mag (suc n) = omega arith

sub_mag : (a b : ℕ) → mag (sub_ℕ a b) ≤ a + b
sub_mag a b = go (ltb a b)
  where
    go : (t : Bool) → mag (cond t (negsuc (b - suc a)) (pos (a - b))) ≤ a + b
    go true = omega arith
    go false = omega arith

pub times60_mag : (z : ℤ) → mag (z *ℤ pos 60) ≤ mag z * 60 + 60
times60_mag (pos a) = omega arith
times60_mag (negsuc a) = omega (arith, neg_mag (suc a * 60))

pub plus_mag : (x y : ℤ) → mag (x +ℤ y) ≤ mag x + mag y + 1
plus_mag (pos a) (pos b) = omega arith
plus_mag (pos a) (negsuc b) = omega (arith, sub_mag a (suc b))
plus_mag (negsuc a) (pos b) = omega (arith, sub_mag b (suc a))
plus_mag (negsuc a) (negsuc b) = omega arith
