-- Integers counted from a start, and how far they lie from it.
use Prim.Native.Nat.{ℕ, suc, ◌+◌, ◌-◌, ◌≤◌}
use mathlib.Core.Path.{◌≡◌, sym, ◌∙◌}
use native.Mathlib.Omega.{arith}
use lib.IntN.{ℤ, pos, negsuc, nat_abs, +ℤ_idl}
use Rattle.calendar.proofs.Integers.{◌⊖◌, same, of_pos}

pub of_neg : (n : ℕ) → negsuc n ≡ 0 ⊖ suc n
of_neg n = sym (+ℤ_idl (negsuc n))

pub record Counted (start first last : ℕ) (z : ℤ) : Type 0 where
  pub number : ℕ
  pub is : z ≡ number ⊖ start
  pub above : first ≤ number
  pub below : number ≤ last

-- no further than k from 0, and so from a start that is at least k before it
pub counted : (start k : ℕ) (z : ℤ) → k ≤ start → nat_abs z ≤ k → Counted start (start - k) (start + k) z
counted start k (pos n) h e = record { number = start + n; is = of_pos n ∙ same n 0 (start + n) start (omega arith); above = omega arith; below = omega arith }
counted start k (negsuc n) h e = record { number = start - suc n; is = of_neg n ∙ same 0 (suc n) (start - suc n) start (omega arith); above = omega arith; below = omega arith }
