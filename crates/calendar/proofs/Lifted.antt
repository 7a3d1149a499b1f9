-- A signed number that is lifted above zero.
use Prim.Native.Nat.{ℕ, suc, ◌+◌, ◌-◌, ◌≤◌, ◌<◌}
use mathlib.Core.Path.{◌≡◌, refl, sym, ap, ◌∙◌}
use native.Mathlib.Omega.{arith}
use lib.IntN.{ℤ, pos, negsuc, ◌+ℤ◌, ◌-ℤ◌, +ℤ-neg_ℤ_cancel}
use lib.Signed.{mag}
use borrow.Author.Tests.{le-ltb}
use Rattle.calendar.proofs.Integers.{◌⊖◌}

pub record Lifted (z : ℤ) (k : ℕ) : Type 0 where
  pub number : ℕ
  pub is : z +ℤ pos k ≡ pos number
  pub above : k ≤ number + mag z + 1
  pub below : number ≤ k + mag z

pub lifted : (z : ℤ) (k : ℕ) → mag z < k → Lifted z k
lifted (pos a) k h = record { number = a + k; is = refl; above = omega arith; below = omega arith }
lifted (negsuc a) k h = record {
  number = k - suc a;
  is = rw (le-ltb k (suc a) (omega arith));
  above = omega arith;
  below = omega arith;
}

-- what was lifted is the difference
pub let_down : (z : ℤ) (k n : ℕ) → z +ℤ pos k ≡ pos n → z ≡ n ⊖ k
let_down z k n e = sym (+ℤ-neg_ℤ_cancel z (pos k)) ∙ ap (λ (x : ℤ). x -ℤ pos k) e
