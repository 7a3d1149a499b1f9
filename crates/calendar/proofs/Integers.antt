-- Integers as differences of two naturals, so that an equation of integers is one of naturals.
use Prim.Native.Nat.{ℕ, zero, suc, ◌+◌, ◌*◌}
use mathlib.Core.Path.{◌≡◌, sym, ap, ap₂, ◌∙◌}
use native.Mathlib.Omega.{arith}
use native.Mathlib.Nat.{mul-suc, mul-zero}
use lib.IntN.{ℤ, pos, negsuc, nat_abs, neg_ℤ, ◌+ℤ◌, ◌-ℤ◌, ◌*ℤ◌, +ℤ_assoc, +ℤ_comm, +ℤ_invr, +ℤ_idl, +ℤ_idr, -ℤ-+ℤ_cancel, neg_ℤ-+ℤ, neg_ℤ-neg_ℤ, *ℤ_comm, *ℤ-zero, suc_ℤ-*ℤ}

infix 60 ◌⊖◌
abbrev pub ◌⊖◌ : ℕ → ℕ → ℤ
a ⊖ b = pos a -ℤ pos b

-- the two inner ones exchanged
swap : (a b c d : ℤ) → (a +ℤ b) +ℤ (c +ℤ d) ≡ (a +ℤ c) +ℤ (b +ℤ d)
swap a b c d = +ℤ_assoc a b (c +ℤ d) ∙ ap (λ (x : ℤ). a +ℤ x) (sym (+ℤ_assoc b c d) ∙ ap (λ (x : ℤ). x +ℤ d) (+ℤ_comm b c) ∙ +ℤ_assoc c b d) ∙ sym (+ℤ_assoc a c (b +ℤ d))

neg_both : (b d : ℕ) → neg_ℤ (pos b) +ℤ neg_ℤ (pos d) ≡ neg_ℤ (pos (b + d))
neg_both b d = sym (neg_ℤ-+ℤ (pos b) (pos d))

pub plus : (a b c d : ℕ) → (a ⊖ b) +ℤ (c ⊖ d) ≡ (a + c) ⊖ (b + d)
plus a b c d = swap (pos a) (neg_ℤ (pos b)) (pos c) (neg_ℤ (pos d)) ∙ ap (λ (x : ℤ). pos (a + c) +ℤ x) (neg_both b d)

pub negated : (a b : ℕ) → neg_ℤ (a ⊖ b) ≡ b ⊖ a
negated a b = neg_ℤ-+ℤ (pos a) (neg_ℤ (pos b)) ∙ ap (λ (x : ℤ). neg_ℤ (pos a) +ℤ x) (neg_ℤ-neg_ℤ (pos b)) ∙ +ℤ_comm (neg_ℤ (pos a)) (pos b)

pub minus : (a b c d : ℕ) → (a ⊖ b) -ℤ (c ⊖ d) ≡ (a + d) ⊖ (b + c)
minus a b c d = ap (λ (x : ℤ). (a ⊖ b) +ℤ x) (negated c d) ∙ plus a b d c

cancel : (n : ℕ) → n ⊖ n ≡ pos 0
cancel n = +ℤ_invr (pos n)

plain : (a : ℕ) → a ⊖ 0 ≡ pos a
plain a = +ℤ_idr (pos a)

-- two differences are equal where the sums across are
pub same : (a b c d : ℕ) → a + d ≡ c + b → a ⊖ b ≡ c ⊖ d
same a b c d e =
    let f : b + d ≡ d + b = omega arith in
    sym (+ℤ_idr (a ⊖ b)) ∙ ap (λ (x : ℤ). (a ⊖ b) +ℤ x) (sym (cancel d)) ∙ plus a b d d ∙ ap₂ (λ (x y : ℕ). x ⊖ y) e f ∙ sym (plus c d b b) ∙ ap (λ (x : ℤ). (c ⊖ d) +ℤ x) (cancel b) ∙ +ℤ_idr (c ⊖ d)

-- and of those that take the same away only where they are
pub same_up : (a c b : ℕ) → a ⊖ b ≡ c ⊖ b → a ≡ c
same_up a c b e = ap nat_abs (sym (-ℤ-+ℤ_cancel (pos a) (pos b)) ∙ ap (λ (x : ℤ). x +ℤ pos b) e ∙ -ℤ-+ℤ_cancel (pos c) (pos b))

-- and any two only where the sums across are
pub across : (a b c d : ℕ) → a ⊖ b ≡ c ⊖ d → a + d ≡ c + b
across a b c d e = same_up (a + d) (c + b) (b + d) (same (a + d) (b + d) a b (omega arith) ∙ e ∙ same c d (c + b) (b + d) (omega arith))

once_more : (z : ℤ) (k : ℕ) → z *ℤ pos (suc k) ≡ z *ℤ pos k +ℤ z
once_more z k = *ℤ_comm z (pos (suc k)) ∙ suc_ℤ-*ℤ (pos k) z ∙ ap (λ (x : ℤ). x +ℤ z) (*ℤ_comm (pos k) z)

pub times : (a b k : ℕ) → (a ⊖ b) *ℤ pos k ≡ (a * k) ⊖ (b * k)
times a b zero = *ℤ-zero (a ⊖ b) ∙ sym (ap₂ (λ (x y : ℕ). x ⊖ y) (mul-zero a) (mul-zero b))
times a b (suc k) = once_more (a ⊖ b) k ∙ ap (λ (x : ℤ). x +ℤ (a ⊖ b)) (times a b k) ∙ plus (a * k) (b * k) a b ∙ ap₂ (λ (x y : ℕ). x ⊖ y) (sym (mul-suc a k)) (sym (mul-suc b k))

-- every integer is one
pub record Parted (z : ℤ) : Type 0 where
  pub up : ℕ
  pub down : ℕ
  pub is : z ≡ up ⊖ down

pub parted : (z : ℤ) → Parted z
parted (pos n) = record { up = n; down = 0; is = sym (plain n) }
parted (negsuc n) = record { up = 0; down = suc n; is = sym (+ℤ_idl (negsuc n)) }

pub of_pos : (n : ℕ) → pos n ≡ n ⊖ 0
of_pos n = sym (plain n)

-- so many more and so many less
pub add_pos : (a b m : ℕ) → (a ⊖ b) +ℤ pos m ≡ (a + m) ⊖ b
add_pos a b m = ap (λ (x : ℤ). (a ⊖ b) +ℤ x) (of_pos m) ∙ plus a b m 0 ∙ same (a + m) (b + 0) (a + m) b (omega arith)

pub less_pos : (a b m : ℕ) → (a ⊖ b) -ℤ pos m ≡ a ⊖ (b + m)
less_pos a b m = ap (λ (x : ℤ). (a ⊖ b) -ℤ x) (of_pos m) ∙ minus a b m 0 ∙ same (a + 0) (b + m) a (b + m) (omega arith)
