-- What the code makes of the slots' numbers.
use Rattle.std.specs.Prelude.{ℕ, ◌<◌, ◌^◌, List, Bool, true, ◌≡◌, ℤ, pos, nat_abs}

-- a number of 32 bits; where the slot's does not fit them, the greatest, which is in no offset, time or date
pub record Natural (z : ℤ) (n : ℕ) : Type 0 where
  pub fits : (k : ℕ) → k < 2 ^ 32 → z ≡ pos k → n ≡ k
  pub is : n < 4294967295 → z ≡ pos n

-- the same with a sign
pub record Integer (z n : ℤ) : Type 0 where
  pub fits : nat_abs z < 2147483647 → n ≡ z
  pub is : nat_abs n < 2147483647 → n ≡ z

-- a record within the ranges of what some reader gives is made of the slots that hold it, and of no others
pub record Made {A : Type 0} (given : A → Bool) (slots : A → List ℤ) (l : List ℤ) (a : A) : Type 0 where
  pub found : (b : A) → given b ≡ true → slots b ≡ l → a ≡ b
  pub held : given a ≡ true → slots a ≡ l
