-- Spans laid end to end, as the years are and the months of a year: each number lies in one of them, at one place.
use Prim.Native.Nat.{ℕ, zero, suc, ◌+◌, ◌-◌, ◌≤◌, ◌<◌}
use mathlib.Core.Bool.{Bool, true, false}
use mathlib.Core.Path.{◌≡◌, refl, ap}
use native.Mathlib.Omega.{arith}
use lib.Dec.{ltb}
use borrow.Author.Tests.{ltb-true, ltb-false}

-- the span that holds n, and how far behind its start n is
pub record Place (start length : ℕ → ℕ) (n : ℕ) : Type 0 where
  pub span : ℕ
  pub rest : ℕ
  pub is : start span + rest ≡ n
  pub inside : rest < length span

module _ (start length : ℕ → ℕ) (next : (i : ℕ) → start (suc i) ≡ start i + length i) where
  pub place : (n b : ℕ) → start 0 ≡ 0 → n < start b → Place start length n
  place n zero s h = absurd (omega arith)
  place n (suc b) s h = go (ltb n (start b)) refl (place n b s)
    where
      go : (t : Bool) → ltb n (start b) ≡ t → (n < start b → Place start length n) → Place start length n
      go true e earlier = earlier (ltb-true n (start b) e)
      go false e earlier = record { span = b; rest = n - start b; is = omega (arith, ltb-false n (start b) e); inside = omega (arith, ltb-false n (start b) e, next b) }

  -- a span ends before every later one starts
  ends : (i j : ℕ) → i < j → start i + length i ≤ start j
  ends i zero h = absurd (omega arith)
  ends i (suc j) h = go (ltb i j) refl (ends i j)
    where
      go : (t : Bool) → ltb i j ≡ t → (i < j → start i + length i ≤ start j) → start i + length i ≤ start (suc j)
      go true e earlier = omega (arith, earlier (ltb-true i j e), next j)
      go false e earlier =
          let last : i ≡ j = omega (arith, ltb-false i j e) in
          rw last (omega (arith, next j))

  pub one_place : (i j r s : ℕ) → r < length i → s < length j → start i + r ≡ start j + s → (i ≡ j) × (r ≡ s)
  one_place i j r s h k e =
      let one = go (ltb i j) (ltb j i) refl refl in
      (one, omega (arith, ap start one))
    where
      go : (t u : Bool) → ltb i j ≡ t → ltb j i ≡ u → i ≡ j
      go true true a b = omega (arith, ltb-true i j a, ltb-true j i b)
      go true false a b = omega (arith, ends i j (ltb-true i j a))
      go false true a b = omega (arith, ends j i (ltb-true j i b))
      go false false a b = omega (arith, ltb-false i j a, ltb-false j i b)
