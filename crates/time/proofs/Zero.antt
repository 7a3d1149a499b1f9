-- What code says of a number that may have to be 0: what it says of the number, and then the test.
use Prim.Native.Nat.{ℕ, ◌≤◌}
use mathlib.Core.List.{List}
use mathlib.Core.Bool.{Bool, true, false}
use mathlib.Core.Logic.{◌⊎◌, inl, inr}
use mathlib.Core.Option.{Option}
use mathlib.Core.Path.{◌≡◌, refl, sym}
use native.Mathlib.Omega.{arith}
use lib.Dec.{eqb}
use borrow.Author.Tests.{ne_eqb}
use Rattle.std.specs.declared.result.Result.{Result}
use Rattle.std.specs.declared.result.Result.TheVariants.{Ok, Err}
use Rattle.parser.specs.Reading.{Found, no, got, stop, Says, lit, seq, then, opt, lack, must, map_found, keep_or_stop}
use Rattle.parser.specs.Digits.{field}
use Rattle.parser.specs.Fields.{preceded_by, or_zero}
use Rattle.fields.specs.Read.{number_read}
use Rattle.parser.specs.Read.{missed, cut, exact_found, exact_more, or_value}
use Rattle.parser.specs.declared.Miss.{Miss}
use Rattle.parser.specs.declared.Miss.TheVariants as miss
use Rattle.parser.specs.declared.Exact.{Exact}
use Rattle.parser.proofs.Fields.{true≢false}
use Rattle.parser.proofs.Places.{no≢got, stop≢got}
use Rattle.parser.proofs.Leaves.{field_within}
use Rattle.looks.proofs.Choices.{picked_first}
use Rattle.parser.proofs.Alike.{alike_says, must_behind}
use Rattle.parser.proofs.Says.{says_must}
use Rattle.time.specs.Rules.{zero_if}
use Rattle.time.proofs.Unmarked.{mark, zero_no_mark}

-- what is found, or 1 in its place
abbrev tested : Bool → Found ℕ → Found ℕ
tested false f = f
tested true f = keep_or_stop (λ v. eqb v 0) 1 f

tested_missed : (z : Bool) (m : Miss) → tested z (missed m) ≡ missed m
tested_missed false m = refl
tested_missed true miss.Wrong = refl
tested_missed true miss.Cut = refl
tested_missed true (miss.Stopped why) = refl

tested_got : (z : Bool) (v n : ℕ) → ((z ≡ true) × (v ≡ 0)) ⊎ (z ≡ false) → tested z (got v n) ≡ got v n
tested_got z v n (inl (e, d)) = rw (e, d)
tested_got z v n (inr e) = rw e

module _ (z : Bool) (hi : ℕ) (s : List ℕ) (at : ℕ) where
  zero_says : (f : Found ℕ) (m : Bool) → Says (preceded_by 58 (field 2 0 hi)) s at f m → Says (preceded_by 58 (zero_if z (field 2 0 hi))) s at (tested z f) m
  zero_says f m h = go z
    where
      go : (z : Bool) → Says (preceded_by 58 (zero_if z (field 2 0 hi))) s at (tested z f) m
      go false = h
      go true = alike_says (preceded_by 58 (zero_if true (field 2 0 hi))) _ (must_behind (λ v. eqb v 0) 1 (opt (lit 58)) (λ _. field 2 0 hi)) s at _ m (says_must (preceded_by 58 (field 2 0 hi)) s at (λ v. eqb v 0) 1 f m h)

  pub zero_missed : (m : Miss) → Says (preceded_by 58 (field 2 0 hi)) s at (missed m) (cut m) → Says (preceded_by 58 (zero_if z (field 2 0 hi))) s at (missed m) (cut m)
  zero_missed m h = rw (tested_missed z m) at (zero_says (missed m) (cut m) h)

  pub zero_passes : (v n : ℕ) (m : Bool) → ((z ≡ true) × (v ≡ 0)) ⊎ (z ≡ false) → Says (preceded_by 58 (field 2 0 hi)) s at (got v n) m → Says (preceded_by 58 (zero_if z (field 2 0 hi))) s at (got v n) m
  zero_passes v n m e h = rw (tested_got z v n e) at (zero_says (got v n) m h)

  pub zero_refuses : (v n : ℕ) (m : Bool) → z ≡ true → (v ≡ 0 → ⊥) → Says (preceded_by 58 (field 2 0 hi)) s at (got v n) m → Says (preceded_by 58 (zero_if z (field 2 0 hi))) s at (stop 1) m
  zero_refuses v n m e d h = rw (stops e) at (zero_says (got v n) m h)
    where
      stops : z ≡ true → tested z (got v n) ≡ stop 1
      stops e = rw (e, ne_eqb v 0 d)

  -- whether or not it has to be 0, it is at most `hi`
  pub zero_within : (v n : ℕ) (m : Bool) → Says (preceded_by 58 (zero_if z (field 2 0 hi))) s at (got v n) m → v ≤ hi
  unfolding seq opt must
  zero_within v n m h = go z (lack at ((lit 58).reads s at)) (sym h.found)
    where
      kept : (k : ℕ) (f : Found ℕ) → (field 2 0 hi).reads s k ≡ f → keep_or_stop (λ v. eqb v 0) 1 f ≡ got v n → v ≤ hi
      kept k no i e = absurd (no≢got e)
      kept k (stop r) i e = absurd (stop≢got e)
      kept k (got w j) i e = let a = field_within 2 0 hi s k w j i in let p = picked_first (eqb w 0) stop≢got e in let b : w ≡ v = cc in omega (arith, a.1)

      go : (z : Bool) (f : Found (Option Unit)) → then f (λ _ k. (zero_if z (field 2 0 hi)).reads s k) ≡ got v n → v ≤ hi
      go z no e = absurd (no≢got e)
      go z (stop r) e = absurd (stop≢got e)
      go false (got o k) e = (field_within 2 0 hi s k v n e).1
      go true (got o k) e = kept k ((field 2 0 hi).reads s k) refl e

  -- where the number is still open no comma or point stands behind it
  pub unmarked : (x : Result (Exact ℕ) Miss) → Says (preceded_by 58 (zero_if z (field 2 0 hi))) s at (exact_found x) (exact_more x) → (v n : ℕ) → got v n ≡ map_found (or_value 0) (lack at (exact_found x)) → exact_more x ≡ true → mark.reads s n ≡ no
  unmarked (Ok g) h v n e o = absurd (true≢false (sym o))
  unmarked (Err miss.Wrong) h v n e o = absurd (true≢false (sym o))
  unmarked (Err (miss.Stopped why)) h v n e o = absurd (true≢false (sym o))
  unmarked (Err miss.Cut) h v n e o = let i : at ≡ n = cc in rw (← i) (zero_no_mark z hi s at (sym h.more))

-- an optional number: it, or nothing where it is left out
pub number_taken : (s : List ℕ) (at : ℕ) (x : Result (Exact ℕ) Miss) (v n : ℕ) → got v n ≡ map_found (or_value 0) (lack at (exact_found x)) → (lack at (exact_found x) ≡ got (number_read x) n) × (v ≡ or_zero (number_read x))
number_taken s at (Ok g) v n e = let i : v ≡ g.value = cc in let j : n ≡ g.next = cc in (rw j, i)
number_taken s at (Err miss.Wrong) v n e = let i : v ≡ 0 = cc in let j : n ≡ at = cc in (rw j, i)
number_taken s at (Err miss.Cut) v n e = let i : v ≡ 0 = cc in let j : n ≡ at = cc in (rw j, i)
number_taken s at (Err (miss.Stopped why)) v n e = absurd (stop≢got (sym e))
