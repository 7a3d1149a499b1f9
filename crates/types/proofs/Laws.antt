-- What holds of every offset that the constructor makes, and of the small sums.
use Prim.Native.Nat.{ℕ, zero, suc, ◌+◌, ◌*◌, ◌≤◌}
use mathlib.Core.Bool.{Bool, true, false}
use mathlib.Core.Path.{◌≡◌, refl, sym, ap₂, ◌∙◌}
use native.Mathlib.Omega.{arith}
use borrow.Author.Tests.{leb-true, leb-false, le-leb, le-ltb, lt-leb}
use lib.Dec.{leb}
use lib.IntN.{ℤ, pos, neg_ℤ, ◌*ℤ◌, neg_ℤ-+ℤ, negsuc}
use Rattle.types.specs.declared.Offset.{Offset}
use Rattle.std.specs.declared.option.Option.{Option}
use Rattle.std.specs.declared.option.Option.TheVariants.{None, Some}
use Rattle.types.specs.declared.Refusal.{Refusal}
use Rattle.types.specs.declared.Refusal.TheVariants.{NoForm, TooBig, LeftOver}
use Rattle.types.specs.Numbers.{number_of}
use Rattle.types.specs.Sums.{and, with_sign, signed_offset, made, pick_made, minutes_in_all, between_the_ends, in_range, same_sign, seconds_of, largest, sum_or_over, or_over, plus, both}

neg_times : (n : ℕ) → neg_ℤ (pos n) *ℤ pos 60 ≡ neg_ℤ (pos (n * 60))
neg_times zero = refl
neg_times (suc n) = refl

-- the minutes in all of a sign, hours and minutes carry that sign: `-00:30` is -30 and never +30
pub minutes_carry_the_sign : (minus : Bool) (h m : ℕ) → minutes_in_all (signed_offset minus h m) ≡ with_sign minus (h * 60 + m)
minutes_carry_the_sign false h m = refl
minutes_carry_the_sign true h m = rw (neg_times h) (sym (neg_ℤ-+ℤ (pos (h * 60)) (pos m)))

between : (minus : Bool) (n : ℕ) → n ≤ 1439 → between_the_ends (with_sign minus n) ≡ true
between false n h = le-leb n 1439 h
between true zero h = refl
between true (suc n) h = rw (le-ltb 1438 n (omega arith))

-- the largest offset, of either sign, is 1,439 minutes
in_range_lem : (minus : Bool) (h m : ℕ) → h ≤ 23 → m ≤ 59 → in_range (signed_offset minus h m) ≡ true
unfolding in_range
in_range_lem minus h m hh hm = rw (minutes_carry_the_sign minus h m) (between minus (h * 60 + m) (omega arith))

same_sign_lem : (minus : Bool) (h m : ℕ) → same_sign (signed_offset minus h m) ≡ true
unfolding same_sign
same_sign_lem false h m = rw (le-leb 0 h (omega arith), le-leb 0 m (omega arith))
same_sign_lem true zero zero = refl
same_sign_lem true (suc h) zero = refl
same_sign_lem true zero (suc m) = refl
same_sign_lem true (suc h) (suc m) = refl

-- and only such offsets have one sign: `same_sign` is the paper's "the same sign, or are zero", no more and no less
pub record Signed (o : Offset) : Type 0 where
  pub minus : Bool
  pub hour : ℕ
  pub minute : ℕ
  pub is : o ≡ signed_offset minus hour minute

pub one_sign_only : (o : Offset) → same_sign o ≡ true → Signed o
unfolding same_sign
one_sign_only o e = signs o.hours o.minutes refl refl e
  where
    both : {h m : ℤ} → o.hours ≡ h → o.minutes ≡ m → o ≡ record { hours = h; minutes = m }
    both a b = ap₂ (λ (h m : ℤ). record { hours = h; minutes = m }) a b

    signs : (h m : ℤ) → o.hours ≡ h → o.minutes ≡ m → same_sign (record { hours = h; minutes = m }) ≡ true → Signed o
    signs (pos h) (pos m) a b e = record { minus = false; hour = h; minute = m; is = both a b }
    signs (pos zero) (negsuc m) a b e = record { minus = true; hour = 0; minute = suc m; is = both a b }
    signs (pos (suc h)) (negsuc m) a b e = let f : ◌≡◌ {A = Bool} false true = rw (le-leb 0 (suc h) (omega arith), lt-leb (suc h) 0 (omega arith)) at e in let z : ◌≡◌ {A = ℕ} 0 1 = cc in absurd (omega arith)
    signs (negsuc h) (pos zero) a b e = record { minus = true; hour = suc h; minute = 0; is = both a b }
    signs (negsuc h) (pos (suc m)) a b e = let f : ◌≡◌ {A = Bool} false true = rw (lt-leb (suc m) 0 (omega arith)) at e in let z : ◌≡◌ {A = ℕ} 0 1 = cc in absurd (omega arith)
    signs (negsuc h) (negsuc m) a b e = record { minus = true; hour = suc h; minute = suc m; is = both a b }

pub record Proper (o : Offset) : Type 0 where
  pub one_sign : same_sign o ≡ true
  pub within : in_range o ≡ true

-- what the constructor makes has one sign and lies between the ends
pub made_is_proper : (minus : Bool) (h m : ℕ) (o : Offset) → made minus h m ≡ Some o → Proper o
unfolding made
made_is_proper minus h m o e = go (leb h 23) (leb m 59) refl refl e
  where
    outside : None ≡ Some o → ⊥
    outside e = let z : ◌≡◌ {A = ℕ} 0 1 = cc in omega arith

    go : (a b : Bool) → leb h 23 ≡ a → leb m 59 ≡ b → pick_made (and a b) (Some (signed_offset minus h m)) ≡ Some o → Proper o
    go true true ea eb e =
        let same : signed_offset minus h m ≡ o = cc in
        record { one_sign = rw (sym same) (same_sign_lem minus h m); within = rw (sym same) (in_range_lem minus h m (leb-true h 23 ea) (leb-true m 59 eb)) }
    go true false ea eb e = absurd (outside e)
    go false b ea eb e = absurd (outside e)

-- `P1Y2M3DT4H5M6S`
pub seconds_example : seconds_of (record { years = 1; months = 2; weeks = 0; days = 3; hours = 4; minutes = 5; seconds = 6 }) ≡ 36993906
seconds_example = refl

-- a refusal is known by its number
pub number_once : (r q : Refusal) → number_of r ≡ number_of q → r ≡ q
number_once NoForm NoForm e = refl
number_once NoForm TooBig e = absurd (omega arith)
number_once NoForm LeftOver e = absurd (omega arith)
number_once TooBig NoForm e = absurd (omega arith)
number_once TooBig TooBig e = refl
number_once TooBig LeftOver e = absurd (omega arith)
number_once LeftOver NoForm e = absurd (omega arith)
number_once LeftOver TooBig e = absurd (omega arith)
number_once LeftOver LeftOver e = refl

-- ---- the seconds in all

-- what has come to a sum of a so far
pub record ComesTo (r : Option ℕ) (a : ℕ) : Type 0 where
  pub is : r ≡ or_over a

-- a sum that was refused on the way is refused in the end, and no other is
pub then_plus : {r q : Option ℕ} {a : ℕ} (b : ℕ) → ComesTo q a → r ≡ plus q b → ComesTo r (a + b)
then_plus {a = a} b e f = record { is = f ∙ rw e.is (go (leb a largest) refl) }
  where
    go : (t : Bool) → leb a largest ≡ t → plus (sum_or_over t a) b ≡ or_over (a + b)
    go true e = refl
    go false e = sym (rw (lt-leb (a + b) largest (omega (arith, leb-false a largest e))))

-- two sums together come to what both come to
pub both_come : {r p q : Option ℕ} {a b : ℕ} → ComesTo p a → ComesTo q b → r ≡ both p q → ComesTo r (a + b)
both_come {a = a} {b = b} c d f = record { is = f ∙ rw (c.is, d.is) (go (leb b largest) refl) }
  where
    go : (t : Bool) → leb b largest ≡ t → both (or_over a) (sum_or_over t b) ≡ or_over (a + b)
    go true e = (then_plus b (record { is = refl }) refl).is
    go false e = sym (rw (lt-leb (a + b) largest (omega (arith, leb-false b largest e))))
