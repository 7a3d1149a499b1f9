-- Two digits read at one go are a field of two.
use Prim.Native.Nat.{ℕ, ◌+◌, ◌*◌, ◌-◌, ◌<◌, ◌≤◌}
use mathlib.Core.List.{List}
use mathlib.Core.Bool.{Bool, true, false}
use mathlib.Core.Path.{◌≡◌, refl, sym}
use native.Mathlib.Omega.{arith}
use lib.ListN.{length, get_or}
use lib.Dec.{leb, eqb}
use borrow.Author.Tests.{leb-true, lt-ltb, le-leb}
use Rattle.parser.specs.Reading.{no, got, lit, pick, and, within, Says}
use Rattle.parser.specs.Digits.{is_digit, digits_from, digits_more, reach, field}
use Rattle.parser.specs.Fields.{preceded_by}
use Rattle.parser.specs.Read.{place_after}
use Rattle.parser.proofs.Fields.{true≢false, and_first, and_second, digit_within, DigitAt, OtherAt}
use Rattle.parser.proofs.Leaves.{digit_is_not}
use Rattle.parser.proofs.General.{field_eager, says_past}
use Rattle.std.specs.declared.option.Option.{Option}
use Rattle.std.specs.declared.option.Option.TheVariants.{None, Some}
use Rattle.std.proofs.lemmas.Option.{none-some}
use Rattle.looks.specs.Digits.{two_number, two_digits}

-- a byte that is a digit
pub record IsDigit (b : ℕ) : Type 0 where
  pub least : 48 ≤ b
  pub greatest : b ≤ 57

pub is_digit_lem : (b : ℕ) → is_digit b ≡ true → IsDigit b
is_digit_lem b e = let w = digit_within b e in record { least = w.0; greatest = w.1 }

pub digit_is : (b : ℕ) → 48 ≤ b → b ≤ 57 → is_digit b ≡ true
digit_is b h k = rw (le-leb 48 b h, le-leb b 57 k)

pub within_ends : (lo hi v : ℕ) → within lo hi v ≡ true → (lo ≤ v) × (v ≤ hi)
within_ends lo hi v e = (leb-true lo v (and_first (leb lo v) (leb v hi) e), leb-true v hi (and_second (leb lo v) e))

pub within_is : (lo hi v : ℕ) → lo ≤ v → v ≤ hi → within lo hi v ≡ true
within_is lo hi v h k = rw (le-leb lo v h, le-leb v hi k)

-- that two bytes are digits, and their number lies from lo to hi
pub record TwoIs (a b lo hi : ℕ) : Type 0 where
  pub first : is_digit a ≡ true
  pub second : is_digit b ≡ true
  pub inside : within lo hi (two_number a b) ≡ true

pub two_some : (a b lo hi : ℕ) → TwoIs a b lo hi → two_digits a b lo hi ≡ Some (two_number a b)
unfolding two_digits
two_some a b lo hi h = rw (h.first, h.second, h.inside)

-- the same, as numbers
pub record Ends (a b lo hi : ℕ) : Type 0 where
  pub first : IsDigit a
  pub second : IsDigit b
  pub least : lo ≤ two_number a b
  pub greatest : two_number a b ≤ hi

pub two_ends : {a b lo hi : ℕ} → TwoIs a b lo hi → Ends a b lo hi
two_ends {a} {b} {lo} {hi} h = let w = within_ends lo hi (two_number a b) h.inside in record { first = is_digit_lem a h.first; second = is_digit_lem b h.second; least = w.0; greatest = w.1 }

all_three : (x y z : Bool) → and x (and y z) ≡ true → (x ≡ true) × ((y ≡ true) × (z ≡ true))
all_three true true true e = (refl, (refl, refl))
all_three true true false e = absurd (true≢false (sym e))
all_three true false z e = absurd (true≢false (sym e))
all_three false y z e = absurd (true≢false (sym e))

pub two_none : (a b lo hi : ℕ) → (TwoIs a b lo hi → ⊥) → None ≡ two_digits a b lo hi
unfolding two_digits
two_none a b lo hi h = go (and (is_digit a) (and (is_digit b) (within lo hi (two_number a b)))) refl
  where
    go : (t : Bool) → and (is_digit a) (and (is_digit b) (within lo hi (two_number a b))) ≡ t → None ≡ pick t (Some (two_number a b)) None
    go true e = let x = all_three (is_digit a) (is_digit b) (within lo hi (two_number a b)) e in absurd (h (record { first = x.0; second = x.1.0; inside = x.1.1 }))
    go false e = refl

-- what is known of a number that was read
pub record TwoRead (a b lo hi v : ℕ) : Type 0 where
  pub is : TwoIs a b lo hi
  pub value : v ≡ two_number a b

pub two_is : (a b lo hi v : ℕ) → two_digits a b lo hi ≡ Some v → TwoRead a b lo hi v
unfolding two_digits
two_is a b lo hi v h = go (and (is_digit a) (and (is_digit b) (within lo hi (two_number a b)))) refl h
  where
    go : (t : Bool) → and (is_digit a) (and (is_digit b) (within lo hi (two_number a b))) ≡ t → pick t (Some (two_number a b)) None ≡ Some v → TwoRead a b lo hi v
    go true e k = let x = all_three (is_digit a) (is_digit b) (within lo hi (two_number a b)) e in record { is = record { first = x.0; second = x.1.0; inside = x.1.1 }; value = cc }
    go false e k = absurd (none-some v k)

-- it is at most 99
pub two_most : (a b lo hi v : ℕ) → Some v ≡ two_digits a b lo hi → v ≤ 99
two_most a b lo hi v h =
    let t = two_is a b lo hi v (sym h) in
    let x = two_ends t.is in
    omega (arith, x.first.greatest, x.second.greatest, t.value)

-- ---- fields

-- where two bytes stand in an input
abbrev pub two_at : List ℕ → ℕ → ℕ → ℕ → Option ℕ
two_at s at lo hi = two_digits (get_or s at 0) (get_or s (at + 1) 0) lo hi

module _ (s : List ℕ) (at : ℕ) where
  digit_here : (a : ℕ) → a < length s → is_digit (get_or s a 0) ≡ true → DigitAt s a
  digit_here a l e = record { inside = lt-ltb a (length s) l; is = e }

  -- a field of two
  pub two_field : (lo hi v : ℕ) → at + 1 < length s → two_at s at lo hi ≡ Some v → Says (field 2 lo hi) s at (got v (at + 2)) false
  unfolding field digits_from digits_more
  two_field lo hi v l e =
      let x = two_is (get_or s at 0) (get_or s (at + 1) 0) lo hi v e in
      let t = x.is in
      let d = digit_here at (omega (arith, l)) t.first in
      let f = digit_here (at + 1) l t.second in
      let n : (0 * 10 + (get_or s at 0 - 48)) * 10 + (get_or s (at + 1) 0 - 48) ≡ two_number (get_or s at 0) (get_or s (at + 1) 0) = omega arith in
      let p : at + 1 + 1 ≡ at + 2 = omega arith in
      record { found = simp (x.value, d.inside, d.is, f.inside, f.is, n, p, t.inside); more = simp (d.inside, d.is, f.inside, f.is) }

  -- a field of four, from 100 on
  pub four_field : (v w : ℕ) → at + 3 < length s → two_at s at 1 99 ≡ Some v → two_at s (at + 2) 0 99 ≡ Some w → Says (field 4 100 9999) s at (got (v * 100 + w) (at + 4)) false
  unfolding field digits_from digits_more
  four_field v w l e k =
      let a = get_or s at 0 in
      let b = get_or s (at + 1) 0 in
      let c = get_or s (at + 2) 0 in
      let g = get_or s (at + 2 + 1) 0 in
      let tv = two_is a b 1 99 v e in
      let uw = two_is c g 0 99 w k in
      let t = tv.is in
      let u = uw.is in
      let x = two_ends t in
      let y = two_ends u in
      let d0 = digit_here at (omega (arith, l)) t.first in
      let d1 = digit_here (at + 1) (omega (arith, l)) t.second in
      let d2 = digit_here (at + 2) (omega (arith, l)) u.first in
      let d3 = digit_here (at + 2 + 1) (omega (arith, l)) u.second in
      let p1 : at + 1 + 1 ≡ at + 2 = omega arith in
      let p2 : at + 2 + 1 + 1 ≡ at + 4 = omega arith in
      let n : (((0 * 10 + (a - 48)) * 10 + (b - 48)) * 10 + (c - 48)) * 10 + (g - 48) ≡ two_number a b * 100 + two_number c g = omega arith in
      let r = within_is 100 9999 (two_number a b * 100 + two_number c g) (omega (arith, x.least)) (omega (arith, x.greatest, y.greatest)) in
      record { found = simp (tv.value, uw.value, d0.inside, d0.is, p1, d1.inside, d1.is, d2.inside, d2.is, d3.inside, d3.is, p2, n, r); more = simp (d0.inside, d0.is, p1, d1.inside, d1.is, d2.inside, d2.is, d3.inside, d3.is) }

  -- no field of three where the third byte is no digit
  pub three_cut : (lo hi lo' hi' v : ℕ) → at + 1 < length s → two_at s at lo' hi' ≡ Some v → OtherAt s (at + 2) → Says (field 3 lo hi) s at no false
  unfolding field digits_from digits_more
  three_cut lo hi lo' hi' v l e o =
      let t = (two_is (get_or s at 0) (get_or s (at + 1) 0) lo' hi' v e).is in
      let d = digit_here at (omega (arith, l)) t.first in
      let f = digit_here (at + 1) l t.second in
      let p : at + 1 + 1 ≡ at + 2 = omega arith in
      record { found = simp (d.inside, d.is, f.inside, f.is, p, o.inside, o.is); more = simp (d.inside, d.is, f.inside, f.is, p, o.inside, o.is) }

-- ---- single bytes

pub digit_no : (s : List ℕ) (at c : ℕ) → at < length s → is_digit (get_or s at 0) ≡ true → is_digit c ≡ false → Says (lit c) s at no false
unfolding lit
digit_no s at c l d k =
    let other = digit_is_not c k (get_or s at 0) d in
    record { found = simp (lt-ltb at (length s) l, other); more = simp (lt-ltb at (length s) l) }

-- a byte that stands there
module _ (s : List ℕ) (at c : ℕ) (l : at < length s) (e : eqb (get_or s at 0) c ≡ true) where
  pub byte_says : Says (lit c) s at (got tt (at + 1)) false
  unfolding lit
  byte_says = record { found = simp (lt-ltb at (length s) l, e); more = simp (lt-ltb at (length s) l) }

  pub past_byte : at + 1 ≡ place_after at ((lit c).reads s at)
  unfolding lit
  past_byte = simp (lt-ltb at (length s) l, e)

-- such a byte in front of two digits
pub preceded_two : (s : List ℕ) (at c lo hi v : ℕ) → at + 3 ≤ length s → eqb (get_or s at 0) c ≡ true → reach lo hi 2 0 ≡ true → two_digits (get_or s (at + 1) 0) (get_or s (at + 2) 0) lo hi ≡ Some v → Says (preceded_by c (field 2 lo hi)) s at (got v (at + 3)) false
preceded_two s at c lo hi v l e r t =
    let p : at + 1 + 1 ≡ at + 2 = omega arith in
    let q : at + 1 + 2 ≡ at + 3 = omega arith in
    says_past c (field 2 lo hi) (field_eager 2 lo hi (omega arith) r) s at (at + 1) _ false (past_byte s at c (omega (arith, l)) e)
    (rw q at (two_field s (at + 1) lo hi v (omega (arith, l)) (rw p t)))
