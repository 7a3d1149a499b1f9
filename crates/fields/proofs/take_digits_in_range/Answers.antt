-- Turn by turn the loop reads as `digits_from` does; a number past the range ends it early, since no digit brings it back.
use Rattle.std.proofs.Common.{◌≡◌, ℕ, ◌+◌, ◌-◌, ◌*◌, ◌<◌, ◌≤◌, ◌⊎◌, inl, inr, Bool, true, false, List, length, get_or, sym, refl, ◌∙◌, arith, le-ltb, le-leb}
use borrow.Author.Tests.{lt-leb}
use Rattle.parser.specs.Reading.{Says, got, no}
use Rattle.parser.specs.Digits.{field, digits_from, digits_more, reach}
use Rattle.parser.specs.Read.{missed, cut}
use Rattle.parser.proofs.Fields.{DigitAt, OtherAt, digit_at, below_digits, above_digits, digits_from_step, digits_more_step, digits_from_other, digits_more_other, digits_from_end, digits_more_end, above, out_no, out_settled}
use Rattle.fields.specs.Read.{cut_field}
use Rattle.fields.proofs.take_digits_in_range.Invariants.{Going}
use Rattle.fields.proofs.take_digits_in_range.Goals as goal

cut_no : (t : Bool) → missed {A = ℕ} (cut_field t) ≡ no
cut_no true = refl
cut_no false = refl

cut_more : (t : Bool) → cut (cut_field t) ≡ t
cut_more true = refl
cut_more false = refl

other_byte : (s : List ℕ) (at b : ℕ) → at < length s → b ≡ get_or s at 0 → (b < 48) ⊎ (57 < b) → OtherAt s at
other_byte s at b h e (inl a) = below_digits s at h (omega arith)
other_byte s at b h e (inr a) = above_digits s at h (omega arith)

module _ (lo hi places : ℕ) (s : List ℕ) (at value next left : ℕ) (g : Going lo hi places s at value next left) where
  at_other : 0 < left → OtherAt s next → Says (field places lo hi) s at no false
  unfolding field
  at_other h o = record { found = sym (digits_from_other lo hi left value s next h o) ∙ g.found; more = sym (digits_more_other lo hi left value s next h o) ∙ g.more }

  at_end : 0 < left → length s ≤ next → Says (field places lo hi) s at (missed (cut_field (reach lo hi left value))) (cut (cut_field (reach lo hi left value)))
  unfolding field
  at_end h e = record { found = cut_no (reach lo hi left value) ∙ sym (digits_from_end lo hi left value s next h (le-ltb next (length s) e)) ∙ g.found; more = cut_more (reach lo hi left value) ∙ sym (digits_more_end lo hi left value s next h (le-ltb next (length s) e)) ∙ g.more }

  past : 0 < left → DigitAt s next → hi < value * 10 + (get_or s next 0 - 48) → Says (field places lo hi) s at no false
  unfolding field
  past h d a = record {
    found = sym (digits_from_step lo hi left value s next h d ∙ out_no lo hi (left - 1) (value * 10 + (get_or s next 0 - 48)) s (next + 1) (above lo hi (left - 1) (value * 10 + (get_or s next 0 - 48)) a)) ∙ g.found;
    more = sym (digits_more_step lo hi left value s next h d ∙ out_settled lo hi (left - 1) (value * 10 + (get_or s next 0 - 48)) s (next + 1) (above lo hi (left - 1) (value * 10 + (get_or s next 0 - 48)) a)) ∙ g.more;
  }

  onward : (then fewer : ℕ) → then ≡ next + 1 → fewer ≡ left - 1 → 0 < left → DigitAt s next → next < length s → value * 10 + (get_or s next 0 - 48) ≤ hi → Going lo hi places s at (value * 10 + (get_or s next 0 - 48)) then fewer
  onward then fewer et ef h d i a = rw (et, ef) (record { found = sym (digits_from_step lo hi left value s next h d) ∙ g.found; more = sym (digits_more_step lo hi left value s next h d) ∙ g.more; small = a; inside = λ _. omega arith })

  below : left ≡ 0 → value < lo → Says (field places lo hi) s at no false
  unfolding field digits_from digits_more
  below z a = record { found = sym (rw (z, lt-leb lo value a)) ∙ g.found; more = sym (rw z) ∙ g.more }

  whole : (end : ℕ) → end ≡ next → left ≡ 0 → lo ≤ value → Says (field places lo hi) s at (got value end) false
  unfolding field digits_from digits_more
  whole end e z a = rw e (record { found = sym (rw (z, le-leb lo value a, le-leb value hi g.small)) ∙ g.found; more = sym (rw z) ∙ g.more })

pub returns-in_default : goal.returns-in_default
returns-in_default c =
    let a = c.args in
    let l = c.loop-taken in
    rw c.cut_field.ensures (at_end a.lo a.hi a.places a.s.now a.at l.value (a.at + l.taken) (a.places - l.taken) l.invariant (omega arith) c.in_default.ensures.lookup.3)

pub returns-then-not-is_ascii_digit : goal.returns-then-not-is_ascii_digit
returns-then-not-is_ascii_digit c =
    let a = c.args in
    let l = c.loop-taken in
    let byte = c.in-Some.ensures.lookup.3 in
    at_other a.lo a.hi a.places a.s.now a.at l.value (a.at + l.taken) (a.places - l.taken) l.invariant (omega arith) (other_byte a.s.now (a.at + l.taken) _ byte.0 (byte.1 0) c.if-not-is_ascii_digit.ensures.cases)

pub returns-then-top-value : goal.returns-then-top-value
returns-then-top-value c =
    let a = c.args in
    let l = c.loop-taken in
    let byte = c.in-Some.ensures.lookup.3 in
    let e = byte.1 0 in
    let d = c.if-not-is_ascii_digit.ensures.cases in
    past a.lo a.hi a.places a.s.now a.at l.value (a.at + l.taken) (a.places - l.taken) l.invariant (omega arith) (digit_at a.s.now (a.at + l.taken) byte.0 (omega arith) (omega arith)) (omega arith)

pub loop-taken-preserved : goal.loop-taken-preserved
loop-taken-preserved c =
    let a = c.args in
    let l = c.loop-taken in
    let byte = c.in-Some.ensures.lookup.3 in
    let e = byte.1 0 in
    let d = c.if-not-is_ascii_digit.ensures.cases in
    rw (c.from.ensures, e) (onward a.lo a.hi a.places a.s.now a.at l.value (a.at + l.taken) (a.places - l.taken) l.invariant (a.at + (l.taken + 1)) (a.places - (l.taken + 1)) (omega arith) (omega arith) (omega arith) (digit_at a.s.now (a.at + l.taken) byte.0 (omega arith) (omega arith)) byte.0 (omega arith))

pub returns-then-value-from : goal.returns-then-value-from
returns-then-value-from c =
    let a = c.args in
    let l = c.loop-taken in
    below a.lo a.hi a.places a.s.now a.at l.value (a.at + l.taken) (a.places - l.taken) l.invariant (omega arith) (omega arith)

pub returns : goal.returns
returns c =
    let a = c.args in
    let l = c.loop-taken in
    whole a.lo a.hi a.places a.s.now a.at l.value (a.at + l.taken) (a.places - l.taken) l.invariant (a.at + a.places) (omega arith) (omega arith) (omega arith)
