-- How a loop goes along a run, and what it tells at the run's end.
use Rattle.std.proofs.Common.{◌≡◌, ℕ, ◌+◌, ◌-◌, ◌*◌, ◌<◌, ◌≤◌, ◌⊎◌, inl, inr, Bool, true, false, ltb, leb, List, [], ◌∷◌, length, get_or, sym, refl, ap, ◌∙◌, arith, le-ltb, lt-ltb, le-leb}
use borrow.Author.Tests.{lt-leb}
use Rattle.types.specs.declared.Fraction.{Fraction}
use Rattle.parser.specs.Reading.{Reader, Says, no, got, stop, pick}
use Rattle.parser.specs.Digits.{number_from, number, run_at, of_run, at_the_end, at_most, run_as, nanoseconds, up_to_nine, fraction_of}
use Rattle.parser.specs.Read.{got_found, got_more}
use Rattle.parser.proofs.Fields.{DigitAt, OtherAt, digit_at, below_digits, above_digits, and_right, and_true}
use Rattle.parser.proofs.Runs.{run_step, number_grows}
use Rattle.parser.specs.Read.{further}

-- a run's number and end, as a loop that has come to `next` with the number `value` has them still before it
pub record Along (s : List ℕ) (at value next : ℕ) : Type 0 where
  pub ahead : at ≤ next
  pub ends : next + length (run_at s next) ≡ at + length (run_at s at)
  pub number : number_from value (run_at s next) ≡ number_from 0 (run_at s at)

pub along_start : (s : List ℕ) (at : ℕ) → Along s at 0 at
along_start s at = record { ahead = omega arith; ends = refl; number = refl }

pub along_step : (s : List ℕ) (at value next : ℕ) → Along s at value next → DigitAt s next → Along s at (value * 10 + (get_or s next 0 - 48)) (next + 1)
unfolding number_from
along_step s at value next g d =
    let e = run_step s next d in
    record {
      ahead = omega (arith, g.ahead);
      ends = omega (arith, g.ends, ap length e);
      number = sym (rw e) ∙ g.number;
    }

-- ... and at its end they are all read
pub along_number : (s : List ℕ) (at value next : ℕ) → Along s at value next → run_at s next ≡ [] → number (run_at s at) ≡ value
unfolding number_from
along_number s at value next g e = sym g.number ∙ rw e

pub along_end : (s : List ℕ) (at value next : ℕ) → Along s at value next → run_at s next ≡ [] → next ≡ at + length (run_at s at)
along_end s at value next g e = omega (arith, g.ends, ap length e)

-- what stands at a place, by the byte that was read there
pub digit_byte : (s : List ℕ) (at b : ℕ) → at < length s → b ≡ get_or s at 0 → (48 ≤ b) × (b ≤ 57) → DigitAt s at
digit_byte s at b h e d = digit_at s at h (omega arith) (omega arith)

pub other_byte : (s : List ℕ) (at b : ℕ) → at < length s → b ≡ get_or s at 0 → (b < 48) ⊎ (57 < b) → OtherAt s at
other_byte s at b h e (inl a) = below_digits s at h (omega arith)
other_byte s at b h e (inr a) = above_digits s at h (omega arith)

-- what `further` tells is what a reader finds that reads a run d, to its last digit, as v
pub further_says : {A : Type 0} (r : Reader A) (s : List ℕ) (at : ℕ) (d : List ℕ) (v : A) (next : ℕ) (more : Bool) → r.reads s at ≡ of_run d no (got v (at + length d)) → r.more s at ≡ more → next ≡ at + length d → Says r s at (got_found (further (ltb at next) more v next)) (got_more (further (ltb at next) more v next))
further_says r s at [] v next true er em en = let o = le-ltb at next (omega arith) in record { found = rw o (sym er); more = rw o (sym em) }
further_says r s at [] v next false er em en = let o = le-ltb at next (omega arith) in record { found = rw o (sym er); more = rw o (sym em) }
further_says r s at (b ∷ d) v next more er em en = let o = lt-ltb at next (omega arith) in record { found = rw o (ap (got v) en ∙ sym er); more = rw o (sym em) }

-- a fraction is its nanoseconds and how many digits are stored
pub fraction_is : (d : List ℕ) (f : Fraction) → f.nanosecond ≡ nanoseconds d → f.digits ≡ up_to_nine (length d) → fraction_of d ≡ f
fraction_is d f en ed = rw (← en, ← ed)

-- ---- a run with a greatest number that it may have

module _ {A : Type 0} (read : List ℕ → A) (most q : ℕ) (s : List ℕ) (at value next : ℕ) (g : Along s at value next) where
  -- it has ended at `next`, and its number is not past that
  pub ended : (v : A) (more : Bool) → value ≤ most → run_at s next ≡ [] → at_the_end s at ≡ more → read (run_at s at) ≡ v → Says (run_as read (at_most most) q) s at (got_found (further (ltb at next) more v next)) (got_more (further (ltb at next) more v next))
  unfolding run_as
  ended v more small e em is =
      let fits : leb (number (run_at s at)) most ≡ true = rw (along_number s at value next g e) (le-leb value most small) in
      further_says (run_as read (at_most most) q) s at (run_at s at) v next more (rw (fits, is)) (rw (em, fits) (and_true more)) (along_end s at value next g e)

  -- its number is past that, whatever digits follow
  pub past : DigitAt s next → most < value * 10 + (get_or s next 0 - 48) → Says (run_as read (at_most most) q) s at (stop q) false
  unfolding run_as
  past d h =
      let g' = along_step s at value next g d in
      let big : leb (number (run_at s at)) most ≡ false = lt-leb (number (run_at s at)) most (omega (arith, g'.number, number_grows (run_at s (next + 1)) (value * 10 + (get_or s next 0 - 48)))) in
      record { found = some_digit (run_at s at) (omega (arith, g.ends, g.ahead, ap length (run_step s next d))) big; more = sym (and_right (at_the_end s at) big) }
    where
      some_digit : (x : List ℕ) → 0 < length x → leb (number x) most ≡ false → stop q ≡ of_run x no (pick (leb (number x) most) (got (read x) (at + length x)) (stop q))
      some_digit [] h e = absurd (omega arith)
      some_digit (b ∷ x) h e = rw e
