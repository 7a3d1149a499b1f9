-- The loop goes along the first nine digits and adds each by its place; where there are fewer, nothing is missing, and digits past the
-- ninth change no number.
use Rattle.std.proofs.Common.{◌≡◌, ℕ, suc, ◌+◌, ◌-◌, ◌*◌, ◌^◌, ◌<◌, ◌≤◌, Bool, true, false, not, ltb, leb, List, [], length, get_or, drop, sym, refl, ap, ◌∙◌, zero-add, add-zero, arith, ltb-false, ltb-true, le-leb}
use borrow.Author.Tests.{lt-leb}
use Rattle.types.specs.declared.Fraction.{Fraction}
use Rattle.parser.specs.Reading.{Says}
use Rattle.parser.specs.Digits.{run_as, fraction_of, fraction, run_at, nanoseconds, at_the_end, up_to_nine}
use Rattle.parser.specs.Read.{got_found, got_more}
use Rattle.parser.proofs.Fields.{DigitAt}
use Rattle.parser.proofs.Runs.{run_step, run_other, run_end, end_is, end_is_not, any_open}
use Rattle.parser.specs.Read.{further}
use Rattle.runs.proofs.Along.{further_says, fraction_is, digit_byte, other_byte}
use Rattle.runs.proofs.Nanoseconds.{nanoseconds_small}
use Rattle.runs.proofs.Factors.{by_places, no_digit, nanoseconds_by_places}
use Rattle.runs.proofs.fraction_nanosecond.Invariants.{Nine}
use Rattle.runs.proofs.fraction_nanosecond.Goals as goal

nine_start : (s : List ℕ) (at : ℕ) → Nine s at 0 0
nine_start s at =
    let here = add-zero at in
    record { inside = λ h. absurd (omega arith); ends = rw here; number = rw here (zero-add _ ∙ nanoseconds_by_places (run_at s at)) }

leb_not_ltb : (a b : ℕ) → leb a b ≡ not (ltb b a)
leb_not_ltb a b = go (ltb b a) refl
  where
    go : (t : Bool) → ltb b a ≡ t → leb a b ≡ not t
    go true e = lt-leb a b (ltb-true b a e)
    go false e = le-leb a b (ltb-false b a e)

module _ (s : List ℕ) (at value place : ℕ) (g : Nine s at value place) where
  nine_step : (f : ℕ) → f ≡ 10 ^ (8 - place) → place < 9 → at + place < length s → DigitAt s (at + place) → Nine s at (value + (get_or s (at + place) 0 - 48) * f) (place + 1)
  unfolding by_places
  nine_step f ef h i d =
      let e = run_step s (at + place) d in
      let k : 9 - place ≡ suc (8 - place) = omega arith in
      let l : 9 - (place + 1) ≡ 8 - place = omega arith in
      let then : at + (place + 1) ≡ at + place + 1 = omega arith in
      let n : value + ((get_or s (at + place) 0 - 48) * f + by_places (9 - (place + 1)) (run_at s (at + place + 1))) ≡ nanoseconds (run_at s at) = rw (ef, l) (rw (k, e) at g.number) in
      record { inside = λ _. omega arith; ends = rw then (omega (arith, g.ends, ap length e)); number = rw then (omega (arith, n)) }

  -- what has been read never passes the whole
  nine_small : value < 1000000000
  nine_small = omega (arith, g.number, nanoseconds_small (drop at s))

  at_its_end : run_at s (at + place) ≡ [] → at + place ≡ at + length (run_at s at)
  at_its_end e = omega (arith, g.ends, ap length e)

  ended : (f : Fraction) (more : Bool) → f.nanosecond ≡ value → f.digits ≡ up_to_nine place → run_at s (at + place) ≡ [] → at_the_end s at ≡ more → Says fraction s at (got_found (further (ltb at (at + place)) more f (at + place))) (got_more (further (ltb at (at + place)) more f (at + place)))
  unfolding run_as
  ended f more en ed e em =
      let n : value + by_places (9 - place) [] ≡ nanoseconds (run_at s at) = rw e at g.number in
      let whole : f.nanosecond ≡ nanoseconds (run_at s at) = omega (arith, n, no_digit (9 - place)) in
      let size : place ≡ length (run_at s at) = omega (arith, at_its_end e) in
      further_says fraction s at (run_at s at) f (at + place) more (rw (fraction_is (run_at s at) f whole (ed ∙ ap up_to_nine size))) (any_open fraction_of 1 s at ∙ em) (at_its_end e)

  -- all nine digits are there, and the rest of the run is dropped
  nine_all : (f : Fraction) (end : ℕ) → place ≡ 9 → end ≡ at + 9 + length (run_at s (at + 9)) → f.nanosecond ≡ value → f.digits ≡ up_to_nine (end - at) → Says fraction s at (got_found (further (ltb at end) (leb (length s) end) f end)) (got_more (further (ltb at end) (leb (length s) end) f end))
  unfolding run_as by_places
  nine_all f end e ee en ed =
      let n : value + by_places (9 - 9) (run_at s (at + 9)) ≡ nanoseconds (run_at s at) = rw e at g.number in
      let whole : f.nanosecond ≡ nanoseconds (run_at s at) = omega (arith, n) in
      let ends : at + 9 + length (run_at s (at + 9)) ≡ at + length (run_at s at) = rw e at g.ends in
      let here : end ≡ at + length (run_at s at) = ee ∙ ends in
      let size : end - at ≡ length (run_at s at) = omega arith in
      further_says fraction s at (run_at s at) f end (leb (length s) end) (rw (fraction_is (run_at s at) f whole (ed ∙ ap up_to_nine size))) (any_open fraction_of 1 s at ∙ rw (← here) (sym (leb_not_ltb (length s) end))) here

pub loop-place-init : goal.loop-place-init
loop-place-init c = nine_start _ _

pub returns-in_default : goal.returns-in_default
returns-in_default c =
    let s = c.args.s.now in
    let at = c.args.at in
    let l = c.loop-place in
    let out : length s ≤ at + l.place = c.in_default.ensures.lookup.3 in
    let e = run_end s (at + l.place) out in
    rw c.further.ensures.is (ended s at l.nanosecond l.place l.invariant c.fraction_of.result true c.fraction_of.ensures.nanosecond c.fraction_of.ensures.digits e (end_is s at (at + l.place) (at_its_end s at l.nanosecond l.place l.invariant e) out))

pub returns-then-not-is_ascii_digit : goal.returns-then-not-is_ascii_digit
returns-then-not-is_ascii_digit c =
    let s = c.args.s.now in
    let at = c.args.at in
    let l = c.loop-place in
    let f = c.fraction_of-then-not-is_ascii_digit in
    let byte = c.in-Some.ensures.lookup.3 in
    let e = run_other s (at + l.place) (other_byte s (at + l.place) _ byte.0 (byte.1 0) c.if-not-is_ascii_digit.ensures.cases) in
    rw c.further-then-not-is_ascii_digit.ensures.is (ended s at l.nanosecond l.place l.invariant f.result false f.ensures.nanosecond f.ensures.digits e (end_is_not s at (at + l.place) (at_its_end s at l.nanosecond l.place l.invariant e) byte.0))

pub loop-place-preserved : goal.loop-place-preserved
loop-place-preserved c =
    let s = c.args.s.now in
    let at = c.args.at in
    let l = c.loop-place in
    let byte = c.in-Some.ensures.lookup.3 in
    let digit = digit_byte s (at + l.place) _ byte.0 (byte.1 0) c.if-not-is_ascii_digit.ensures.cases in
    rw (c.from.ensures, byte.1 0) (nine_step s at l.nanosecond l.place l.invariant c.factor.result c.factor.ensures (omega arith) byte.0 digit)

pub overflow_mul-nanosecond : goal.overflow_mul-nanosecond
overflow_mul-nanosecond c = omega (arith, nine_small _ _ _ _ (loop-place-preserved c))

pub overflow_add-nanosecond : goal.overflow_add-nanosecond
overflow_add-nanosecond c = omega (arith, nine_small _ _ _ _ (loop-place-preserved c))

pub returns : goal.returns
returns c =
    let l = c.loop-place in
    let f = c.fraction_of-2 in
    rw c.further-2.ensures.is (nine_all c.args.s.now c.args.at l.nanosecond l.place l.invariant f.result c.digits_end-end.result (omega arith) c.digits_end-end.ensures f.ensures.nanosecond f.ensures.digits)
