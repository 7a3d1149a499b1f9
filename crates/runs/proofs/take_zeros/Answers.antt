-- The zeros leave the run's number 0. Another digit ends it, since no digit makes the number 0 again.
use Rattle.std.proofs.Common.{◌≡◌, ℕ, ◌+◌, ◌-◌, ◌≤◌, Bool, true, false, ltb, List, [], length, drop, sym, ap, ◌∙◌, arith}
use Rattle.std.specs.List.{prefix_len}
use Rattle.types.specs.declared.Fraction.{Fraction}
use Rattle.parser.specs.Reading.{Says}
use Rattle.parser.specs.Digits.{run_as, fraction_of, at_most, run_at, at_the_end, up_to_nine}
use Rattle.parser.specs.Read.{got_found, got_more}
use Rattle.parser.proofs.Runs.{run_other, run_end, end_is, end_is_not}
use Rattle.parser.specs.Read.{further}
use Rattle.runs.proofs.Along.{along_number, along_end, digit_byte, other_byte, fraction_is, ended, past}
use Rattle.runs.proofs.Factors.{nanoseconds_zero}
use Rattle.runs.proofs.Prefix.{is_zero, along_zeros, zeros_stop}
use Rattle.runs.proofs.take_zeros.Goals as goal

module _ (s : List ℕ) (at end : ℕ) (e : end ≡ at + prefix_len is_zero (drop at s)) where
  zeros_alone : (f : Fraction) (more : Bool) → f.nanosecond ≡ 0 → f.digits ≡ up_to_nine (end - at) → run_at s end ≡ [] → (end ≡ at + length (run_at s at) → at_the_end s at ≡ more) → Says (run_as fraction_of (at_most 0) 1) s at (got_found (further (ltb at end) more f end)) (got_more (further (ltb at end) more f end))
  zeros_alone f more en ed r em =
      let g = along_zeros s at end e in
      let here = along_end s at 0 end g r in
      let size : end - at ≡ length (run_at s at) = omega arith in
      ended fraction_of 0 1 s at 0 end g f more (omega arith) r (em here) (fraction_is (run_at s at) f (en ∙ sym (nanoseconds_zero (run_at s at) (along_number s at 0 end g r))) (ed ∙ ap up_to_nine size))

pub returns-in_default : goal.returns-in_default
returns-in_default c =
    let s = c.args.s.now in
    let end = c.zeros_end-end.result in
    let out : length s ≤ end = c.in_default.ensures.lookup.3 in
    rw c.further.ensures.is (zeros_alone s c.args.at end c.zeros_end-end.ensures c.fraction_of-zero.result true c.fraction_of-zero.ensures.nanosecond c.fraction_of-zero.ensures.digits (run_end s end out) (λ here. end_is s c.args.at end here out))

pub returns-then-is_ascii_digit : goal.returns-then-is_ascii_digit
returns-then-is_ascii_digit c =
    let s = c.args.s.now in
    let end = c.zeros_end-end.result in
    let byte = c.in-Some.ensures.lookup.3 in
    let digit = digit_byte s end _ byte.0 (byte.1 0) c.if-is_ascii_digit.ensures.cases in
    past fraction_of 0 1 s c.args.at 0 end (along_zeros s c.args.at end c.zeros_end-end.ensures) digit (omega (arith, zeros_stop s c.args.at end c.zeros_end-end.ensures byte.0, c.if-is_ascii_digit.ensures.cases, byte.1 0))

pub returns : goal.returns
returns c =
    let s = c.args.s.now in
    let end = c.zeros_end-end.result in
    let byte = c.in-Some.ensures.lookup.3 in
    let other = other_byte s end _ byte.0 (byte.1 0) c.if-is_ascii_digit.ensures.cases in
    rw c.further-2.ensures.is (zeros_alone s c.args.at end c.zeros_end-end.ensures c.fraction_of-zero.result false c.fraction_of-zero.ensures.nanosecond c.fraction_of-zero.ensures.digits (run_other s end other) (λ here. end_is_not s c.args.at end here byte.0))
