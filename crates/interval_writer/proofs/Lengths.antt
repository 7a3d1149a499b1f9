-- How long the parts of an interval's spelling are, and how long each can be.
use Prim.Native.Nat.{ℕ, ◌+◌, ◌≤◌}
use mathlib.Core.List.{[], ◌∷◌}
use mathlib.Core.Bool.{true}
use mathlib.Core.Path.{◌≡◌, ◌∙◌}
use native.Mathlib.Omega.{arith}
use borrow.Author.Tests.{leb-true}
use lib.ListN.{length, length-append}
use Rattle.std.specs.Prelude.{Some}
use Rattle.types.specs.declared.Choices.{Choices}
use Rattle.types.specs.declared.Interval.{Interval}
use Rattle.types.specs.declared.IntervalRange.{IntervalRange}
use Rattle.types.specs.declared.IntervalRange.TheVariants as range
use Rattle.types.specs.declared.Repetitions.{Repetitions}
use Rattle.types.specs.declared.Repetitions.TheVariants.{Once, Unlimited, Times}
use Rattle.text.specs.Text.{decimal}
use Rattle.writing.specs.Spelling.{repetitions_spelling, range_spelling, interval_spelling}
use Rattle.writing.specs.Writing.{measure}
use Rattle.writing.proofs.Digits.{digits_few}
use Rattle.writing.proofs.Laws.{measure_long}
use Rattle.datetime_writer.proofs.Longest.{longest_stamp}
use Rattle.duration_writer.proofs.Longest.{longest_duration}
use Rattle.interval.specs.Rules.{repeat_limit}
use Rattle.interval_writer.specs.declared.Side.{Side}
use Rattle.interval_writer.specs.declared.Side.TheVariants.{Stamp, Span}
use Rattle.interval_writer.specs.Ranges.{repetitions_given, range_given}
use Rattle.interval_writer.specs.Sides.{side_given, side_spelling, sides_spelling}

-- `R`, the digits, `/`
pub times_size : (n : ℕ) → length (repetitions_spelling (Times n)) ≡ length (decimal n) + 2
unfolding repetitions_spelling
times_size n = omega (arith, length-append (decimal n) (47 ∷ []))

-- a number of 32 bits has at most ten digits
pub repetitions_most : (r : Repetitions) → repetitions_given r ≡ true → length (repetitions_spelling r) ≤ 12
unfolding repetitions_spelling repetitions_given
repetitions_most Once e = omega arith
repetitions_most Unlimited e = omega arith
repetitions_most (Times n) e = omega (arith, times_size n, digits_few 9 20 n (omega (arith, leb-true n repeat_limit e)))

-- a side, and one that was measured
side_most : (a : Side) → length (side_spelling a) ≤ 149
side_most (Stamp x) = omega (arith, longest_stamp x)
side_most (Span d) = longest_duration d

pub side_measured : (c : Choices) (a : Side) {n : ℕ} → measure (side_given c a) (length (side_spelling a)) ≡ Some n → n ≤ 149
side_measured c a e = omega (arith, side_most a, (measure_long (side_given c a) e).1)

-- two with `/` between them
pub both_size : (a b : Side) → length (sides_spelling a (Some b)) ≡ length (side_spelling a) + 1 + length (side_spelling b)
both_size a b = length-append (side_spelling a) (47 ∷ side_spelling b) ∙ omega arith

-- two date-times are shorter than a date-time and a duration
pub range_most : (x : IntervalRange) → length (range_spelling x) ≤ 186
unfolding range_spelling
range_most (range.Closed a b) = omega (arith, both_size (Stamp a) (Stamp b), longest_stamp a, longest_stamp b)
range_most (range.ClosedEnd d b) = omega (arith, both_size (Span d) (Stamp b), longest_duration d, longest_stamp b)
range_most (range.ClosedStart a d) = omega (arith, both_size (Stamp a) (Span d), longest_stamp a, longest_duration d)
range_most (range.Open d) = omega (arith, longest_duration d)

pub range_measured : (c : Choices) (x : IntervalRange) {n : ℕ} → measure (range_given c x) (length (range_spelling x)) ≡ Some n → n ≤ 186
range_measured c x e = omega (arith, range_most x, (measure_long (range_given c x) e).1)

pub interval_size : (x : Interval) → length (interval_spelling x) ≡ length (repetitions_spelling x.repetitions) + length (range_spelling x.range)
unfolding interval_spelling
interval_size x = length-append (repetitions_spelling x.repetitions) (range_spelling x.range)
