-- No interval that some reader gives is spelled in more than 198 bytes: `R`, ten digits and `/`, the longest duration, `/`, and the longest
-- date-time. One has them.
use Prim.Native.Nat.{◌≤◌}
use mathlib.Core.Bool.{true}
use mathlib.Core.Path.{◌≡◌, refl}
use native.Mathlib.Omega.{arith}
use lib.ListN.{length}
use Rattle.types.specs.declared.Choices.{Choices}
use Rattle.types.specs.declared.Duration.{Duration}
use Rattle.types.specs.declared.Edition.{Edition}
use Rattle.types.specs.declared.Edition.TheVariants.{E2004, E2019}
use Rattle.types.specs.declared.Interval.{Interval}
use Rattle.types.specs.declared.IntervalRange.TheVariants.{ClosedEnd}
use Rattle.types.specs.declared.Reading.{Reading}
use Rattle.types.specs.declared.Repetitions.TheVariants.{Times}
use Rattle.types.specs.Sums.{same_sign}
use Rattle.parser.specs.Digits.{limit}
use Rattle.interval.specs.Once.{interval}
use Rattle.text.specs.Text.{decimal_of}
use Rattle.writing.specs.Spelling.{repetitions_spelling, range_spelling, interval_spelling}
use Rattle.writing.specs.Writing.{Readable}
use Rattle.writing.proofs.Laws.{readable}
use Rattle.offset_writer.specs.Ranges.{offset_given}
use Rattle.date_writer.specs.Ranges.{date_given}
use Rattle.time_writer.specs.Ranges.{time_offset_given, fraction_given, clock_given, time_given}
use Rattle.datetime_writer.specs.Ranges.{date_time_given}
use Rattle.duration_writer.specs.Ranges.{duration_given}
use Rattle.datetime_writer.proofs.Longest as datetime
use Rattle.datetime_writer.proofs.Longest.{last_stamp}
use Rattle.duration_writer.proofs.Longest as duration
use Rattle.interval_writer.specs.declared.Side.TheVariants.{Stamp, Span}
use Rattle.interval_writer.specs.Ranges.{repetitions_given, range_given, interval_given}
use Rattle.interval_writer.proofs.Laws.{repetitions_given_lem, interval_spells}
use Rattle.interval_writer.proofs.Lengths.{repetitions_most, both_size, range_most, interval_size}

pub longest_interval : (c : Choices) (x : Interval) → Readable (interval c) x → length (interval_spelling x) ≤ 198
longest_interval c x r = omega (arith, interval_size x, repetitions_most x.repetitions (repetitions_given_lem c x ((interval_spells c).ranges x r)), range_most x.range)

longest : Duration
longest = record { years = limit; months = limit; weeks = limit; days = limit; hours = limit; minutes = limit; seconds = limit }

-- `R4294967295/`, every part of a duration 18446744073709551615, and `/-9999-12-31T23:59:60.123456789-23:59`
pub last_interval : Interval
last_interval = record { repetitions = Times 4294967295; range = ClosedEnd longest last_stamp }

pub longest_reached : length (interval_spelling last_interval) ≡ 198
unfolding last_interval longest repetitions_spelling range_spelling decimal_of
longest_reached = omega (arith, interval_size last_interval, both_size (Span longest) (Stamp last_stamp), duration.longest_reached, datetime.longest_reached)

-- some reader of each edition gives it, in either reading
last_within : (e : Edition) (r : Reading) → interval_given (record { edition = e; reading = r }) last_interval ≡ true
unfolding last_interval longest last_stamp interval_given repetitions_given range_given duration_given date_time_given date_given time_given clock_given fraction_given time_offset_given offset_given same_sign
last_within E2004 r = refl
last_within E2019 r = refl

pub last_given : (c : Choices) → Readable (interval c) last_interval
last_given c = readable (interval_spells c) last_interval (last_within c.edition c.reading)
