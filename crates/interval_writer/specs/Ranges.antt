-- The intervals that the code writes, by the edition. `proofs/Laws.antt` shows that they are those that some reader of that edition gives, no
-- more and no fewer.
use Rattle.std.specs.Prelude.{Bool, true, leb}
use Rattle.types.specs.declared.Choices.{Choices}
use Rattle.types.specs.declared.Interval.{Interval}
use Rattle.types.specs.declared.IntervalRange.{IntervalRange}
use Rattle.types.specs.declared.IntervalRange.TheVariants as range
use Rattle.types.specs.declared.Repetitions.{Repetitions}
use Rattle.types.specs.declared.Repetitions.TheVariants.{Once, Unlimited, Times}
use Rattle.parser.specs.Reading.{and}
use Rattle.datetime_writer.specs.Ranges.{date_time_given}
use Rattle.duration_writer.specs.Ranges.{duration_given}
use Rattle.interval.specs.Rules.{repeat_limit}

-- a number of 32 bits is never above it
unfoldable pub repetitions_given : Repetitions → Bool
repetitions_given Once = true
repetitions_given Unlimited = true
repetitions_given (Times n) = leb n repeat_limit

unfoldable pub range_given : Choices → IntervalRange → Bool
range_given c (range.Closed a b) = and (date_time_given c a) (date_time_given c b)
range_given c (range.ClosedEnd d b) = and (duration_given d) (date_time_given c b)
range_given c (range.ClosedStart a d) = and (date_time_given c a) (duration_given d)
range_given c (range.Open d) = duration_given d

unfoldable pub interval_given : Choices → Interval → Bool
interval_given c x = and (repetitions_given x.repetitions) (range_given c x.range)
