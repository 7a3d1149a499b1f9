-- Where a byte more could matter to W12's rule: a date-time that stands first in two alternatives is read once, and so is a duration. What is
-- read is W12's rule; `proofs/Alternatives.antt` shows that this reads the same.
use Rattle.std.proofs.Math.Option.{Option, some, none}
use Rattle.types.specs.declared.Choices.{Choices}
use Rattle.types.specs.declared.DateTime.{DateTime}
use Rattle.types.specs.declared.Duration.{Duration}
use Rattle.types.specs.declared.Interval.{Interval}
use Rattle.types.specs.declared.IntervalRange.{IntervalRange}
use Rattle.types.specs.declared.IntervalRange.TheVariants as range
use Rattle.parser.specs.Reading.{Reader, lit, seq, opt, alt, map}
use Rattle.duration.specs.Rules.{duration}
use Rattle.interval.specs.Rules.{repetitions, tried, stamp, interval_of, interval_rule}
use Rattle.interval.specs.Followed.{followed}

-- behind a date-time and its `/`
unfoldable pub after_start : Choices → DateTime → Reader IntervalRange
after_start c a = alt (map (range.Closed a) (stamp c)) (map (range.ClosedStart a) duration)

unfoldable pub stamp_first : Choices → Reader IntervalRange
stamp_first c = seq (tried (followed c)) (λ a. seq (lit 47) (λ _. after_start c a))

-- behind a duration
abbrev pub or_open : Duration → Option DateTime → IntervalRange
or_open d none = range.Open d
or_open d (some e) = range.ClosedEnd d e

unfoldable pub after_duration : Choices → Duration → Reader IntervalRange
after_duration c d = map (or_open d) (opt (seq (lit 47) (λ _. stamp c)))

unfoldable pub duration_first : Choices → Reader IntervalRange
duration_first c = seq duration (after_duration c)

unfoldable pub range_once : Choices → Reader IntervalRange
range_once c = alt (stamp_first c) (duration_first c)

unfoldable pub interval_once : Choices → Reader Interval
interval_once c = seq repetitions (λ r. map (interval_of r) (range_once c))

-- intervals: W12's rule, and where a byte more could matter
unfoldable pub interval : Choices → Reader Interval
interval c = record { reads = (interval_rule c).reads; more = (interval_once c).more }
