-- The parts together, by what stands at the places where they are tried.
use Rattle.std.specs.Prelude.{ℕ, Bool, false, nat_lt}
use Rattle.std.proofs.Math.Option.{none}
use Rattle.types.specs.declared.Duration.{Duration}
use Rattle.parser.specs.Reading.{Found, no, got, stop, Reader, verify, map, pick}
use Rattle.parts.specs.declared.Item.{Item}
use Rattle.std.specs.declared.result.Result.{Result}
use Rattle.std.specs.declared.result.Result.TheVariants.{Ok, Err}
use Rattle.types.specs.Numbers.{number_of}
use Rattle.parser.specs.declared.Miss.{Miss}
use Rattle.parser.specs.declared.Miss.TheVariants as miss
use Rattle.parser.specs.Read.{cut}
use Rattle.duration.specs.Rules.{parts_rule, some_part, time_or_zero, duration_of}
use Rattle.duration.specs.declared.DurationTimeParts.{DurationTimeParts}
use Rattle.duration.specs.declared.DateParts.{DateParts}
use Rattle.duration.specs.declared.ClockParts.{ClockParts}

abbrev pub is_cut : Result Item Miss → Bool
is_cut (Ok i) = false
is_cut (Err m) = cut m

abbrev pub unless_too_big : {A : Type 0} → Result Item Miss → Found A → Found A
unless_too_big (Ok i) f = f
unless_too_big (Err (miss.Stopped why)) f = stop (number_of why)
unless_too_big (Err miss.Wrong) f = f
unless_too_big (Err miss.Cut) f = f

abbrev pub time_of : ClockParts → DurationTimeParts
time_of c = record { hours = c.hours.value; minutes = c.minutes.value; seconds = c.seconds.value }

-- H, M and S from a place on: one is there, so that they end further on
abbrev pub time_parts : ℕ → ClockParts → Found DurationTimeParts
time_parts at c = pick (nat_lt at c.seconds.next) (got (time_of c) c.seconds.next) no

abbrev pub record_of : DateParts → DurationTimeParts → Duration
record_of d t = record { years = d.years.value; months = d.months.value; weeks = d.weeks.value; days = d.days.value; hours = t.hours; minutes = t.minutes; seconds = t.seconds }

-- what is read behind the `P`
abbrev pub behind_p : Reader Duration
behind_p = map duration_of (verify some_part parts_rule)

-- Y, M, W and D from a place on, and the time that was read behind them: without it, one of them is there
abbrev pub all_parts : ℕ → DateParts → Found DurationTimeParts → Found Duration
all_parts at d (got t n) = got (record_of d t) n
all_parts at d (stop r) = stop r
all_parts at d no = pick (nat_lt at d.days.next) (got (record_of d (time_or_zero none)) d.days.next) no
