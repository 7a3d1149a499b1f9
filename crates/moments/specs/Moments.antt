-- The moment of a date-time, and how far two are apart. The days are those of calendar's specs/Calendar.
use Rattle.std.specs.Prelude.{ℕ, ◌+◌, ◌*◌, ◌<◌, ◌≡◌, ℤ, pos, ◌+ℤ◌, ◌-ℤ◌, ◌*ℤ◌, Result, IsOkAnd}
use Rattle.std.proofs.Math.Option.{Option, some, none}
use Rattle.types.specs.Numbers.{number_of}
use Rattle.types.specs.Sums.{minutes_in_all}
use Rattle.types.specs.declared.DateTime.{DateTime}
use Rattle.types.specs.declared.Offset.{Offset}
use Rattle.types.specs.declared.Time.{Time}
use Rattle.std.specs.declared.option.Option as std_option
use Rattle.std.specs.declared.option.Option.TheVariants.{None, Some}
use Rattle.std.specs.declared.result.Result.TheVariants.{Ok, Err}
use Rattle.calendar.specs.Calendar.{day_of}
use Rattle.moments.specs.declared.Fault.{Fault}
use Rattle.moments.specs.declared.Fault.TheVariants.{Text, NoDay, NoOffset}
use Rattle.moments.specs.declared.Apart.{Apart}
use Rattle.moments.specs.declared.Faulty.{Faulty}
use Rattle.moments.specs.declared.Faulty.TheVariants.{First, Second}

-- ---- the moment of a date-time

-- "Second 60 is the next minute's second 0; hour 24 is the next day": so it is where seconds are counted
abbrev pub seconds_in : Time → ℕ
seconds_in t = t.hour * 3600 + t.minute * 60 + t.second

-- the seconds from 1 January of year 0, 00:00 at the zero offset: a clock that is ahead by an offset shows a moment that is earlier by it
abbrev pub seconds_of : ℤ → Time → Offset → ℤ
seconds_of day t o = day *ℤ pos 86400 +ℤ pos (seconds_in t) -ℤ minutes_in_all o *ℤ pos 60

-- "8, a day that its month or year lacks, then 9, no offset"; else these seconds, and the nanoseconds
pub data Moment : Type 0 where
  no_day : Moment
  no_offset : Moment
  at : ℤ → ℕ → Moment

abbrev pub placed : Option ℤ → std_option.Option Offset → Time → Moment
placed none o t = no_day
placed (some day) None t = no_offset
placed (some day) (Some o) t = at (seconds_of day t o) t.nanosecond

abbrev pub moment_of : DateTime → Moment
moment_of x = placed (day_of x.date) x.time.offset x.time

-- ---- how far two are apart

abbrev pub in_nanoseconds : ℤ → ℕ → ℤ
in_nanoseconds s n = s *ℤ pos 1000000000 +ℤ pos n

-- "second minus first exactly, as signed seconds and nanoseconds 0 to 999,999,999"
pub record Exactly (a : ℤ) (m : ℕ) (b : ℤ) (n : ℕ) (d : Apart) : Type 0 where
  pub exact : in_nanoseconds d.seconds d.nanoseconds ≡ in_nanoseconds b n -ℤ in_nanoseconds a m
  pub below : d.nanoseconds < 1000000000

-- "for the first stamp before the second"
abbrev pub Between : Moment → Moment → Result Apart Faulty → Type 0
Between no_day b r = r ≡ Err (First NoDay)
Between no_offset b r = r ≡ Err (First NoOffset)
Between (at s m) no_day r = r ≡ Err (Second NoDay)
Between (at s m) no_offset r = r ≡ Err (Second NoOffset)
Between (at s m) (at t n) r = IsOkAnd r (Exactly s m t n)

-- ---- the paper's numbers: 0, or the refusal's

abbrev pub fault_number : Fault → ℕ
fault_number (Text why) = number_of why
fault_number NoDay = 8
fault_number NoOffset = 9

abbrev pub apart_number : Result Apart Faulty → ℕ
apart_number (Ok d) = 0
apart_number (Err (First f)) = fault_number f
apart_number (Err (Second f)) = fault_number f
