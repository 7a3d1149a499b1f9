-- How the code counts, in natural numbers alone: from 1 January of a year far back, further than 32 bits reach, and a whole number of 400 years
-- before year 0. Nothing here has to be believed: what is promised is that it is the calendar.
use Rattle.std.specs.Prelude.{ℕ, zero, suc, ◌+◌, ◌%◌, ◌<◌, ◌≤◌, Bool, not, ◌≡◌, eqb, ℤ, pos, ◌-ℤ◌}
use Rattle.std.proofs.Math.Option.{Option, some, none}
use Rattle.std.specs.declared.option.Option as std
use Rattle.std.specs.declared.option.Option.TheVariants.{None, Some}
use Rattle.types.specs.declared.Date.{Date}
use Rattle.parser.specs.Reading.{and, or}
use Rattle.calendar.specs.declared.Year.{Year}
use Rattle.calendar.specs.Calendar.{leap, months, sum, new_year, day_of}

-- 1 January of the year -2,147,484,000, which is 5,368,710 times 400 years, each time 146,097 days, before that of year 0
abbrev pub far_day : ℕ
far_day = 784352424870

abbrev pub leap_from : ℕ → Bool
leap_from k = and (eqb (k % 4) 0) (or (not (eqb (k % 100) 0)) (eqb (k % 400) 0))

-- the days of the first k years
unfoldable pub before : ℕ → ℕ
before zero = 0
before (suc k) = before k + sum (months (leap_from k))

-- what is told of a year: its first day and whether it is a leap year
pub record Begins (y : ℤ) (r : Year) : Type 0 where
  pub first : new_year y ≡ pos r.first -ℤ pos far_day
  pub leaps : leap y ≡ r.leap
  pub above : 366 ≤ r.first
  pub below : r.first < 1600000000000

-- the day that is told, counted from 1 January of year 0
abbrev pub day_told : std.Option ℕ → Option ℤ
day_told (Some n) = some (pos n -ℤ pos far_day)
day_told None = none

abbrev pub Near : std.Option ℕ → Type 0
Near (Some n) = n < 1700000000000
Near None = Unit

-- all that is promised of the day of a date: it is the calendar's, and no number is too large to count seconds in
pub record DayOf (d : Date) (r : std.Option ℕ) : Type 0 where
  pub is : day_told r ≡ day_of d
  pub near : Near r
