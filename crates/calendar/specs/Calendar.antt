-- The calendar, by counting: Gregorian throughout, with a year 0 between -1 and 1. What has to be believed of it stands on this page.
use Rattle.std.specs.Prelude.{ℕ, zero, suc, ◌+◌, ◌*◌, ◌-◌, ◌%◌, Bool, not, List, [], ◌∷◌, eqb, ℤ, pos, negsuc, nat_abs, neg_ℤ, ◌+ℤ◌, ◌-ℤ◌, get_or, take}
use Rattle.std.proofs.Math.Option.{Option, some, none}
use Rattle.types.specs.declared.Date.{Date}
use Rattle.types.specs.declared.Date.TheVariants.{YMD, Week, Ordinal}
use Rattle.parser.specs.Reading.{and, or, pick, within}

-- ---- years: "leap years by the same rule on either side of it"

abbrev pub divides : ℕ → ℤ → Bool
divides n y = eqb (nat_abs y % n) 0

unfoldable pub leap : ℤ → Bool
leap y = and (divides 4 y) (or (not (divides 100 y)) (divides 400 y))

-- ---- the days of a year, from its months; month 1 is January, and month 0, like every one above 12, has no day

abbrev pub months : Bool → List ℕ
months isLeap = 0 ∷ 31 ∷ pick isLeap 29 28 ∷ 31 ∷ 30 ∷ 31 ∷ 30 ∷ 31 ∷ 31 ∷ 30 ∷ 31 ∷ 30 ∷ 31 ∷ []

unfoldable pub sum : List ℕ → ℕ
sum [] = 0
sum (n ∷ l) = n + sum l

abbrev pub month_days : ℤ → ℕ → ℕ
month_days y m = get_or (months (leap y)) m 0

-- those of the months before it
abbrev pub days_before : ℤ → ℕ → ℕ
days_before y m = sum (take m (months (leap y)))

abbrev pub year_days : ℤ → ℕ
year_days y = sum (months (leap y))

-- ---- the days from 1 January of year 0 to 1 January of a year: those of each year between, added going forwards, taken away going back

unfoldable pub new_year : ℤ → ℤ
new_year (pos zero) = pos 0
new_year (pos (suc n)) = new_year (pos n) +ℤ pos (year_days (pos n))
new_year (negsuc zero) = neg_ℤ (pos (year_days (negsuc zero)))
new_year (negsuc (suc n)) = new_year (negsuc n) -ℤ pos (year_days (negsuc (suc n)))

-- ---- the day of the week, Monday 0 to Sunday 6: the day after a Sunday is a Monday. 1 January of year 0 is a Saturday, which makes 1 January
-- 1970 a Thursday (proofs/Known)

unfoldable pub weekday : ℤ → ℕ
weekday (pos zero) = 5
weekday (pos (suc n)) = (weekday (pos n) + 1) % 7
weekday (negsuc zero) = 4
weekday (negsuc (suc n)) = (weekday (negsuc n) + 6) % 7

-- "weeks begin on Monday, week 1 holds 4 January": the Monday of week 1 is 4 January, or the last one before it
abbrev pub fourth : ℤ → ℤ
fourth y = new_year y +ℤ pos 3

abbrev pub week_one : ℤ → ℤ
week_one y = fourth y -ℤ pos (weekday (fourth y))

-- ---- the day of a date, counted from 1 January of year 0; none, "a day that its month or year lacks". Months, weeks and their days are counted
-- from 1. Weeks go on for as long as they are counted, so that a week date always has a day.

abbrev pub day_of : Date → Option ℤ
day_of (YMD y m d) = pick (within 1 (month_days y m) d) (some (new_year y +ℤ pos (days_before y m + (d - 1)))) none
day_of (Week y w d) = some (week_one y +ℤ pos (w * 7 + d) -ℤ pos 8)
day_of (Ordinal y d) = pick (within 1 (year_days y) d) (some (new_year y +ℤ pos (d - 1))) none
