-- Days that people know, which fix where the counting begins and on which day of the week.
use Prim.Native.Nat.{ℕ, ◌+◌, ◌*◌, ◌-◌, ◌/◌, ◌%◌}
use mathlib.Core.Bool.{true}
use mathlib.Core.Option.{some}
use mathlib.Core.Path.{◌≡◌, refl, sym, ap, ◌∙◌}
use lib.IntN.{pos}
use Rattle.types.specs.declared.Date.TheVariants.{YMD}
use Rattle.parser.specs.Reading.{within}
use Rattle.calendar.specs.Calendar.{leap, sum, new_year, weekday, month_days, days_before, day_of}
use Rattle.calendar.proofs.Integers.{of_pos}
use Rattle.calendar.proofs.Shifted.{new_year_shifted}
use Rattle.calendar.proofs.Weeks.{weekday_shifted}
use Rattle.calendar.proofs.Years.{by_quotients}

-- a date from year 0 on, its day, and its day of the week, Monday 0
pub record On (y m d n w : ℕ) : Type 0 where
  pub day : day_of (YMD (pos y) m d) ≡ some (pos n)
  pub week_day_lem : weekday (pos n) ≡ w

-- both by the closed forms, so that nothing is counted one by one
first : (y : ℕ) → new_year (pos y) ≡ pos (365 * y + (y + 3) / 4 - (y + 99) / 100 + (y + 399) / 400)
first y = ap new_year (of_pos y) ∙ new_year_shifted 0 y ∙ sym (of_pos _) ∙ ap pos (by_quotients y)

on : (y m d n : ℕ) → within 1 (month_days (pos y) m) d ≡ true → 365 * y + (y + 3) / 4 - (y + 99) / 100 + (y + 399) / 400 + (days_before (pos y) m + (d - 1)) ≡ n → On y m d n ((n + 5) % 7)
on y m d n exists e = record { day = rw (exists, first y) (ap (λ (k : ℕ). some (pos k)) e); week_day_lem = ap weekday (of_pos n) ∙ weekday_shifted 0 n }

-- Thursday 1 January 1970, Saturday 1 January 2000, Friday 15 October 1582, on which the Gregorian calendar was first kept, and Thursday 29 February 2024
pub record Known : Type 0 where
  pub of_1970 : On 1970 1 1 719528 3
  pub of_2000 : On 2000 1 1 730485 5
  pub of_1582 : On 1582 10 15 578101 4
  pub of_2024 : On 2024 2 29 739310 3

pub known : Known
unfolding leap sum
known = record {
  of_1970 = on 1970 1 1 719528 refl refl;
  of_2000 = on 2000 1 1 730485 refl refl;
  of_1582 = on 1582 10 15 578101 refl refl;
  of_2024 = on 2024 2 29 739310 refl refl;
}
