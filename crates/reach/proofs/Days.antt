-- The days that a text's date can have: from 1 January of -9999, a Monday, to 2 January of 10000, the Sunday of week 52 of 9999. They are counted
-- from 1 January of -10000, 25 times 400 years before year 0.
use Prim.Native.Nat.{ℕ, ◌+◌, ◌*◌, ◌-◌, ◌%◌, ◌≤◌}
use mathlib.Core.Bool.{Bool, true, false}
use mathlib.Core.Option.{some}
use mathlib.Core.Path.{◌≡◌, refl, sym, ap, ap₂, ◌∙◌}
use native.Mathlib.Omega.{arith}
use lib.Dec.{ltb}
use lib.IntN.{ℤ, pos, nat_abs, ◌+ℤ◌, ◌-ℤ◌}
use borrow.Author.Tests.{ltb-true, ltb-false}
use Rattle.types.specs.declared.Date.{Date}
use Rattle.types.specs.declared.Date.TheVariants.{YMD, Week, Ordinal}
use Rattle.parser.specs.Reading.{and, within}
use Rattle.parser.proofs.Fields.{and_first, and_second}
use Rattle.calendar.specs.Calendar.{leap, months, sum, month_days, days_before, year_days, new_year, weekday, fourth, week_one, day_of}
use Rattle.calendar.specs.Far.{before}
use Rattle.calendar.proofs.Dates.{within_ends}
use Rattle.calendar.proofs.Forms.{chosen, ordinal_of_calendar}
use Rattle.calendar.proofs.Integers.{◌⊖◌, same, add_pos, less_pos}
use Rattle.calendar.proofs.Shifted.{day_shifted}
use Rattle.calendar.proofs.Weeks.{weekday_shifted}
use Rattle.calendar.proofs.Years.{year_days_lem, by_quotients}
use Rattle.date_writer.specs.Ranges.{year_given, date_given}
use Rattle.reach.proofs.Counted.{Counted, counted}

-- the years -9999 to 9999
abbrev InYears : ℤ → Type 0
InYears y = Counted 10000 1 19999 y

in_years : (y : ℤ) → year_given y ≡ true → InYears y
in_years y e = counted 10000 9999 y (omega arith) (within_ends 100 9999 (nat_abs y) e).1

-- those 10,000 years have 25 times 146,097 days
abbrev pub start_day : ℕ
start_day = 3652425

abbrev pub InDays : ℤ → Type 0
InDays z = Counted start_day 366 7304851 z

-- ---- the first day of a year

starts_above : (k : ℕ) → 1 ≤ k → 366 ≤ before k
starts_above k h = omega (arith, by_quotients k)

starts_below : (k : ℕ) → k ≤ 19999 → before k ≤ 7304486
starts_below k h = omega (arith, by_quotients k)

-- ---- ordinal dates, and calendar dates, which are ordinal dates too

day_or_none : (l : Bool) → sum (months l) ≤ 366
day_or_none true = omega (arith, year_days_lem true)
day_or_none false = omega (arith, year_days_lem false)

ordinal : (y : ℤ) (d : ℕ) {z : ℤ} → InYears y → day_of (Ordinal y d) ≡ some z → InDays z
ordinal y d {z} c e =
    let there = chosen (within 1 (year_days y) d) (new_year y +ℤ pos (d - 1)) e in
    let ends = within_ends 1 (year_days y) d there.0 in
    let k = c.number in
    record {
      number = before k + (d - 1);
      is = sym there.1 ∙ ap (λ (x : ℤ). new_year x +ℤ pos (d - 1)) c.is ∙ day_shifted 25 k (d - 1);
      above = omega (arith, starts_above k c.above);
      below = omega (arith, starts_below k c.below, day_or_none (leap y));
    }

calendar : (y : ℤ) (m d : ℕ) {z : ℤ} → InYears y → day_of (YMD y m d) ≡ some z → InDays z
calendar y m d c e =
    let there = (chosen (within 1 (month_days y m) d) (new_year y +ℤ pos (days_before y m + (d - 1))) e).0 in
    ordinal y (days_before y m + d) c (ordinal_of_calendar y m d there ∙ e)

-- ---- week dates

-- the Monday of a year's first week is 4 January or before it
abbrev pub monday : ℕ → ℕ
monday k = before k + 3 - (before k + 8) % 7

monday_above : (k : ℕ) → 1 ≤ k → 366 ≤ monday k
monday_above k h = go (ltb 1 k) refl
  where
    go : (t : Bool) → ltb 1 k ≡ t → 366 ≤ monday k
    go true e = omega (arith, ltb-true 1 k e, by_quotients k)
    go false e = let one : k ≡ 1 = omega (arith, ltb-false 1 k e) in rw one (omega (arith, by_quotients 1))

monday_below : (k : ℕ) → k ≤ 19999 → monday k ≤ 7304488
monday_below k h = go (ltb k 19999) refl
  where
    go : (t : Bool) → ltb k 19999 ≡ t → monday k ≤ 7304488
    go true e = omega (arith, ltb-true k 19999 e, by_quotients k)
    go false e = let last : k ≡ 19999 = omega (arith, ltb-false k 19999 e) in rw last (omega (arith, by_quotients 19999))

week_one_lem : (k : ℕ) → week_one (k ⊖ 10000) ≡ (before k + 3) ⊖ (start_day + (before k + 8) % 7)
week_one_lem k =
    let n = before k + 3 in
    let eight : n + 5 ≡ before k + 8 = omega arith in
    let day = day_shifted 25 k 3 in
    let turn : weekday (fourth (k ⊖ 10000)) ≡ (before k + 8) % 7 = ap weekday day ∙ weekday_shifted 521775 n ∙ ap (λ (x : ℕ). x % 7) eight in
    ap₂ (λ (x : ℤ) (b : ℕ). x -ℤ pos b) day turn ∙ less_pos n start_day ((before k + 8) % 7)

pub week_day_lem : (k w d : ℕ) → 1 ≤ k → day_of (Week (k ⊖ 10000) w d) ≡ some ((monday k + (w * 7 + d) - 8) ⊖ start_day)
week_day_lem k w d h =
    let n = before k + 3 in
    let back = (before k + 8) % 7 in
    let low = starts_above k h in
    ap (λ (x : ℤ). some (x +ℤ pos (w * 7 + d) -ℤ pos 8)) (week_one_lem k)
    ∙ ap (λ (x : ℤ). some (x -ℤ pos 8)) (add_pos n (start_day + back) (w * 7 + d))
    ∙ ap some (less_pos (n + (w * 7 + d)) (start_day + back) 8 ∙ same (n + (w * 7 + d)) (start_day + back + 8) (monday k + (w * 7 + d) - 8) start_day (omega arith))

week : (y : ℤ) (w d : ℕ) {z : ℤ} → InYears y → 1 ≤ w → w ≤ 52 → 1 ≤ d → d ≤ 7 → day_of (Week y w d) ≡ some z → InDays z
week y w d {z} c hw kw hd kd e =
    let k = c.number in
    let day : some z ≡ some ((monday k + (w * 7 + d) - 8) ⊖ start_day) = sym e ∙ ap (λ (x : ℤ). day_of (Week x w d)) c.is ∙ week_day_lem k w d c.above in
    record {
      number = monday k + (w * 7 + d) - 8;
      is = cc;
      above = omega (arith, monday_above k c.above);
      below = omega (arith, monday_below k c.below);
    }

-- ---- of all dates that are read

pub in_days : (d : Date) {z : ℤ} → date_given d ≡ true → day_of d ≡ some z → InDays z
unfolding date_given
in_days (YMD y m d) g e = calendar y m d (in_years y (and_second (and (within 1 12 m) (within 1 31 d)) g)) e
in_days (Week y w d) g e =
    let parts = and_first (and (within 1 52 w) (within 1 7 d)) (year_given y) g in
    let weeks = within_ends 1 52 w (and_first (within 1 52 w) (within 1 7 d) parts) in
    let days = within_ends 1 7 d (and_second (within 1 52 w) parts) in
    week y w d (in_years y (and_second (and (within 1 52 w) (within 1 7 d)) g)) weeks.0 weeks.1 days.0 days.1 e
in_days (Ordinal y d) g e = ordinal y d (in_years y (and_second (within 1 366 d) g)) e
