-- The three forms of a date: every day has one ordinal date and one calendar date, so the day of a week date has both.
use Prim.Native.Nat.{ℕ, suc, ◌+◌, ◌*◌, ◌-◌, ◌%◌, ◌≤◌, ◌<◌}
use mathlib.Core.Bool.{Bool, true, false}
use mathlib.Core.Option.{Option, some, none}
use mathlib.Core.Path.{◌≡◌, refl, sym, ap, ◌∙◌}
use native.Mathlib.Omega.{arith}
use lib.IntN.{ℤ, pos, ◌+ℤ◌, ◌-ℤ◌, -ℤ-+ℤ_cancel}
use lib.Signed.{mag}
use Rattle.types.specs.declared.Date.TheVariants.{YMD, Week, Ordinal}
use Rattle.parser.specs.Reading.{pick, within}
use Rattle.calendar.specs.Calendar.{leap, months, sum, month_days, days_before, year_days, new_year, weekday, fourth, week_one, day_of}
use Rattle.calendar.specs.Far.{leap_from, before}
use Rattle.calendar.proofs.Dates.{inside, within_ends}
use Rattle.calendar.proofs.Integers.{◌⊖◌, same_up}
use Rattle.calendar.proofs.Lifted.{lifted, let_down}
use Rattle.calendar.proofs.Months.{one_on, sum_below}
use Rattle.calendar.proofs.Shifted.{days_shifted, day_shifted}
use Rattle.calendar.proofs.Spans.{Place, place, one_place}
use Rattle.calendar.proofs.Weeks.{weekday_below, weekday_later}
use Rattle.calendar.proofs.Years.{by_quotients}

-- what has a day passed the test, and the day is what was counted
pub chosen : (t : Bool) (x : ℤ) {z : ℤ} → pick t (some x) none ≡ some z → (t ≡ true) × (x ≡ z)
chosen true x e = (refl, cc)
chosen false x e = (cc, cc)

-- ---- a calendar date that exists is the ordinal date that counts the days before its month too

month_next : (y : ℤ) (m : ℕ) → days_before y (suc m) ≡ days_before y m + month_days y m
month_next y m = sym (one_on (months (leap y)) m)

pub ordinal_exists : (y : ℤ) (m d : ℕ) → within 1 (month_days y m) d ≡ true → within 1 (year_days y) (days_before y m + d) ≡ true
ordinal_exists y m d e =
    let ends = within_ends 1 (month_days y m) d e in
    inside 1 (year_days y) (days_before y m + d) (omega arith) (omega (arith, month_next y m, sum_below (months (leap y)) (suc m)))

pub ordinal_of_calendar : (y : ℤ) (m d : ℕ) → within 1 (month_days y m) d ≡ true → day_of (Ordinal y (days_before y m + d)) ≡ day_of (YMD y m d)
ordinal_of_calendar y m d e =
    let ends = within_ends 1 (month_days y m) d e in
    let back : days_before y m + d - 1 ≡ days_before y m + (d - 1) = omega arith in
    rw (e, ordinal_exists y m d e) (ap (λ (n : ℕ). some (new_year y +ℤ pos n)) back)

-- ---- an ordinal date that exists is a calendar date

pub record Calendar (y : ℤ) (n : ℕ) : Type 0 where
  pub month : ℕ
  pub day : ℕ
  pub exists : within 1 (month_days y month) day ≡ true
  pub same : day_of (YMD y month day) ≡ day_of (Ordinal y n)

pub calendar_of_ordinal : (y : ℤ) (n : ℕ) → within 1 (year_days y) n ≡ true → Calendar y n
unfolding sum
calendar_of_ordinal y n e =
    let ends = within_ends 1 (year_days y) n e in
    let at = place (λ m. days_before y m) (λ m. month_days y m) (month_next y) (n - 1) 13 refl (omega arith) in
    let there = inside 1 (month_days y at.span) (at.rest + 1) (omega arith) (omega (arith, at.inside)) in
    let counts : days_before y at.span + (at.rest + 1) ≡ n = omega (arith, at.is) in
    record {
      month = at.span;
      day = at.rest + 1;
      exists = there;
      same = sym (ordinal_of_calendar y at.span (at.rest + 1) there) ∙ ap (λ (k : ℕ). day_of (Ordinal y k)) counts;
    }

-- ---- every day has an ordinal date, found among the years from one far enough back

year_next : (k : ℕ) → before (suc k) ≡ before k + sum (months (leap_from k))
unfolding before
year_next k = refl

day_in_year : (c k r : ℕ) → r < sum (months (leap_from k)) → day_of (Ordinal (k ⊖ (400 * c)) (r + 1)) ≡ some ((before k + r) ⊖ (146097 * c))
day_in_year c k r h =
    let back : r + 1 - 1 ≡ r = omega arith in
    let there = inside 1 (year_days (k ⊖ (400 * c))) (r + 1) (omega arith) (omega (arith, days_shifted c k)) in
    rw (there, back) (ap some (day_shifted c k r))

pub record OrdinalOf (z : ℤ) : Type 0 where
  pub year : ℤ
  pub number : ℕ
  pub is : day_of (Ordinal year number) ≡ some z

ordinal_at : (c : ℕ) {n : ℕ} → Place before (λ k. sum (months (leap_from k))) n → OrdinalOf (n ⊖ (146097 * c))
ordinal_at c at = record { year = at.span ⊖ (400 * c); number = at.rest + 1; is = day_in_year c at.span at.rest at.inside ∙ ap (λ (k : ℕ). some (k ⊖ (146097 * c))) at.is }

pub every_day : (z : ℤ) → OrdinalOf z
unfolding before
every_day z =
    let c = suc (mag z) in
    let up = lifted z (146097 * c) (omega arith) in
    let n = up.number in
    rw (let_down z (146097 * c) n up.is) (ordinal_at c (place before (λ k. sum (months (leap_from k))) year_next n (suc n) refl (omega (arith, by_quotients (suc n)))))

-- so it has a calendar date, and every week date has both
pub record Forms (day : Option ℤ) : Type 0 where
  pub year : ℤ
  pub number : ℕ
  pub month : ℕ
  pub date : ℕ
  pub ordinal : day_of (Ordinal year number) ≡ day
  pub calendar : day_of (YMD year month date) ≡ day

pub day_has_both : (z : ℤ) → Forms (some z)
day_has_both z =
    let o = every_day z in
    let exists = (chosen (within 1 (year_days o.year) o.number) (new_year o.year +ℤ pos (o.number - 1)) o.is).0 in
    let c = calendar_of_ordinal o.year o.number exists in
    record { year = o.year; number = o.number; month = c.month; date = c.day; ordinal = o.is; calendar = c.same ∙ o.is }

pub week_has_both : (y : ℤ) (w d : ℕ) → Forms (day_of (Week y w d))
week_has_both y w d = day_has_both (week_one y +ℤ pos (w * 7 + d) -ℤ pos 8)

-- ---- and no day has two of a form

one_shifted : (c k k' n n' : ℕ) {z : ℤ} → day_of (Ordinal (k ⊖ (400 * c)) n) ≡ some z → day_of (Ordinal (k' ⊖ (400 * c)) n') ≡ some z → (k ≡ k') × (n ≡ n')
one_shifted c k k' n n' e e' =
    let y = k ⊖ (400 * c) in
    let y' = k' ⊖ (400 * c) in
    let a = chosen (within 1 (year_days y) n) (new_year y +ℤ pos (n - 1)) e in
    let a' = chosen (within 1 (year_days y') n') (new_year y' +ℤ pos (n' - 1)) e' in
    let ends = within_ends 1 (year_days y) n a.0 in
    let ends' = within_ends 1 (year_days y') n' a'.0 in
    let across : before k + (n - 1) ≡ before k' + (n' - 1) = same_up _ _ (146097 * c) (sym (day_shifted c k (n - 1)) ∙ a.1 ∙ sym a'.1 ∙ day_shifted c k' (n' - 1)) in
    let one = one_place before (λ i. sum (months (leap_from i))) year_next k k' (n - 1) (n' - 1) (omega (arith, days_shifted c k)) (omega (arith, days_shifted c k')) across in
    (one.0, omega (arith, one.1))

pub one_ordinal : (y y' : ℤ) (n n' : ℕ) {z : ℤ} → day_of (Ordinal y n) ≡ some z → day_of (Ordinal y' n') ≡ some z → (y ≡ y') × (n ≡ n')
one_ordinal y y' n n' e e' =
    let s = 400 * suc (mag y + mag y') in
    let up = lifted y s (omega arith) in
    let up' = lifted y' s (omega arith) in
    let down = let_down y s up.number up.is in
    let down' = let_down y' s up'.number up'.is in
    let one = one_shifted (suc (mag y + mag y')) up.number up'.number n n' (ap (λ (x : ℤ). day_of (Ordinal x n)) (sym down) ∙ e) (ap (λ (x : ℤ). day_of (Ordinal x n')) (sym down') ∙ e') in
    (down ∙ ap (λ (k : ℕ). k ⊖ s) one.0 ∙ sym down', one.1)

pub one_calendar : (y y' : ℤ) (m m' d d' : ℕ) {z : ℤ} → day_of (YMD y m d) ≡ some z → day_of (YMD y' m' d') ≡ some z → (y ≡ y') × (m ≡ m') × (d ≡ d')
one_calendar y y' m m' d d' e e' =
    let h = (chosen (within 1 (month_days y m) d) (new_year y +ℤ pos (days_before y m + (d - 1))) e).0 in
    let h' = (chosen (within 1 (month_days y' m') d') (new_year y' +ℤ pos (days_before y' m' + (d' - 1))) e').0 in
    let ends = within_ends 1 (month_days y m) d h in
    let ends' = within_ends 1 (month_days y' m') d' h' in
    let year = one_ordinal y y' (days_before y m + d) (days_before y' m' + d') (ordinal_of_calendar y m d h ∙ e) (ordinal_of_calendar y' m' d' h' ∙ e') in
    let days : month_days y m' ≡ month_days y' m' = ap (λ (x : ℤ). month_days x m') year.0 in
    let starts : days_before y m' ≡ days_before y' m' = ap (λ (x : ℤ). days_before x m') year.0 in
    let one = one_place (λ i. days_before y i) (λ i. month_days y i) (month_next y) m m' (d - 1) (d' - 1) (omega arith) (omega arith) (omega (arith, year.1)) in
    (year.0, one.0, omega (arith, one.1))

-- ---- weeks: the first begins on a Monday and holds 4 January, and a date's day of the week is the one that it tells

pub record WeekOne (y : ℤ) : Type 0 where
  pub monday : weekday (week_one y) ≡ 0
  pub back : ℕ
  pub near : back ≤ 6
  pub holds : week_one y +ℤ pos back ≡ fourth y

pub week_one_lem : (y : ℤ) → WeekOne y
week_one_lem y =
    let back = weekday (fourth y) in
    let holds : week_one y +ℤ pos back ≡ fourth y = -ℤ-+ℤ_cancel (fourth y) (pos back) in
    let turns : (weekday (week_one y) + back) % 7 ≡ back = sym (weekday_later (week_one y) back) ∙ ap weekday holds in
    record {
      monday = omega (arith, turns, weekday_below (week_one y), weekday_below (fourth y));
      back = back;
      near = omega (arith, weekday_below (fourth y));
      holds = holds;
    }

pub weekday_of_week : (y : ℤ) (w d : ℕ) {z : ℤ} → 1 ≤ d → d ≤ 7 → day_of (Week y w d) ≡ some z → weekday z ≡ d - 1
weekday_of_week y w d {z} h k e =
    let day = week_one y +ℤ pos (w * 7 + d) in
    let z-is : day -ℤ pos 8 ≡ z = cc in
    let turns : (weekday z + 8) % 7 ≡ (weekday (week_one y) + (w * 7 + d)) % 7 = sym (weekday_later z 8) ∙ ap (λ (x : ℤ). weekday (x +ℤ pos 8)) (sym z-is) ∙ ap weekday (-ℤ-+ℤ_cancel day (pos 8)) ∙ weekday_later (week_one y) (w * 7 + d) in
    omega (arith, turns, weekday_below z, (week_one_lem y).monday)
