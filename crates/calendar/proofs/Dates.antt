-- The day of each form of date, from what is told of its year.
use Prim.Native.Nat.{ℕ, ◌+◌, ◌*◌, ◌-◌, ◌%◌, ◌≤◌, ◌<◌}
use mathlib.Core.Bool.{Bool, true, false}
use mathlib.Core.Option.{some, none}
use Rattle.std.specs.declared.option.Option.{Option}
use Rattle.std.specs.declared.option.Option.TheVariants.{None, Some}
use mathlib.Core.Path.{◌≡◌, refl, sym, ap, ap₂, ◌∙◌}
use native.Mathlib.Omega.{arith}
use lib.Dec.{leb}
use lib.IntN.{ℤ, pos, ◌+ℤ◌, ◌-ℤ◌}
use lib.ListN.{get_or, take}
use borrow.Author.Tests.{leb-true, le-leb, lt-leb}
use Rattle.types.specs.declared.Date.{Date}
use Rattle.types.specs.declared.Date.TheVariants.{YMD, Week}
use Rattle.parser.specs.Reading.{and, pick, within}
use Rattle.parser.proofs.Fields.{and_first, and_second}
use Rattle.calendar.specs.declared.Year.{Year}
use Rattle.calendar.specs.Calendar.{months, month_days, days_before, sum, new_year, weekday}
use Rattle.calendar.specs.Far.{far_day, Begins, day_told, DayOf}
use Rattle.calendar.proofs.Integers.{◌⊖◌, same, same_up, add_pos, less_pos}
use Rattle.calendar.proofs.Months.{one_more, sum_below}
use Rattle.calendar.proofs.Years.{year_days_lem}
use Rattle.calendar.proofs.Weeks.{weekday_shifted}

-- a day behind one that is told
pub later : {z : ℤ} (n m : ℕ) → z ≡ n ⊖ far_day → z +ℤ pos m ≡ (n + m) ⊖ far_day
later n m e = ap (λ (z : ℤ). z +ℤ pos m) e ∙ add_pos n far_day m

pub inside : (lo hi v : ℕ) → lo ≤ v → v ≤ hi → within lo hi v ≡ true
inside lo hi v a b = rw (le-leb lo v a, le-leb v hi b)

pub within_ends : (lo hi v : ℕ) → within lo hi v ≡ true → (lo ≤ v) × (v ≤ hi)
within_ends lo hi v e = (leb-true lo v (and_first (leb lo v) (leb v hi) e), leb-true v hi (and_second (leb lo v) e))

pub above : (lo hi v : ℕ) → hi < v → within lo hi v ≡ false
above lo hi v h = rw (lt-leb v hi h) (go (leb lo v))
  where
    go : (t : Bool) → and t false ≡ false
    go true = refl
    go false = refl

day_or_none : (l : Bool) → pick {A = ℕ} l 1 0 ≤ 1
day_or_none true = omega arith
day_or_none false = omega arith

-- ---- calendar dates

pub no_day_lem : (y : ℤ) (m d : ℕ) → within 1 (month_days y m) d ≡ false → DayOf (YMD y m d) None
no_day_lem y m d e = record { is = rw e; near = tt }

module _ {y : ℤ} {r : Year} (b : Begins y r) where
  -- from the days before the month and those before the next one
  module _ (m d from to : ℕ) (first : from ≡ sum (take m (months r.leap))) (last : to ≡ sum (take (m + 1) (months r.leap))) where
    length_of : month_days y m ≡ to - from
    length_of = ap (λ (l : Bool). get_or (months l) m 0) b.leaps ∙ omega (arith, one_more (months r.leap) m)

    pub late : to - from < d → DayOf (YMD y m d) None
    late h = no_day_lem y m d (rw length_of (above 1 (to - from) d h))

    pub calendar : 1 ≤ d → d ≤ to - from → DayOf (YMD y m d) (Some (r.first + (from + (d - 1))))
    calendar h k = record {
      is = sym (ap (λ (n : ℕ). pick (within 1 n d) (some (new_year y +ℤ pos (days_before y m + (d - 1)))) none) length_of
          ∙ ap (λ (t : Bool). pick t (some (new_year y +ℤ pos (days_before y m + (d - 1)))) none) (inside 1 (to - from) d h k)
          ∙ ap (λ (n : ℕ). some (new_year y +ℤ pos (n + (d - 1)))) (ap (λ (l : Bool). sum (take m (months l))) b.leaps ∙ sym first)
          ∙ ap some (later r.first (from + (d - 1)) b.first));
      near = omega (arith, b.below, sum_below (months r.leap) (m + 1), year_days_lem r.leap, day_or_none r.leap);
    }

  -- ---- week dates

  module _ (w d : ℕ) (hw : w < 4294967296) (hd : d < 4294967296) where
    saturdays : weekday (new_year y +ℤ pos 3) ≡ (r.first + 3 + 5) % 7
    saturdays = ap weekday (later r.first 3 b.first) ∙ weekday_shifted 112050346410 (r.first + 3)

    counted : (n back : ℕ) → 15 ≤ n → back < 7 → (n ⊖ far_day) -ℤ pos back +ℤ pos (w * 7 + d) -ℤ pos 8 ≡ (n - back + w * 7 + d - 8) ⊖ far_day
    counted n back h k =
        ap (λ (z : ℤ). z +ℤ pos (w * 7 + d) -ℤ pos 8) (less_pos n far_day back) ∙ ap (λ (z : ℤ). z -ℤ pos 8) (add_pos n (far_day + back) (w * 7 + d))
        ∙ less_pos (n + (w * 7 + d)) (far_day + back) 8 ∙ same (n + (w * 7 + d)) (far_day + back + 8) (n - back + w * 7 + d - 8) far_day (omega arith)

    pub week : DayOf (Week y w d) (Some (r.first + 3 - (r.first + 3 + 5) % 7 + w * 7 + d - 8))
    week =
        let n = r.first + 3 in
        let back = (n + 5) % 7 in
        record {
          is = ap some (sym (ap₂ (λ (f : ℤ) (s : ℕ). f -ℤ pos s +ℤ pos (w * 7 + d) -ℤ pos 8) (later r.first 3 b.first) saturdays ∙ counted n back (omega (arith, b.above)) (omega arith)));
          near = omega (arith, b.below);
        }

-- ---- no two days are told of one date

pub day_once : (d : Date) (q r : Option ℕ) → DayOf d q → DayOf d r → q ≡ r
day_once d q r h k = go q r (h.is ∙ sym k.is)
  where
    go : (q r : Option ℕ) → day_told q ≡ day_told r → q ≡ r
    go (Some m) (Some n) e = let same-day : m ⊖ far_day ≡ n ⊖ far_day = cc in ap Some (same_up m n far_day same-day)
    go (Some m) None e = let z : ◌≡◌ {A = ℕ} 0 1 = cc in absurd (omega arith)
    go None (Some n) e = let z : ◌≡◌ {A = ℕ} 0 1 = cc in absurd (omega arith)
    go None None e = refl
