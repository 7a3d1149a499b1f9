-- Moments that are one: on one day, of one clock under two offsets, and at the end of a minute and of a day.
use Prim.Native.Nat.{ℕ, ◌+◌, ◌*◌}
use mathlib.Core.Option.{some}
use mathlib.Core.Path.{◌≡◌, refl, sym, ap, ap₂, subst₂, ◌∙◌}
use native.Mathlib.Omega.{arith}
use lib.IntN.{ℤ, pos, ◌+ℤ◌, ◌-ℤ◌, ◌*ℤ◌}
use Rattle.types.specs.Sums.{minutes_in_all}
use Rattle.types.specs.declared.Date.{Date}
use Rattle.types.specs.declared.Date.TheVariants.{YMD, Week, Ordinal}
use Rattle.types.specs.declared.Offset.{Offset}
use Rattle.types.specs.declared.Time.{Time}
use Rattle.std.specs.declared.option.Option.{Option}
use Rattle.std.specs.declared.option.Option.TheVariants.{None, Some}
use Rattle.std.specs.declared.result.Result.{Result}
use Rattle.std.specs.declared.result.Result.TheVariants.{Ok, Err}
use Rattle.calendar.specs.Calendar.{week_one, day_of}
use Rattle.calendar.proofs.Integers.{◌⊖◌, minus, same, times, add_pos, parted}
use Rattle.calendar.proofs.Forms.{Forms, week_has_both}
use Rattle.moments.specs.declared.Apart.{Apart}
use Rattle.moments.specs.declared.Faulty.{Faulty}
use Rattle.moments.specs.declared.Faulty.TheVariants.{First, Second}
use Rattle.moments.specs.declared.Fault.TheVariants.{NoDay}
use Rattle.moments.specs.Moments.{Moment, no_day, no_offset, at, seconds_in, seconds_of, placed, moment_of, Between}
use Rattle.moments.proofs.Laws.{seconds_parted}
use Rattle.moments.proofs.Differences.{no_time, zero_apart}

-- ---- of one day: a week date, its ordinal and its calendar date

moment_on : (d : Date) (day : ℤ) (t : Time) (o : Offset) → day_of d ≡ some day → t.offset ≡ Some o → moment_of (record { date = d; time = t }) ≡ at (seconds_of day t o) t.nanosecond
moment_on d day t o hd ho = ap₂ (λ z w. placed z w t) hd ho

-- two dates of one day at one time are 0 apart
pub one_day : (d e : Date) (day : ℤ) (t : Time) (o : Offset) (r : Result Apart Faulty) → day_of d ≡ some day → day_of e ≡ some day → t.offset ≡ Some o → Between (moment_of (record { date = d; time = t })) (moment_of (record { date = e; time = t })) r → r ≡ Ok no_time
one_day d e day t o r hd he ho h = zero_apart (seconds_of day t o) t.nanosecond r (subst₂ (λ x y. Between x y r) (moment_on d day t o hd ho) (moment_on e day t o he ho) h)

-- every week date has an ordinal and a calendar date of its day (calendar's proofs/Forms), and both are 0 from it
pub record ZeroApart (y : ℤ) (w d : ℕ) (t : Time) : Type 0 where
  pub forms : Forms (day_of (Week y w d))
  pub ordinal : (r : Result Apart Faulty) → Between (moment_of (record { date = Week y w d; time = t })) (moment_of (record { date = Ordinal forms.year forms.number; time = t })) r → r ≡ Ok no_time
  pub calendar : (r : Result Apart Faulty) → Between (moment_of (record { date = Week y w d; time = t })) (moment_of (record { date = YMD forms.year forms.month forms.date; time = t })) r → r ≡ Ok no_time

pub week_forms : (y : ℤ) (w d : ℕ) (t : Time) (o : Offset) → t.offset ≡ Some o → ZeroApart y w d t
week_forms y w d t o ho =
    let f = week_has_both y w d in
    record {
      forms = f;
      ordinal = λ r. one_day (Week y w d) (Ordinal f.year f.number) _ t o r refl f.ordinal ho;
      calendar = λ r. one_day (Week y w d) (YMD f.year f.month f.date) _ t o r refl f.calendar ho;
    }

-- "Week dates never give 8": what has a day has a moment, or no offset, and no answer blames it for a day that it lacks
has_a_day : (day : ℤ) (o : Option Offset) (t : Time) (y : Moment) → (Between (placed (some day) o t) y (Err (First NoDay)) → ⊥) × (Between y (placed (some day) o t) (Err (Second NoDay)) → ⊥)
has_a_day day None t no_day = (λ e. cc, λ e. cc)
has_a_day day None t no_offset = (λ e. cc, λ e. cc)
has_a_day day None t (at s n) = (λ e. cc, λ e. cc)
has_a_day day (Some o) t no_day = (λ e. cc, λ e. cc)
has_a_day day (Some o) t no_offset = (λ e. cc, λ e. cc)
has_a_day day (Some o) t (at s n) = (λ e. e, λ e. e)

pub week_never_8 : (y : ℤ) (w d : ℕ) (t : Time) (m : Moment) → (Between (moment_of (record { date = Week y w d; time = t })) m (Err (First NoDay)) → ⊥) × (Between m (moment_of (record { date = Week y w d; time = t })) (Err (Second NoDay)) → ⊥)
week_never_8 y w d t m = has_a_day (week_one y +ℤ pos (w * 7 + d) -ℤ pos 8) t.offset t m

-- ---- the same instant under two offsets

-- the minutes that a clock has counted on a day
abbrev pub clock : ℤ → Time → ℤ
clock day t = day *ℤ pos 1440 +ℤ pos (t.hour * 60 + t.minute)

by_clock : (day : ℤ) (t : Time) (o : Offset) → seconds_of day t o ≡ (clock day t -ℤ minutes_in_all o) *ℤ pos 60 +ℤ pos t.second
by_clock day t o =
    let p = parted day in
    let q = parted (minutes_in_all o) in
    let a = p.up in
    let b = p.down in
    let c = q.up in
    let d = q.down in
    let m = t.hour * 60 + t.minute in
    ap (λ (z : ℤ). seconds_of z t o) p.is ∙ seconds_parted a b c d t o q.is
    ∙ same (a * 86400 + seconds_in t + d * 60) (b * 86400 + c * 60) ((a * 1440 + m + d) * 60 + t.second) ((b * 1440 + c) * 60) (omega arith)
    ∙ sym (ap₂ (λ (x y : ℤ). (x *ℤ pos 1440 +ℤ pos m -ℤ y) *ℤ pos 60 +ℤ pos t.second) p.is q.is
    ∙ ap (λ (x : ℤ). (x -ℤ (c ⊖ d)) *ℤ pos 60 +ℤ pos t.second) (ap (λ (x : ℤ). x +ℤ pos m) (times a b 1440) ∙ add_pos (a * 1440) (b * 1440) m)
    ∙ ap (λ (x : ℤ). x *ℤ pos 60 +ℤ pos t.second) (minus (a * 1440 + m) (b * 1440) c d)
    ∙ ap (λ (x : ℤ). x +ℤ pos t.second) (times (a * 1440 + m + d) (b * 1440 + c) 60)
    ∙ add_pos ((a * 1440 + m + d) * 60) ((b * 1440 + c) * 60) t.second)

pub one_instant : (d e : ℤ) (t u : Time) (o p : Offset) → clock d t -ℤ minutes_in_all o ≡ clock e u -ℤ minutes_in_all p → t.second ≡ u.second → t.nanosecond ≡ u.nanosecond → placed (some d) (Some o) t ≡ placed (some e) (Some p) u
one_instant d e t u o p h hs hn = ap₂ at (by_clock d t o ∙ ap₂ (λ (x : ℤ) (s : ℕ). x *ℤ pos 60 +ℤ pos s) h hs ∙ sym (by_clock e u p)) hn

-- so they are 0 apart
pub instants_apart : (d e : Date) (day next : ℤ) (t u : Time) (o p : Offset) (r : Result Apart Faulty) → day_of d ≡ some day → day_of e ≡ some next → t.offset ≡ Some o → u.offset ≡ Some p → clock day t -ℤ minutes_in_all o ≡ clock next u -ℤ minutes_in_all p → t.second ≡ u.second → t.nanosecond ≡ u.nanosecond → Between (moment_of (record { date = d; time = t })) (moment_of (record { date = e; time = u })) r → r ≡ Ok no_time
instants_apart d e day next t u o p r hd he ho hp h hs hn b =
    let to = moment_on e next u p he hp ∙ sym (one_instant day next t u o p h hs hn) in
    zero_apart (seconds_of day t o) t.nanosecond r (subst₂ (λ x y. Between x y r) (moment_on d day t o hd ho) to b)

-- ---- "Second 60 is the next minute's second 0; hour 24 is the next day."

abbrev pub time_at : ℕ → ℕ → ℕ → ℕ → ℕ → Option Offset → Time
time_at h m s n k z = record { hour = h; minute = m; second = s; nanosecond = n; digits = k; offset = z }

pub second_60 : (day : ℤ) (h m n k : ℕ) (z : Option Offset) → placed (some day) z (time_at h m 60 n k z) ≡ placed (some day) z (time_at h (m + 1) 0 n k z)
second_60 day h m n k None = refl
second_60 day h m n k (Some o) =
    let e : h * 3600 + m * 60 + 60 ≡ h * 3600 + (m + 1) * 60 + 0 = omega arith in
    ap (λ (s : ℕ). at (day *ℤ pos 86400 +ℤ pos s -ℤ minutes_in_all o *ℤ pos 60) n) e

-- behind minute 59 that is the next hour's first second, and behind 23:59 the next day's
pub minute_59 : (day : ℤ) (h n k : ℕ) (z : Option Offset) → placed (some day) z (time_at h 59 60 n k z) ≡ placed (some day) z (time_at (h + 1) 0 0 n k z)
minute_59 day h n k None = refl
minute_59 day h n k (Some o) =
    let e : h * 3600 + 59 * 60 + 60 ≡ (h + 1) * 3600 + 0 * 60 + 0 = omega arith in
    ap (λ (s : ℕ). at (day *ℤ pos 86400 +ℤ pos s -ℤ minutes_in_all o *ℤ pos 60) n) e

next_day : (day : ℤ) → day *ℤ pos 86400 +ℤ pos 86400 ≡ (day +ℤ pos 1) *ℤ pos 86400 +ℤ pos 0
next_day day =
    let p = parted day in
    let a = p.up in
    let b = p.down in
    ap (λ (z : ℤ). z *ℤ pos 86400 +ℤ pos 86400) p.is ∙ ap (λ (z : ℤ). z +ℤ pos 86400) (times a b 86400) ∙ add_pos (a * 86400) (b * 86400) 86400
    ∙ same (a * 86400 + 86400) (b * 86400) ((a + 1) * 86400 + 0) (b * 86400) (omega arith)
    ∙ sym (ap (λ (z : ℤ). (z +ℤ pos 1) *ℤ pos 86400 +ℤ pos 0) p.is ∙ ap (λ (z : ℤ). z *ℤ pos 86400 +ℤ pos 0) (add_pos a b 1)
    ∙ ap (λ (z : ℤ). z +ℤ pos 0) (times (a + 1) b 86400) ∙ add_pos ((a + 1) * 86400) (b * 86400) 0)

pub hour_24 : (day : ℤ) (n k : ℕ) (z : Option Offset) → placed (some day) z (time_at 24 0 0 n k z) ≡ placed (some (day +ℤ pos 1)) z (time_at 0 0 0 n k z)
hour_24 day n k None = refl
hour_24 day n k (Some o) = ap (λ (s : ℤ). at (s -ℤ minutes_in_all o *ℤ pos 60) n) (next_day day)

pub last_second : (day : ℤ) (n k : ℕ) (z : Option Offset) → placed (some day) z (time_at 23 59 60 n k z) ≡ placed (some (day +ℤ pos 1)) z (time_at 0 0 0 n k z)
last_second day n k z = minute_59 day 23 n k z ∙ hour_24 day n k z
