-- The seconds that a text's moment can have: those of its day, up to 86,400 of its clock, and up to 1,439 minutes of its offset either way.
use Prim.Native.Nat.{ℕ, ◌+◌, ◌*◌, ◌-◌, ◌≤◌}
use mathlib.Core.Bool.{Bool, true, false}
use mathlib.Core.Option.{Option, some, none}
use mathlib.Core.Path.{◌≡◌, refl, ap, ap₂, ◌∙◌}
use native.Mathlib.Omega.{arith}
use borrow.Author.Tests.{leb-true, eqb-false}
use lib.Dec.{leb, eqb}
use lib.IntN.{ℤ, pos, nat_abs, ◌+ℤ◌, ◌*ℤ◌}
use Rattle.types.specs.Sums.{minutes_in_all}
use Rattle.types.specs.declared.Choices.{Choices}
use Rattle.types.specs.declared.DateTime.{DateTime}
use Rattle.types.specs.declared.Edition.{Edition}
use Rattle.types.specs.declared.Edition.TheVariants.{E2004, E2019}
use Rattle.types.specs.declared.Offset.{Offset}
use Rattle.types.specs.declared.Time.{Time}
use Rattle.std.specs.declared.option.Option as std_option
use Rattle.std.specs.declared.option.Option.TheVariants.{None, Some}
use Rattle.parser.proofs.Fields.{and_first, and_second}
use Rattle.calendar.specs.Calendar.{day_of}
use Rattle.calendar.proofs.Integers.{◌⊖◌, plus, same, times}
use Rattle.moments.specs.Moments.{at, seconds_in, seconds_of, placed, moment_of}
use Rattle.moments.proofs.Laws.{seconds_parted}
use Rattle.time.specs.Rules.{ends_day}
use Rattle.offset_writer.specs.Ranges.{offset_given}
use Rattle.time_writer.specs.Ranges.{time_offset_given, last_hour, up_to}
use Rattle.time_writer.proofs.Within.{time_within, within_day}
use Rattle.datetime_writer.specs.Ranges.{date_time_given}
use Rattle.datetime_writer.proofs.Laws.{date_given_lem, time_given_lem}
use Rattle.reach.proofs.Counted.{Counted, counted}
use Rattle.reach.proofs.Days.{start_day, InDays, in_days}

-- ---- the clock: 23:59:60 and 24:00:00 are its last second

clock_below : (e : Edition) (h m s : ℕ) → h ≤ last_hour e → m ≤ up_to (ends_day e h) 59 → s ≤ up_to (ends_day e h) 60 → h * 3600 + m * 60 + s ≤ 86400
clock_below E2019 h m s hh hm hs = omega arith
clock_below E2004 h m s hh hm hs = go (eqb h 24) refl hm hs
  where
    go : (t : Bool) → eqb h 24 ≡ t → m ≤ up_to t 59 → s ≤ up_to t 60 → h * 3600 + m * 60 + s ≤ 86400
    go true e hm hs = omega arith
    go false e hm hs = let other = eqb-false h 24 e in omega arith

-- ---- the offset

offset_counted : (o : Offset) → offset_given o ≡ true → Counted 1439 0 2878 (minutes_in_all o)
unfolding offset_given
offset_counted o e =
    let hours = counted 23 23 o.hours (omega arith) (leb-true (nat_abs o.hours) 23 (and_first (leb (nat_abs o.hours) 23) _ e)) in
    let behind = and_second (leb (nat_abs o.hours) 23) e in
    let minutes = counted 59 59 o.minutes (omega arith) (leb-true (nat_abs o.minutes) 59 (and_first (leb (nat_abs o.minutes) 59) _ behind)) in
    let h = hours.number in
    let m = minutes.number in
    record {
      number = h * 60 + m;
      is = ap₂ (λ (x y : ℤ). x *ℤ pos 60 +ℤ y) hours.is minutes.is ∙ ap (λ (x : ℤ). x +ℤ (m ⊖ 59)) (times h 23 60) ∙ plus (h * 60) 1380 m 59;
      above = omega arith;
      below = omega (arith, hours.below, minutes.below);
    }

-- ---- the moment, counted from 1,439 minutes before the day that days are counted from

abbrev pub start_second : ℕ
start_second = 315569606340

abbrev pub InSpan : ℤ → Type 0
InSpan s = Counted start_second 31622400 631139385480 s

seconds_counted : (day : ℤ) (t : Time) (o : Offset) → InDays day → seconds_in t ≤ 86400 → offset_given o ≡ true → InSpan (seconds_of day t o)
seconds_counted day t o d h g =
    let z = offset_counted o g in
    let a = d.number in
    let c = z.number in
    let number = a * 86400 + seconds_in t + 172680 - c * 60 in
    record {
      number = number;
      is = ap (λ (x : ℤ). seconds_of x t o) d.is ∙ seconds_parted a start_day c 1439 t o z.is
          ∙ same (a * 86400 + seconds_in t + 86340) (start_day * 86400 + c * 60) number start_second (omega (arith, z.below));
      above = omega (arith, d.above, z.below);
      below = omega (arith, d.below);
    }

-- a moment that lies there, and nanoseconds below a second
pub record InReach (s : ℤ) (n : ℕ) : Type 0 where
  pub seconds : InSpan s
  pub nanoseconds : n ≤ 999999999

-- what has a moment, and lacks neither its day nor an offset
pub moment_counted : (c : Choices) (x : DateTime) (s : ℤ) (n : ℕ) → date_time_given c x ≡ true → moment_of x ≡ at s n → InReach s n
unfolding time_offset_given
moment_counted c x s n g e = on (day_of x.date) refl e
  where
    t : Time
    t = x.time

    place : (day : ℤ) (o : std_option.Option Offset) → InDays day → time_offset_given o ≡ true → placed (some day) o t ≡ at s n → InReach s n
    place day None d f e = cc
    place day (Some o) d f e =
        let w = time_within c t (time_given_lem c x g) in
        let seconds : seconds_of day t o ≡ s = cc in
        let nanoseconds : t.nanosecond ≡ n = cc in
        record {
          seconds = rw seconds at (seconds_counted day t o d (clock_below c.edition t.hour t.minute t.second w.hour w.behind.minute w.behind.second) f);
          nanoseconds = rw nanoseconds at (within_day _ w.behind).fraction.nanosecond;
        }

    on : (day : Option ℤ) → day_of x.date ≡ day → placed day t.offset t ≡ at s n → InReach s n
    on none d e = cc
    on (some day) d e = place day t.offset (in_days x.date (date_given_lem c x g) d) (time_within c t (time_given_lem c x g)).offset e
