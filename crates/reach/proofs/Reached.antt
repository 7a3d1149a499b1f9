-- Both ends of the range are told of two texts.
use Prim.Native.Nat.{ℕ}
use mathlib.Core.Bool.{true}
use mathlib.Core.List.{List}
use mathlib.Core.Option.{Option, some}
use mathlib.Core.Path.{◌≡◌, refl, sym, ap}
use native.Mathlib.Omega.{arith}
use lib.IntN.{ℤ, pos, negsuc}
use lib.ListN.{length}
use Rattle.types.specs.Sums.{same_sign}
use Rattle.types.specs.declared.Choices.{Choices}
use Rattle.types.specs.declared.Date.TheVariants.{Week}
use Rattle.types.specs.declared.DateTime.{DateTime}
use Rattle.types.specs.declared.Edition.{Edition}
use Rattle.types.specs.declared.Edition.TheVariants.{E2004, E2019}
use Rattle.types.specs.declared.Time.{Time}
use Rattle.std.specs.declared.option.Option.TheVariants.{Some}
use Rattle.parser.specs.Answer.{recorded}
use Rattle.calendar.specs.Calendar.{day_of}
use Rattle.calendar.proofs.Integers.{◌⊖◌}
use Rattle.calendar.proofs.Years.{by_quotients}
use Rattle.moments.specs.Moments.{at, placed, moment_of}
use Rattle.gaps.specs.Gaps.{wholly}
use Rattle.writing.specs.Spelling.{padded, shift_spelling, offset_spelling, clock_spelling, fraction_spelling, time_offset_spelling, time_spelling, year_spelling, date_spelling, date_time_spelling}
use Rattle.writing.proofs.Laws.{readable, read_back}
use Rattle.offset_writer.specs.Ranges.{offset_given}
use Rattle.time_writer.specs.Ranges.{time_offset_given, fraction_given, clock_given, time_given}
use Rattle.date_writer.specs.Ranges.{date_given}
use Rattle.datetime_writer.specs.Ranges.{date_time_given}
use Rattle.datetime_writer.proofs.Laws.{date_time_spells, both_given_lem}
use Rattle.reach.specs.Reach.{earliest, latest, Reached}
use Rattle.reach.proofs.Days.{start_day, week_day_lem}

-- ---- what they are read as, under either edition

first : DateTime
first = record { date = Week (negsuc 9998) 1 1; time = record { hour = 0; minute = 0; second = 0; nanosecond = 0; digits = 0; offset = Some (record { hours = pos 23; minutes = pos 59 }) } }

last : DateTime
last = record { date = Week (pos 9999) 52 7; time = record { hour = 23; minute = 59; second = 60; nanosecond = 999999999; digits = 9; offset = Some (record { hours = negsuc 22; minutes = negsuc 58 }) } }

either_edition : (c : Choices) (t : Time) → time_given (record { edition = E2004; reading = c.reading }) t ≡ true → time_given (record { edition = E2019; reading = c.reading }) t ≡ true → time_given c t ≡ true
either_edition c t old new = go c.edition
  where
    go : (e : Edition) → time_given (record { edition = e; reading = c.reading }) t ≡ true
    go E2004 = old
    go E2019 = new

first_given : (c : Choices) → date_time_given c first ≡ true
unfolding first time_given clock_given fraction_given time_offset_given offset_given date_given same_sign
first_given c = both_given_lem c first refl (either_edition c first.time refl refl)

last_given : (c : Choices) → date_time_given c last ≡ true
unfolding last time_given clock_given fraction_given time_offset_given offset_given date_given same_sign
last_given c = both_given_lem c last refl (either_edition c last.time refl refl)

-- ---- how they are spelled

first_spelled : date_time_spelling first ≡ earliest
unfolding first earliest date_time_spelling date_spelling year_spelling time_spelling clock_spelling fraction_spelling time_offset_spelling offset_spelling shift_spelling padded
first_spelled = refl

last_spelled : date_time_spelling last ≡ latest
unfolding last latest date_time_spelling date_spelling year_spelling time_spelling clock_spelling fraction_spelling time_offset_spelling offset_spelling shift_spelling padded
last_spelled = refl

-- ---- their days, by the closed forms, and their moments, which compute from there

first_day : day_of (Week (negsuc 9998) 1 1) ≡ some (366 ⊖ start_day)
first_day = rw (by_quotients 1) at (week_day_lem 1 1 1 (omega arith))

last_day : day_of (Week (pos 9999) 52 7) ≡ some (7304851 ⊖ start_day)
last_day = rw (by_quotients 19999) at (week_day_lem 19999 52 7 (omega arith))

first_moment : moment_of first ≡ at (negsuc 315537983939) 0
unfolding first
first_moment = ap (λ (z : Option ℤ). placed z first.time.offset first.time) first_day

last_moment : moment_of last ≡ at (pos 315569779140) 999999999
unfolding last
last_moment = ap (λ (z : Option ℤ). placed z last.time.offset last.time) last_day

-- ---- what is told of them

-- a text that spells a date-time is read as it
spelled : (c : Choices) (x : DateTime) (s : List ℕ) → date_time_given c x ≡ true → date_time_spelling x ≡ s → wholly c s ≡ recorded x (length s)
spelled c x s g e = rw e at (sym (read_back (date_time_spells c) x (readable (date_time_spells c) x g)))

pub reached : (c : Choices) → Reached c
reached c =
    let a = spelled c first earliest (first_given c) first_spelled in
    let b = spelled c last latest (last_given c) last_spelled in
    record {
      most = rw (a, b, first_moment, last_moment) (record { exact = refl; below = omega arith });
      least = rw (a, b, first_moment, last_moment) (record { exact = refl; below = omega arith });
    }
