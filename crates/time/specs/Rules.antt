-- Document 01's rule of times, and beside it those of two requests. W5: "The caller names 2004 or 2019. 2019 is document 01 as it stands". What
-- it adds asks whether the hour ends the day, and under 2019 none does. W8: "a standard reading beside the old one"; what it adds asks for the
-- reading, and the old one is document 01's (`proofs/Document.antt`). Request W7's digits stand beside the nanoseconds: "for this one document
-- 01's time rule is extended" (`fraction_of` in `parser/specs/Digits`).
use Rattle.std.specs.Prelude.{ℕ, ◌+◌, ◌*◌, ◌/◌, ◌%◌, Bool, true, false, eqb}
use Rattle.std.proofs.Math.Option.{Option, some, none}
use Rattle.types.specs.declared.Choices.{Choices}
use Rattle.types.specs.declared.Edition.{Edition}
use Rattle.types.specs.declared.Edition.TheVariants.{E2004, E2019}
use Rattle.types.specs.declared.Fraction.{Fraction}
use Rattle.types.specs.declared.Offset.{Offset}
use Rattle.types.specs.declared.Reading.{Reading}
use Rattle.types.specs.declared.Reading.TheVariants.{Old, Standard}
use Rattle.types.specs.declared.Time.{Time}
use Rattle.std.specs.declared.option.Option as std_option
use Rattle.std.specs.declared.option.Option.TheVariants.{None, Some}
use Rattle.parser.specs.Reading.{Reader, seq, opt, alt, must, map, pick}
use Rattle.parser.specs.Digits.{field, any, at_most, run_as, fraction_of}
use Rattle.parser.specs.Fields.{hour, minute, second, either, preceded_by, or_zero}
use Rattle.offset.specs.Rules.{offset}
use Rattle.time.specs.declared.Clock.{Clock}
use Rattle.time.specs.declared.TimeUnit.{TimeUnit}
use Rattle.time.specs.declared.TimeUnit.TheVariants.{Hour, Minute, Second}

-- "ISO 8601:2004 writes the end of a day as `24:00`": the hours of each edition, and the one that ends the day. "An offset's hour stays 00 to
-- 23": its rule has no edition.
abbrev pub hour_of : Edition → Reader ℕ
hour_of E2019 = hour
hour_of E2004 = field 2 0 24

abbrev pub ends_day : Edition → ℕ → Bool
ends_day E2019 h = false
ends_day E2004 h = eqb h 24

-- "Under 2004 hour 24 is a record if the minute and second read are 0 [..]; otherwise no form": 1, whatever follows
abbrev pub zero_if : Bool → Reader ℕ → Reader ℕ
zero_if false p = p
zero_if true p = must (λ v. eqb v 0) 1 p

-- "and every fraction digit written is 0, dropped digits too". "In the 2004 edition hour 24 again wants all digits 0": in both readings
abbrev pub numbers_if : Bool → ℕ → Bool
numbers_if false = any
numbers_if true = at_most 0

abbrev pub fraction_if : Bool → Reader Fraction
fraction_if z = run_as fraction_of (numbers_if z) 1

-- "Absent fields are 0.": a fraction, and all behind the hour
abbrev pub no_fraction : Fraction
no_fraction = record { nanosecond = 0; digits = 0 }

abbrev pub whole_clock : ℕ → ℕ → Clock
whole_clock mi se = record { minute = mi; second = se; fraction = no_fraction }

abbrev pub or_whole : ℕ → ℕ → Option Clock → Clock
or_whole mi se none = whole_clock mi se
or_whole mi se (some c) = c

-- "It counts as a fraction of a second even where no second was written." In the standard reading: "ISO 8601 attaches the fraction to the
-- smallest unit written"
abbrev pub unit_of : Reading → Option ℕ → TimeUnit
unit_of Old se = Second
unit_of Standard none = Minute
unit_of Standard (some se) = Second

-- "The stored digit count is then 0 if the nanosecond is 0, else 9."
abbrev pub digits_counted : ℕ → ℕ
digits_counted n = pick (eqb n 0) 0 9

-- so many nanoseconds past a minute, as minute, second and nanosecond
unfoldable pub sum_of : ℕ → ℕ → Clock
sum_of mi n = record {
  minute = mi + n / 60000000000;
  second = n / 1000000000 % 60;
  fraction = record { nanosecond = n % 1000000000; digits = digits_counted (n % 1000000000) };
}

-- "The fraction is cut or padded to nine digits, then counted as that many times 60 nanoseconds after a minute, or 3,600 after an hour"
abbrev pub clock_of : TimeUnit → ℕ → ℕ → Fraction → Clock
clock_of Second mi se f = record { minute = mi; second = se; fraction = f }
clock_of Minute mi se f = sum_of mi (60 * f.nanosecond)
clock_of Hour mi se f = sum_of mi (3600 * f.nanosecond)

-- "comma or point, one or more digits"
unfoldable pub time_fraction : TimeUnit → Bool → ℕ → ℕ → Reader Clock
time_fraction u z mi se = map (clock_of u mi se) (seq (either 44 46) (λ _. fraction_if z))

-- "optionally" these
unfoldable pub millisecond : TimeUnit → Bool → ℕ → ℕ → Reader Clock
millisecond u z mi se = map (or_whole mi se) (opt (time_fraction u z mi se))

-- "optionally {optional colon, second 00 to 60}"
unfoldable pub second_millisecond : Reading → Bool → ℕ → Reader Clock
second_millisecond r z mi = seq (opt (preceded_by 58 (zero_if z second))) (λ se. millisecond (unit_of r se) z mi (or_zero se))

-- "optional colon, minute 00 to 59", and these
unfoldable pub minute_second_millisecond : Reading → Bool → Reader Clock
minute_second_millisecond r z = seq (preceded_by 58 (zero_if z minute)) (second_millisecond r z)

-- "in it a comma or point and digits may also follow the hour directly, in place of minutes"
unfoldable pub behind_hour : Reading → Bool → Reader Clock
behind_hour Old z = minute_second_millisecond Old z
behind_hour Standard z = alt (minute_second_millisecond Standard z) (time_fraction Hour z 0 0)

-- "An absent offset is marked so, and isn't zero."
abbrev pub or_absent : Option Offset → std_option.Option Offset
or_absent none = None
or_absent (some o) = Some o

abbrev pub time_of : ℕ → Clock → Option Offset → Time
time_of h c o = record {
  hour = h;
  minute = c.minute;
  second = c.second;
  nanosecond = c.fraction.nanosecond;
  digits = c.fraction.digits;
  offset = or_absent o;
}

-- "then optionally an offset"
unfoldable pub time_offset : ℕ → Clock → Reader Time
time_offset h c = map (time_of h c) (opt offset)

unfoldable pub after_hour : Reading → Bool → ℕ → Reader Time
after_hour r z h = seq (opt (behind_hour r z)) (λ c. time_offset h (or_whole 0 0 c))

-- "Hour 00 to 23; then optionally {..}; then optionally an offset."
unfoldable pub base_time : Choices → Reader Time
base_time c = seq (hour_of c.edition) (λ h. after_hour c.reading (ends_day c.edition h) h)

-- "The time reader takes an optional `T` first"
unfoldable pub time : Choices → Reader Time
time c = preceded_by 84 (base_time c)
