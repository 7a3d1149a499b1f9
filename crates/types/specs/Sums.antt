-- The meaning of each small sum over a record.
use Rattle.std.specs.Prelude.{ℕ, ◌+◌, ◌*◌, Bool, true, false, not, ltb, leb, eqb, ℤ, pos, neg_ℤ, ◌+ℤ◌, ◌*ℤ◌}
use Rattle.std.specs.Int.Signed.{le_z, lt_z}
use Rattle.types.specs.declared.Offset.{Offset}
use Rattle.types.specs.declared.Duration.{Duration}
use Rattle.std.specs.declared.option.Option.{Option}
use Rattle.std.specs.declared.option.Option.TheVariants.{None, Some}

abbrev pub and : Bool → Bool → Bool
and true b = b
and false b = false

abbrev pub or : Bool → Bool → Bool
or true b = true
or false b = b

-- "Minus gives a negative": a number with its sign
abbrev pub with_sign : Bool → ℕ → ℤ
with_sign true n = neg_ℤ (pos n)
with_sign false n = pos n

-- "hours and minutes carry the same sign, or are zero"
abbrev pub signed_offset : Bool → ℕ → ℕ → Offset
signed_offset minus h m = record { hours = with_sign minus h; minutes = with_sign minus m }

abbrev pub not_negative : ℤ → Bool
not_negative z = le_z (pos 0) z

abbrev pub not_positive : ℤ → Bool
not_positive z = le_z z (pos 0)

unfoldable pub same_sign : Offset → Bool
same_sign o = or (and (not_negative o.hours) (not_negative o.minutes)) (and (not_positive o.hours) (not_positive o.minutes))

abbrev pub pick_made : Bool → Option Offset → Option Offset
pick_made true made = made
pick_made false made = None

-- hour 00 to 23, minute 00 to 59
unfoldable pub made : Bool → ℕ → ℕ → Option Offset
made minus h m = pick_made (and (leb h 23) (leb m 59)) (Some (signed_offset minus h m))

-- "Minutes in all are 60 times hours plus minutes"
abbrev pub minutes_in_all : Offset → ℤ
minutes_in_all o = o.hours *ℤ pos 60 +ℤ o.minutes

-- "-1,439 to 1,439", and the zero offset
abbrev pub least : ℤ
least = neg_ℤ (pos 1439)

abbrev pub greatest : ℤ
greatest = pos 1439

abbrev pub zero_offset : Offset
zero_offset = record { hours = pos 0; minutes = pos 0 }

abbrev pub between_the_ends : ℤ → Bool
between_the_ends z = and (not (lt_z z least)) (le_z z greatest)

unfoldable pub in_range : Offset → Bool
in_range o = between_the_ends (minutes_in_all o)

-- "Year 365 days, month 30, week 7, all summed exactly"
abbrev pub seconds_of : Duration → ℕ
seconds_of d = (d.years * 365 + d.months * 30 + d.weeks * 7 + d.days) * 86400 + d.hours * 3600 + d.minutes * 60 + d.seconds

-- request W9's limit, of a sum as of a digit run: "18,446,744,073,709,551,615"
abbrev pub largest : ℕ
largest = 18446744073709551615

-- request W9: refused "exactly when the true sum is above the new limit"
abbrev pub sum_or_over : Bool → ℕ → Option ℕ
sum_or_over true n = Some n
sum_or_over false n = None

abbrev pub or_over : ℕ → Option ℕ
or_over n = sum_or_over (leb n largest) n

unfoldable pub in_seconds : Duration → Option ℕ
in_seconds d = or_over (seconds_of d)

-- so much more, where nothing was refused yet
abbrev pub plus : Option ℕ → ℕ → Option ℕ
plus (Some a) b = or_over (a + b)
plus None b = None

-- two sums together
abbrev pub both : Option ℕ → Option ℕ → Option ℕ
both a (Some b) = plus a b
both a None = None

-- "`has_time` is true exactly when days, hours, minutes and seconds are all above 0"
unfoldable pub has_time : Duration → Bool
has_time d = and (ltb 0 d.days) (and (ltb 0 d.hours) (and (ltb 0 d.minutes) (ltb 0 d.seconds)))

-- "`is_zero` exactly when all seven fields are 0"
unfoldable pub is_zero : Duration → Bool
is_zero d =
    and (eqb d.years 0)
    (and (eqb d.months 0) (and (eqb d.weeks 0) (and (eqb d.days 0) (and (eqb d.hours 0) (and (eqb d.minutes 0) (eqb d.seconds 0))))))
