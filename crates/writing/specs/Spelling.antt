-- The one spelling of each record, beside the sentences of requests W1, W7 and W12. Bytes: `+` 43, `-` 45, `.` 46, `/` 47, `0` 48, `:` 58, and
-- letters.
use Rattle.std.specs.Prelude.{ℕ, zero, suc, ◌+◌, ◌/◌, ◌%◌, List, [], ◌∷◌, ◌++◌, Bool, true, false, eqb, take, ℤ, pos, negsuc, nat_abs}
use Rattle.types.specs.declared.Offset.{Offset}
use Rattle.std.specs.declared.option.Option.{Option}
use Rattle.std.specs.declared.option.Option.TheVariants.{None, Some}
use Rattle.types.specs.declared.Time.{Time}
use Rattle.types.specs.declared.Date.{Date}
use Rattle.types.specs.declared.Date.TheVariants.{YMD, Week, Ordinal}
use Rattle.types.specs.declared.DateTime.{DateTime}
use Rattle.types.specs.declared.Duration.{Duration}
use Rattle.types.specs.declared.Interval.{Interval}
use Rattle.types.specs.declared.IntervalRange.{IntervalRange}
use Rattle.types.specs.declared.IntervalRange.TheVariants as range
use Rattle.types.specs.declared.Repetitions.{Repetitions}
use Rattle.types.specs.declared.Repetitions.TheVariants.{Once, Unlimited, Times}
use Rattle.types.specs.Sums.{is_zero}
use Rattle.parser.specs.Reading.{or, and, pick}
use Rattle.text.specs.Text.{decimal}

-- `YYYY`, `MM`, `DDD`, ..: the last n decimal digits of v
unfoldable pub padded : ℕ → ℕ → List ℕ
padded zero v = []
padded (suc n) v = padded n (v / 10) ++ (48 + v % 10) ∷ []

abbrev pub negative : ℤ → Bool
negative (pos n) = false
negative (negsuc n) = true

-- ---- an offset: "`Z` for zero, or a signed `HH:MM`"

abbrev pub sign_byte : Bool → ℕ
sign_byte true = 45
sign_byte false = 43

abbrev pub is_minus : Offset → Bool
is_minus o = or (negative o.hours) (negative o.minutes)

abbrev pub is_zulu : Offset → Bool
is_zulu o = and (eqb (nat_abs o.hours) 0) (eqb (nat_abs o.minutes) 0)

unfoldable pub shift_spelling : Offset → List ℕ
shift_spelling o = sign_byte (is_minus o) ∷ padded 2 (nat_abs o.hours) ++ 58 ∷ padded 2 (nat_abs o.minutes)

unfoldable pub offset_spelling : Offset → List ℕ
offset_spelling o = pick (is_zulu o) (90 ∷ []) (shift_spelling o)

-- ---- a time: "as `HH:MM:SS`, then a point and the fraction [..], then nothing, `Z` for zero, or a signed `HH:MM`"

unfoldable pub clock_spelling : ℕ → ℕ → ℕ → List ℕ
clock_spelling h m s = padded 2 h ++ 58 ∷ padded 2 m ++ 58 ∷ padded 2 s

-- request W7, in the place of W1's "without trailing zeros if it isn't 0": of the nanoseconds' nine digits, "the number of fraction digits
-- written [..] The writer writes that many", and no point where there are none
unfoldable pub fraction_spelling : ℕ → ℕ → List ℕ
fraction_spelling k n = pick (eqb k 0) [] (46 ∷ take k (padded 9 n))

unfoldable pub time_offset_spelling : Option Offset → List ℕ
time_offset_spelling None = []
time_offset_spelling (Some o) = offset_spelling o

unfoldable pub time_spelling : Time → List ℕ
time_spelling t = clock_spelling t.hour t.minute t.second ++ fraction_spelling t.digits t.nanosecond ++ time_offset_spelling t.offset

-- ---- a date: "as `YYYY-MM-DD`, `YYYY-Www-D` or `YYYY-DDD` by their kind, with `-` only for negative years"

abbrev pub year_sign : Bool → List ℕ
year_sign true = 45 ∷ []
year_sign false = []

unfoldable pub year_spelling : ℤ → List ℕ
year_spelling y = year_sign (negative y) ++ padded 4 (nat_abs y)

unfoldable pub date_spelling : Date → List ℕ
date_spelling (YMD y m d) = year_spelling y ++ 45 ∷ padded 2 m ++ 45 ∷ padded 2 d
date_spelling (Week y w d) = year_spelling y ++ 45 ∷ 87 ∷ padded 2 w ++ 45 ∷ padded 1 d
date_spelling (Ordinal y d) = year_spelling y ++ 45 ∷ padded 3 d

-- ---- a date-time: the time behind "the date and its `T`"

unfoldable pub date_time_spelling : DateTime → List ℕ
date_time_spelling x = date_spelling x.date ++ 84 ∷ time_spelling x.time

-- ---- a duration: "Durations write their nonzero parts, with `T` before time parts; all zero is `PT0S`."

unfoldable pub part_spelling : ℕ → ℕ → List ℕ
part_spelling n letter = pick (eqb n 0) [] (decimal n ++ letter ∷ [])

abbrev pub behind_t : List ℕ → List ℕ
behind_t [] = []
behind_t (b ∷ t) = 84 ∷ b ∷ t

unfoldable pub date_parts : Duration → List ℕ
date_parts d = part_spelling d.years 89 ++ part_spelling d.months 77 ++ part_spelling d.weeks 87 ++ part_spelling d.days 68

unfoldable pub time_parts : Duration → List ℕ
time_parts d = part_spelling d.hours 72 ++ part_spelling d.minutes 77 ++ part_spelling d.seconds 83

unfoldable pub duration_spelling : Duration → List ℕ
duration_spelling d = pick (is_zero d) (80 ∷ 84 ∷ 48 ∷ 83 ∷ []) (80 ∷ date_parts d ++ behind_t (time_parts d))

-- ---- an interval: {`R`, the number of times if one was read, `/`} where `R` was read, and the sides as their own spellings, `/` between them

unfoldable pub repetitions_spelling : Repetitions → List ℕ
repetitions_spelling Once = []
repetitions_spelling Unlimited = 82 ∷ 47 ∷ []
repetitions_spelling (Times n) = 82 ∷ decimal n ++ 47 ∷ []

unfoldable pub range_spelling : IntervalRange → List ℕ
range_spelling (range.Closed a b) = date_time_spelling a ++ 47 ∷ date_time_spelling b
range_spelling (range.ClosedEnd d b) = duration_spelling d ++ 47 ∷ date_time_spelling b
range_spelling (range.ClosedStart a d) = date_time_spelling a ++ 47 ∷ duration_spelling d
range_spelling (range.Open d) = duration_spelling d

unfoldable pub interval_spelling : Interval → List ℕ
interval_spelling x = repetitions_spelling x.repetitions ++ range_spelling x.range
