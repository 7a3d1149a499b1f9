-- The rules of the year and of the date, sentence by sentence as the paper has them.
use Rattle.std.specs.Prelude.{ℕ, Bool, true, false, ℤ}
use Rattle.std.proofs.Math.Option.{Option, some, none}
use Rattle.types.specs.Sums.{with_sign}
use Rattle.types.specs.declared.Date.{Date}
use Rattle.types.specs.declared.Date.TheVariants.{YMD, Week, Ordinal}
use Rattle.parser.specs.Reading.{Reader, lit, seq, opt, alt, verify, map, within}
use Rattle.parser.specs.Digits.{field}
use Rattle.parser.specs.Fields.{month, day, signed, preceded_by}

-- "Minus gives a negative year": an absent sign is not minus
abbrev pub minus : Option Bool → Bool
minus none = false
minus (some m) = m

abbrev pub digits_of_year : Bool → Reader ℤ
digits_of_year m = map (with_sign m) (field 4 100 9999)

-- "An optional sign and four digits, 0100 to 9999."
unfoldable pub year : Reader ℤ
year = seq (opt signed) (λ o. digits_of_year (minus o))

abbrev pub dash : Reader Unit
dash = lit 45

-- "No digit means day 1." "No day means day 1."
abbrev pub or_first : Option ℕ → ℕ
or_first none = 1
or_first (some d) = d

-- "A digit other than 1 to 7 refuses this alternative."
abbrev pub one_to_seven : Option ℕ → Bool
one_to_seven none = true
one_to_seven (some d) = within 1 7 d

-- 1. "year, optional `-`, `W`, week 01 to 52, then optionally {optional `-`, one digit}."
abbrev pub week_of_year : Reader ℕ
week_of_year = field 2 1 52

abbrev pub week : Reader ℕ
week = seq (lit 87) (λ _. week_of_year)

unfoldable pub day_of_week : Reader ℕ
day_of_week = map or_first (verify one_to_seven (opt (preceded_by 45 (field 1 0 9))))

unfoldable pub week_and_day : ℤ → Reader Date
week_and_day y = seq week (λ w. map (λ d. Week y w d) day_of_week)

abbrev pub wd : ℤ → Reader Date
wd y = preceded_by 45 (week_and_day y)

abbrev pub ywd : Reader Date
ywd = seq year wd

-- 2. "year, month 01 to 12, day 01 to 31, no separators."
unfoldable pub md_numeric : ℤ → Reader Date
md_numeric y = seq month (λ m. map (λ d. YMD y m d) day)

abbrev pub ymd_numeric : Reader Date
ymd_numeric = seq year md_numeric

-- 3. "year, optional `-`, three digits 001 to 366."
abbrev pub day_of_year : Reader ℕ
day_of_year = field 3 1 366

unfoldable pub ordinal : ℤ → Reader Date
ordinal y = map (λ d. Ordinal y d) day_of_year

abbrev pub ddd : ℤ → Reader Date
ddd y = preceded_by 45 (ordinal y)

abbrev pub yddd : Reader Date
yddd = seq year ddd

-- 4. "year, `-`, month, then optionally {optional `-`, day}."
unfoldable pub day_of_month : Reader ℕ
day_of_month = map or_first (opt (preceded_by 45 day))

unfoldable pub month_and_day : ℤ → Reader Date
month_and_day y = seq month (λ m. map (λ d. YMD y m d) day_of_month)

abbrev pub md : ℤ → Reader Date
md y = seq dash (λ _. month_and_day y)

abbrev pub ymd : Reader Date
ymd = seq year md

-- "The first alternative that succeeds is kept, and no later failure reopens it"
unfoldable pub date : Reader Date
date = alt ywd (alt ymd_numeric (alt yddd ymd))
