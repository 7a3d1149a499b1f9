-- YYYY-MM-DD at the very beginning.
use Rattle.std.specs.Prelude.{ℕ, ◌+◌, ◌*◌, List, pos, length, get_or, ltb, eqb}
use Rattle.types.specs.declared.Date.{Date}
use Rattle.types.specs.declared.Date.TheVariants.{YMD}
use Rattle.parser.specs.Reading.{pick}
use Rattle.looks.specs.Digits.{two_digits}
use Rattle.std.specs.declared.option.Option.{Option}
use Rattle.std.specs.declared.option.Option.TheVariants.{None, Some}

-- the year's two halves, the month and the day, where each is a number
abbrev pub ymd_of : Option ℕ → Option ℕ → Option ℕ → Option ℕ → Option Date
ymd_of (Some c) (Some y) (Some m) (Some d) = Some (YMD (pos (c * 100 + y)) m d)
ymd_of (Some c) (Some y) (Some m) None = None
ymd_of (Some c) (Some y) None d = None
ymd_of (Some c) None m d = None
ymd_of None y m d = None

abbrev pub plain_digits : List ℕ → Option Date
plain_digits s =
    ymd_of (two_digits (get_or s 0 0) (get_or s 1 0) 1 99) (two_digits (get_or s 2 0) (get_or s 3 0) 0 99) (two_digits (get_or s 5 0) (get_or s 6 0) 1 12)
    (two_digits (get_or s 8 0) (get_or s 9 0) 1 31)

unfoldable pub plain_date : List ℕ → Option Date
plain_date s = pick (ltb (length s) 10) None (pick (eqb (get_or s 4 0) 45) (pick (eqb (get_or s 7 0) 45) (plain_digits s) None) None)
