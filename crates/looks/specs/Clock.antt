-- HH:MM:SS, and .mmm behind it.
use Rattle.std.specs.Prelude.{ℕ, ◌+◌, ◌*◌, ◌-◌, List, length, get_or, ltb, eqb}
use Rattle.parser.specs.Reading.{pick}
use Rattle.looks.specs.Digits.{two_digits}
use Rattle.looks.specs.declared.PlainClock.{PlainClock}
use Rattle.std.specs.declared.option.Option.{Option}
use Rattle.std.specs.declared.option.Option.TheVariants.{None, Some}

-- hour, minute and second, where each is a number
abbrev pub clock_from : Option ℕ → Option ℕ → Option ℕ → Option PlainClock
clock_from (Some h) (Some m) (Some x) = Some (record { hour = h; minute = m; second = x })
clock_from (Some h) (Some m) None = None
clock_from (Some h) None x = None
clock_from None m x = None

abbrev pub clock_digits : List ℕ → ℕ → Option PlainClock
clock_digits s at =
    clock_from (two_digits (get_or s at 0) (get_or s (at + 1) 0) 0 23) (two_digits (get_or s (at + 3) 0) (get_or s (at + 4) 0) 0 59)
    (two_digits (get_or s (at + 6) 0) (get_or s (at + 7) 0) 0 60)

unfoldable pub plain_clock : List ℕ → ℕ → Option PlainClock
plain_clock s at =
    pick (ltb (length s) 8) None
    (pick (ltb (length s - 8) at) None
    (pick (eqb (get_or s (at + 2) 0) 58) (pick (eqb (get_or s (at + 5) 0) 58) (clock_digits s at) None) None))

-- thousandths of the tenths and the two digits behind them, where both are numbers
abbrev pub thousandths : Option ℕ → Option ℕ → Option ℕ
thousandths (Some a) (Some b) = Some (a * 100 + b)
thousandths (Some a) None = None
thousandths None b = None

unfoldable pub plain_millisecond : List ℕ → ℕ → Option ℕ
plain_millisecond s at =
    pick (ltb (length s) 4) None
    (pick (ltb (length s - 4) at) None
    (pick (eqb (get_or s at 0) 46)
    (thousandths (two_digits 48 (get_or s (at + 1) 0) 0 9) (two_digits (get_or s (at + 2) 0) (get_or s (at + 3) 0) 0 99))
    None))
