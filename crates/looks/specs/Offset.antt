-- What stands where an offset may: the end of the input, Z or (+|-)HH:MM.
use Rattle.std.specs.Prelude.{ℕ, ◌+◌, ◌-◌, List, Bool, true, false, length, get_or, ltb, leb, eqb}
use Rattle.types.specs.Sums.{signed_offset, zero_offset}
use Rattle.parser.specs.Reading.{and, pick}
use Rattle.looks.specs.Digits.{two_digits}
use Rattle.std.specs.declared.option.Option.{Option}
use Rattle.std.specs.declared.option.Option.TheVariants.{None, Some}
use Rattle.looks.specs.declared.PlainOffset.{PlainOffset}
use Rattle.looks.specs.declared.PlainOffset.TheVariants.{End, Got, Other}

-- an hour and a minute, unless they are minus zero
abbrev pub plain_shift : Bool → ℕ → ℕ → ℕ → PlainOffset
plain_shift minus h m n = pick (and minus (and (eqb h 0) (eqb m 0))) Other (Got (signed_offset minus h m) n)

-- the same, where both are numbers
abbrev pub shift_of : Bool → Option ℕ → Option ℕ → ℕ → PlainOffset
shift_of minus (Some h) (Some m) n = plain_shift minus h m n
shift_of minus (Some h) None n = Other
shift_of minus None m n = Other

unfoldable pub plain_signed : Bool → List ℕ → ℕ → PlainOffset
plain_signed minus s at =
    pick (ltb (length s) 6) Other
    (pick (ltb (length s - 6) at) Other
    (pick (eqb (get_or s (at + 3) 0) 58)
    (shift_of minus (two_digits (get_or s (at + 1) 0) (get_or s (at + 2) 0) 0 23) (two_digits (get_or s (at + 4) 0) (get_or s (at + 5) 0) 0 59) (at + 6))
    Other))

unfoldable pub plain_offset : List ℕ → ℕ → PlainOffset
plain_offset s at =
    pick (leb (length s) at) End
    (pick (eqb (get_or s at 0) 45) (plain_signed true s at)
    (pick (eqb (get_or s at 0) 43) (plain_signed false s at) (pick (eqb (get_or s at 0) 90) (Got zero_offset (at + 1)) Other)))
