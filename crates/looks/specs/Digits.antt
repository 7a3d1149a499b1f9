-- Two digits at one go.
use Rattle.std.specs.Prelude.{ℕ, ◌+◌, ◌*◌, ◌-◌}
use Rattle.parser.specs.Reading.{and, pick, within}
use Rattle.parser.specs.Digits.{is_digit}
use Rattle.std.specs.declared.option.Option.{Option}
use Rattle.std.specs.declared.option.Option.TheVariants.{None, Some}

-- two bytes read at one go: their number
abbrev pub two_number : ℕ → ℕ → ℕ
two_number a b = (a - 48) * 10 + (b - 48)

-- ... where they are digits and it lies from lo to hi
unfoldable pub two_digits : ℕ → ℕ → ℕ → ℕ → Option ℕ
two_digits a b lo hi = pick (and (is_digit a) (and (is_digit b) (within lo hi (two_number a b)))) (Some (two_number a b)) None
