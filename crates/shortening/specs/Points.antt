-- "comma or point", what a fraction begins with.
use Rattle.std.specs.Prelude.{ℕ, Bool, eqb}
use Rattle.parser.specs.Reading.{or}

abbrev pub is_point : ℕ → Bool
is_point b = or (eqb b 44) (eqb b 46)
