-- The dates that the code writes. `proofs/Laws.antt` shows that they are those that some reader gives, no more and no fewer.
use Rattle.std.specs.Prelude.{Bool, ℤ, nat_abs}
use Rattle.types.specs.declared.Date.{Date}
use Rattle.types.specs.declared.Date.TheVariants.{YMD, Week, Ordinal}
use Rattle.parser.specs.Reading.{and, within}

abbrev pub year_given : ℤ → Bool
year_given y = within 100 9999 (nat_abs y)

unfoldable pub date_given : Date → Bool
date_given (YMD y m d) = and (and (within 1 12 m) (within 1 31 d)) (year_given y)
date_given (Week y w d) = and (and (within 1 52 w) (within 1 7 d)) (year_given y)
date_given (Ordinal y d) = and (within 1 366 d) (year_given y)
