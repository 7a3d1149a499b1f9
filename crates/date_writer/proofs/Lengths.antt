-- How long a date's spelling is: the year has four bytes or five, and what follows four or six.
use Prim.Native.Nat.{ℕ, ◌+◌, ◌≤◌}
use mathlib.Core.List.{◌∷◌, ◌++◌}
use mathlib.Core.Bool.{Bool, true, false}
use mathlib.Core.Path.{◌≡◌, refl, ◌∙◌}
use native.Mathlib.Omega.{arith}
use lib.IntN.{ℤ, nat_abs}
use lib.ListN.{length, length-append}
use Rattle.types.specs.declared.Date.{Date}
use Rattle.types.specs.declared.Date.TheVariants.{YMD, Week, Ordinal}
use Rattle.parser.specs.Reading.{pick}
use Rattle.writing.specs.Spelling.{padded, negative, year_sign, year_spelling, date_spelling}

pub year_size : (y : ℤ) → length (year_spelling y) ≡ pick (negative y) 5 4
unfolding year_spelling padded
year_size y = go (negative y)
  where
    go : (t : Bool) → length (year_sign t ++ padded 4 (nat_abs y)) ≡ pick t 5 4
    go true = refl
    go false = refl

pub year_short : (y : ℤ) → length (year_spelling y) ≤ 5
unfolding year_spelling padded
year_short y = go (negative y)
  where
    go : (t : Bool) → length (year_sign t ++ padded 4 (nat_abs y)) ≤ 5
    go true = omega arith
    go false = omega arith

module _ (y : ℤ) where
  pub calendar_size : (m d : ℕ) → length (date_spelling (YMD y m d)) ≡ length (year_spelling y) + 6
  unfolding date_spelling padded
  calendar_size m d = length-append (year_spelling y ++ 45 ∷ padded 2 m) (45 ∷ padded 2 d) ∙ omega (arith, length-append (year_spelling y) (45 ∷ padded 2 m))

  pub week_size : (w d : ℕ) → length (date_spelling (Week y w d)) ≡ length (year_spelling y) + 6
  unfolding date_spelling padded
  week_size w d = length-append (year_spelling y ++ 45 ∷ 87 ∷ padded 2 w) (45 ∷ padded 1 d) ∙ omega (arith, length-append (year_spelling y) (45 ∷ 87 ∷ padded 2 w))

  pub ordinal_size : (d : ℕ) → length (date_spelling (Ordinal y d)) ≡ length (year_spelling y) + 4
  unfolding date_spelling padded
  ordinal_size d = length-append (year_spelling y) (45 ∷ padded 3 d)

pub date_short : (d : Date) → length (date_spelling d) ≤ 11
date_short (YMD y m d) = omega (arith, calendar_size y m d, year_short y)
date_short (Week y w d) = omega (arith, week_size y w d, year_short y)
date_short (Ordinal y d) = omega (arith, ordinal_size y d, year_short y)
