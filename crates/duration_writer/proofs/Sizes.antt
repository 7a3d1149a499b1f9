-- How many bytes a part has, and where the `T` stands.
use Prim.Native.Nat.{ℕ, zero, suc, ◌+◌, ◌≤◌, ◌<◌}
use mathlib.Core.List.{List, [], ◌∷◌, ◌++◌, append_assoc}
use mathlib.Core.Bool.{Bool, true, false}
use mathlib.Core.Path.{◌≡◌, refl}
use native.Mathlib.Omega.{arith}
use borrow.Author.Tests.{ne_eqb}
use lib.Dec.{eqb}
use lib.ListN.{length, length-append}
use Rattle.types.specs.declared.Duration.{Duration}
use Rattle.types.specs.Sums.{is_zero}
use Rattle.parser.specs.Reading.{pick, and}
use Rattle.text.specs.Text.{decimal}
use Rattle.text.proofs.Decimals.{digits_short}
use Rattle.writing.specs.Spelling.{part_spelling, behind_t, date_parts, time_parts, duration_spelling}
use Rattle.duration_writer.specs.Ranges.{timeless}

-- ---- a part

pub not_zero_lem : (n : ℕ) → eqb (suc n) 0 ≡ false
not_zero_lem n = ne_eqb (suc n) 0 (λ e. omega arith)

pub part_some : (n letter : ℕ) → 0 < n → part_spelling n letter ≡ decimal n ++ letter ∷ []
unfolding part_spelling
part_some n letter h = rw (ne_eqb n 0 (λ e. omega arith))

part_size : (n letter : ℕ) → 0 < n → length (part_spelling n letter) ≡ length (decimal n) + 1
part_size n letter h = rw (part_some n letter h) (length-append (decimal n) (letter ∷ []))

-- twenty digits and the letter
pub part_most : (n letter : ℕ) → length (part_spelling n letter) ≤ 21
unfolding part_spelling
part_most zero letter = omega arith
part_most (suc n) letter = rw (part_size (suc n) letter (omega arith)) (omega (arith, digits_short 20 (suc n)))

pub date_size : (d : Duration) → length (date_parts d) ≡ length (part_spelling d.years 89) + length (part_spelling d.months 77) + length (part_spelling d.weeks 87) + length (part_spelling d.days 68)
unfolding date_parts
date_size d = simp length-append

pub time_size : (d : Duration) → length (time_parts d) ≡ length (part_spelling d.hours 72) + length (part_spelling d.minutes 77) + length (part_spelling d.seconds 83)
unfolding time_parts
time_size d = simp length-append

-- ---- the `T`

behind_some : (t : List ℕ) (b : ℕ) (u : List ℕ) → behind_t (t ++ b ∷ u) ≡ 84 ∷ (t ++ b ∷ u)
behind_some [] b u = refl
behind_some (c ∷ t) b u = refl

pub behind_most : (t : List ℕ) → length (behind_t t) ≤ length t + 1
behind_most [] = omega arith
behind_most (b ∷ t) = omega arith

-- it stands where one of the three parts behind it does
pub behind_t_lem : (d : Duration) → behind_t (time_parts d) ≡ pick (timeless d) [] (84 ∷ time_parts d)
unfolding time_parts part_spelling
behind_t_lem d = go (eqb d.hours 0) (eqb d.minutes 0) (eqb d.seconds 0)
  where
    go : (h m s : Bool) → behind_t (pick h [] (decimal d.hours ++ 72 ∷ []) ++ pick m [] (decimal d.minutes ++ 77 ∷ []) ++ pick s [] (decimal d.seconds ++ 83 ∷ []))
        ≡ pick (and h (and m s)) [] (84 ∷ (pick h [] (decimal d.hours ++ 72 ∷ []) ++ pick m [] (decimal d.minutes ++ 77 ∷ []) ++ pick s [] (decimal d.seconds ++ 83 ∷ [])))
    go true true true = refl
    go true true false = behind_some (decimal d.seconds) 83 []
    go true false s = simp append_assoc (behind_some (decimal d.minutes) 77 _)
    go false m s = simp append_assoc (behind_some (decimal d.hours) 72 _)

-- ---- all of it

-- four bytes, or `P`, those of the parts, and `T` where it stands
pub duration_size : (d : Duration) → length (duration_spelling d) ≡ pick (is_zero d) 4 (pick (timeless d) (1 + length (date_parts d)) (2 + length (date_parts d) + length (time_parts d)))
unfolding duration_spelling
duration_size d = rw (behind_t_lem d) (go (is_zero d) (timeless d))
  where
    go : (zero none : Bool) → length (pick zero (80 ∷ 84 ∷ 48 ∷ 83 ∷ []) (80 ∷ date_parts d ++ pick none [] (84 ∷ time_parts d)))
        ≡ pick zero 4 (pick none (1 + length (date_parts d)) (2 + length (date_parts d) + length (time_parts d)))
    go true none = refl
    go false true = omega (arith, length-append (date_parts d) [])
    go false false = omega (arith, length-append (date_parts d) (84 ∷ time_parts d))
