-- No spelling has more than 149 bytes: `P`, `T`, and seven parts of twenty digits and a letter. One has them.
use Prim.Native.Nat.{◌≤◌}
use mathlib.Core.List.{[], ◌∷◌, ◌++◌}
use mathlib.Core.Bool.{Bool, true, false}
use mathlib.Core.Path.{◌≡◌, refl}
use native.Mathlib.Omega.{arith}
use lib.ListN.{length, length-append}
use Rattle.types.specs.declared.Duration.{Duration}
use Rattle.types.specs.Sums.{is_zero}
use Rattle.parser.specs.Reading.{pick}
use Rattle.parser.specs.Digits.{limit}
use Rattle.text.specs.Text.{decimal_of}
use Rattle.writing.specs.Spelling.{part_spelling, behind_t, date_parts, time_parts, duration_spelling}
use Rattle.duration_writer.proofs.Sizes.{part_most, date_size, time_size, behind_most}

date_most : (d : Duration) → length (date_parts d) ≤ 84
date_most d = omega (arith, date_size d, part_most d.years 89, part_most d.months 77, part_most d.weeks 87, part_most d.days 68)

time_most : (d : Duration) → length (time_parts d) ≤ 63
time_most d = omega (arith, time_size d, part_most d.hours 72, part_most d.minutes 77, part_most d.seconds 83)

pub longest_duration : (d : Duration) → length (duration_spelling d) ≤ 149
unfolding duration_spelling
longest_duration d = go (is_zero d)
  where
    go : (t : Bool) → length (pick t (80 ∷ 84 ∷ 48 ∷ 83 ∷ []) (80 ∷ date_parts d ++ behind_t (time_parts d))) ≤ 149
    go true = omega arith
    go false = omega (arith, length-append (date_parts d) (behind_t (time_parts d)), date_most d, time_most d, behind_most (time_parts d))

pub longest_reached : length (duration_spelling (record { years = limit; months = limit; weeks = limit; days = limit; hours = limit; minutes = limit; seconds = limit })) ≡ 149
unfolding duration_spelling date_parts time_parts part_spelling is_zero decimal_of
longest_reached = refl
