-- The times that the code writes, by the edition. `proofs/Laws.antt` shows that they are those that some reader of that edition gives, no more
-- and no fewer.
use Rattle.std.specs.Prelude.{ℕ, ◌-◌, ◌%◌, ◌^◌, Bool, true, false, leb, eqb}
use Rattle.types.specs.declared.Choices.{Choices}
use Rattle.types.specs.declared.Edition.{Edition}
use Rattle.types.specs.declared.Edition.TheVariants.{E2004, E2019}
use Rattle.types.specs.declared.Time.{Time}
use Rattle.types.specs.declared.Offset.{Offset}
use Rattle.std.specs.declared.option.Option.{Option}
use Rattle.std.specs.declared.option.Option.TheVariants.{None, Some}
use Rattle.parser.specs.Reading.{and}
use Rattle.time.specs.Rules.{ends_day}
use Rattle.offset_writer.specs.Ranges.{offset_given}

unfoldable pub time_offset_given : Option Offset → Bool
time_offset_given None = true
time_offset_given (Some o) = offset_given o

-- "The writer takes the edition too and writes hour 24 only for 2004."
abbrev pub last_hour : Edition → ℕ
last_hour E2019 = 23
last_hour E2004 = 24

-- "Under 2004 hour 24 is a record if the minute and second read are 0 and every fraction digit written is 0": the greatest number behind an
-- hour, which is 0 where the hour ends the day
abbrev pub up_to : Bool → ℕ → ℕ
up_to false hi = hi
up_to true hi = 0

-- "4 also for a nanosecond that doesn't fit its digit count": of its nine digits those behind that many are 0; and no count is above 9
unfoldable pub fraction_given : ℕ → ℕ → Bool
fraction_given k n = and (leb k 9) (eqb (n % 10 ^ (9 - k)) 0)

-- the fields between the hour and the offset, by the greatest number of each, and a fraction that fits its digits
abbrev pub behind_given : ℕ → ℕ → ℕ → Time → Bool
behind_given mi se na t =
    and (leb t.minute mi) (and (leb t.second se) (and (leb t.nanosecond na) (fraction_given t.digits t.nanosecond)))

-- the fields but the offset
unfoldable pub clock_given : Edition → Time → Bool
clock_given e t =
    let z = ends_day e t.hour in
    and (leb t.hour (last_hour e)) (behind_given (up_to z 59) (up_to z 60) (up_to z 999999999) t)

unfoldable pub time_given : Choices → Time → Bool
time_given c t = and (clock_given c.edition t) (time_offset_given t.offset)
