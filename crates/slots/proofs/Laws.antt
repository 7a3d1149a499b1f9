-- How many slots a record takes whose kind has cases.
use mathlib.Core.List.{[], ◌∷◌}
use mathlib.Core.Path.{◌≡◌, refl}
use native.Mathlib.Omega.{arith}
use lib.IntN.{pos}
use lib.ListN.{length, length-append}
use Rattle.types.specs.declared.Time.{Time}
use Rattle.types.specs.declared.Offset.{Offset}
use Rattle.std.specs.declared.option.Option.{Option}
use Rattle.std.specs.declared.option.Option.TheVariants.{None, Some}
use Rattle.types.specs.declared.Date.{Date}
use Rattle.types.specs.declared.Date.TheVariants.{YMD, Week, Ordinal}
use Rattle.slots.specs.Slots.{time_offset_slots, time_slots, date_slots}

offset_length_lem : (o : Option Offset) → length (time_offset_slots o) ≡ 3
offset_length_lem None = refl
offset_length_lem (Some o) = refl

pub time_length_lem : (t : Time) → length (time_slots t) ≡ 8
time_length_lem t = omega (arith, length-append (time_offset_slots t.offset) (pos t.digits ∷ []), offset_length_lem t.offset)

pub date_length_lem : (d : Date) → length (date_slots d) ≡ 4
date_length_lem (YMD y m d) = refl
date_length_lem (Week y w d) = refl
date_length_lem (Ordinal y d) = refl
