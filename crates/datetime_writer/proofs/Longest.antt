-- "The longest date-time is 36 bytes."
use Prim.Native.Nat.{◌≤◌}
use mathlib.Core.Path.{◌≡◌, refl}
use native.Mathlib.Omega.{arith}
use lib.IntN.{negsuc}
use lib.ListN.{length}
use Rattle.types.specs.declared.DateTime.{DateTime}
use Rattle.types.specs.declared.Date.TheVariants.{YMD}
use Rattle.std.specs.declared.option.Option.TheVariants.{Some}
use Rattle.writing.specs.Spelling.{padded, shift_spelling, offset_spelling, clock_spelling, fraction_spelling, time_offset_spelling, time_spelling, year_spelling, date_spelling, date_time_spelling}
use Rattle.date_writer.proofs.Lengths.{date_short}
use Rattle.time_writer.proofs.Lengths.{time_short}
use Rattle.datetime_writer.proofs.Laws.{size_is}

pub longest_stamp : (x : DateTime) → length (date_time_spelling x) ≤ 36
longest_stamp x = omega (arith, size_is x, date_short x.date, time_short x.time)

-- `-9999-12-31T23:59:60.123456789-23:59`
unfoldable pub last_stamp : DateTime
last_stamp = record {
  date = YMD (negsuc 9998) 12 31;
  time = record { hour = 23; minute = 59; second = 60; nanosecond = 123456789; digits = 9; offset = Some (record { hours = negsuc 22; minutes = negsuc 58 }) };
}

pub longest_reached : length (date_time_spelling last_stamp) ≡ 36
unfolding last_stamp date_time_spelling date_spelling year_spelling time_spelling clock_spelling fraction_spelling time_offset_spelling offset_spelling shift_spelling padded
longest_reached = refl
