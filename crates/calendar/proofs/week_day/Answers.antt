-- From 4 January back to a Monday, and on from there.
use native.Mathlib.Omega.{arith}
use mir.Facts.{to_z-of_z}
use Rattle.calendar.proofs.Dates.{week}
use Rattle.calendar.proofs.week_day.Goals as goal

pub returns : goal.returns
returns c =
    let y = rw (to_z-of_z c.ranges.year) at c.year_of-y.ensures in
    week y c.args.week c.args.day (omega arith) (omega arith)
