-- By the month, the day, and the days between the month's first and the next one's.
use native.Mathlib.Omega.{arith}
use mir.Facts.{to_z-of_z}
use Rattle.calendar.proofs.Dates.{late, calendar}
use Rattle.calendar.proofs.calendar_day.Goals as goal

pub returns-then-to-from : goal.returns-then-to-from
returns-then-to-from c =
    let y = rw (to_z-of_z c.ranges.year) at c.year_of-y.ensures in
    late y c.args.month c.args.day c.before_month-from.result c.before_month-to.result c.before_month-from.ensures c.before_month-to.ensures c.if-to-from.true

pub returns : goal.returns
returns c =
    let y = rw (to_z-of_z c.ranges.year) at c.year_of-y.ensures in
    calendar y c.args.month c.args.day c.before_month-from.result c.before_month-to.result c.before_month-from.ensures c.before_month-to.ensures (omega arith) c.if-to-from.false
