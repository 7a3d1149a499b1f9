-- Each number fits, or is one that no reader gives.
use Rattle.text.proofs.Sizes.{read}
use Rattle.held.proofs.Made.{time_made}
use Rattle.held.proofs.time_of.Goals as goal

pub returns : goal.returns
returns c k =
    time_made k (rw (read c.ranges.hour) at c.natural.ensures) (rw (read c.ranges.minute) at c.natural-2.ensures) (rw (read c.ranges.second) at c.natural-3.ensures) (rw (read c.ranges.nanosecond) at c.natural-4.ensures) (rw (read c.ranges.digits) at c.natural-5.ensures)
    (rw (read c.ranges.given, read c.ranges.hours, read c.ranges.minutes) at c.time_offset_of.ensures)
