-- A date-time by its own measure; and some reader gives every duration of 64 bits.
use mathlib.Core.Path.{ap}
use borrow.Author.Rules.{rules}
use Rattle.std.specs.Prelude.{Some}
use Rattle.writing.proofs.Laws.{measures_is}
use Rattle.datetime_writer.proofs.Laws.{date_time_spells}
use Rattle.duration_writer.proofs.Within.{within_given}
use Rattle.interval_writer.proofs.side_length.Goals as goal

pub returns-in-Stamp : goal.returns-in-Stamp
returns-in-Stamp c = rw c.in-Stamp.is (measures_is (date_time_spells _) c.datetime_length.ensures)

pub returns-in-Span : goal.returns-in-Span
returns-in-Span c = rw (c.in-Span.is, within_given c.in-Span.d (search rules)) (ap Some c.duration_length.ensures)
