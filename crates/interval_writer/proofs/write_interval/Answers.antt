-- A short buffer stays as it was; with room, the text is put at the front.
use mathlib.Core.Path.{sym, ◌∙◌}
use native.Mathlib.Omega.{arith}
use Rattle.writing.proofs.Laws.{refused_writes, put_writes}
use Rattle.interval_writer.proofs.write_interval.Goals as goal

pub returns-in_err-count : goal.returns-in_err-count
returns-in_err-count c = grind (arith, refused_writes)

pub returns : goal.returns
returns c = put_writes _ c.interval_length.ensures (sym c.room_for.ensures ∙ c.in_ok-count.was) c.put_interval.ensures
