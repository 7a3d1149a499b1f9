-- There is room for the text, and it is put at the front.
use mathlib.Core.Path.{sym, ◌∙◌}
use Rattle.writing.proofs.Laws.{put_writes}
use Rattle.date_writer.proofs.write_date.Goals as goal

pub returns : goal.returns
returns c = put_writes _ c.date_length.ensures (sym c.room_for.ensures ∙ c.in_ok-count.was) c.put_date.ensures
