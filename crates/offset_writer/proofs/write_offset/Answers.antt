-- There is room for the text, and it is put at the front.
use mathlib.Core.Path.{sym, ◌∙◌}
use Rattle.writing.proofs.Laws.{put_writes}
use Rattle.offset_writer.proofs.write_offset.Goals as goal

pub returns : goal.returns
returns c = put_writes _ c.offset_length.ensures (sym c.room_for.ensures ∙ c.in_ok-count.was) c.put_offset.ensures
