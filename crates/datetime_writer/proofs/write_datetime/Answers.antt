-- There is room for the text, and it is put at the front.
use mathlib.Core.Path.{sym, ◌∙◌}
use Rattle.writing.proofs.Laws.{put_writes}
use Rattle.datetime_writer.proofs.write_datetime.Goals as goal

pub returns : goal.returns
returns c = put_writes _ c.datetime_length.ensures (sym c.room_for.ensures ∙ c.in_ok-count.was) c.put_datetime.ensures
