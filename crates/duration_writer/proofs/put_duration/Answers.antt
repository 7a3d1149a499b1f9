-- `P` and then the date parts and the time parts.
use Rattle.text.proofs.Laws.{then_puts}
use Rattle.writing.specs.Spelling.{duration_spelling}
use Rattle.duration_writer.proofs.put_duration.Goals as goal

pub returns : goal.returns
unfolding duration_spelling
returns c = rw (← c.is_zero.ensures, c.if-is_zero.false) (then_puts c.put_byte-next.ensures (then_puts c.put_date-next.ensures c.put_time.ensures))
