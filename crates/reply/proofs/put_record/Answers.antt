-- Kind by kind.
use Rattle.text.proofs.Laws.{then_puts}
use Rattle.words.proofs.Laws.{text_append}
use Rattle.reply.proofs.put_record.Goals as goal

pub returns-in-Interval : goal.returns-in-Interval
returns-in-Interval c = rw (c.in-Interval.is, text_append) (then_puts (rw c.interval.ensures at c.put_words-next.ensures) c.put_sides.ensures)
