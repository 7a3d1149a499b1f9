-- The text, its end, the spaces and the mark, one behind the other.
use Rattle.text.proofs.Laws.{then_puts}
use Rattle.faults.proofs.draw.Goals as goal

pub returns : goal.returns
returns c = then_puts (then_puts (then_puts c.put_printed-next.ensures c.put_byte-next.ensures) c.put_spaces-next.ensures) c.put.ensures
