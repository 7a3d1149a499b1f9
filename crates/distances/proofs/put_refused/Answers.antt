-- The word, and the fault's number behind it.
use Rattle.text.proofs.Laws.{then_puts}
use Rattle.distances.proofs.put_refused.Goals as goal

pub returns : goal.returns
returns c =
    then_puts c.put-next.ensures (rw c.number.ensures at c.put_decimal.ensures)
