-- The word, and the number behind it.
use Rattle.text.proofs.Laws.{then_puts}
use Rattle.faults.proofs.put_reason.Goals as goal

pub returns-in-Early : goal.returns-in-Early
returns-in-Early c = rw c.in-Early.is (then_puts c.put-next.ensures c.put_decimal.ensures)

pub returns-in-Bad : goal.returns-in-Bad
returns-in-Bad c = rw c.in-Bad.is (then_puts c.put-next-in-Bad.ensures c.put_decimal-in-Bad.ensures)
