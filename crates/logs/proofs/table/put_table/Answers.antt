-- Five rows, one behind the other.
use Rattle.text.proofs.Laws.{then_puts}
use Rattle.logs.specs.Table.{table_text}
use Rattle.logs.proofs.table.put_table.Goals as goal

pub returns : goal.returns
unfolding table_text
returns c =
    then_puts (then_puts (then_puts (then_puts c.put_row-next.ensures c.put_row-next-2.ensures) c.put_row-next-3.ensures) c.put_row-next-4.ensures) c.put_row.ensures
