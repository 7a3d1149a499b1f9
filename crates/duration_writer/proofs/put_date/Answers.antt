-- The four parts are put one behind the other.
use Rattle.text.proofs.Laws.{then_puts}
use Rattle.writing.specs.Spelling.{date_parts}
use Rattle.duration_writer.proofs.put_date.Goals as goal

pub returns : goal.returns
unfolding date_parts
returns c =
    then_puts (then_puts (then_puts c.put_part-next.ensures c.put_part-next-2.ensures) c.put_part-next-3.ensures) c.put_part.ensures
