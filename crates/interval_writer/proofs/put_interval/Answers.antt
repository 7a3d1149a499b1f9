-- How often, and then the sides.
use Rattle.text.proofs.Laws.{then_puts, puts_within}
use Rattle.writing.specs.Spelling.{interval_spelling}
use Rattle.interval_writer.proofs.put_interval.Goals as goal

pub put_range-requires : goal.put_range-requires
put_range-requires c = puts_within c.put_repetitions-next.ensures

pub returns : goal.returns
unfolding interval_spelling
returns c = then_puts c.put_repetitions-next.ensures c.put_range.ensures
