-- Each turn puts a space.
use Rattle.std.proofs.lemmas.Grind.{replicate_next}
use Rattle.text.proofs.Laws.{then_puts}
use Rattle.faults.proofs.put_spaces.Goals as goal

pub loop-preserved : goal.loop-preserved
loop-preserved c = rw replicate_next (then_puts c.loop.invariant c.put_byte-next.ensures)
