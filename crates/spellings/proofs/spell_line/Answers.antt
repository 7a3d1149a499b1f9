-- What is said, and the byte that ends it.
use Rattle.text.proofs.Laws.{then_puts}
use Rattle.spellings.proofs.spell_line.Goals as goal

pub returns : goal.returns
returns c = then_puts c.spell-next.ensures c.put_byte.ensures
