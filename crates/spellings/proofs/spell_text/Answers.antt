-- What the whole reader tells fixes what is said.
use mathlib.Core.Path.{sym}
use Rattle.text.proofs.Laws.{then_puts}
use Rattle.spellings.proofs.Laws.{whole_readable}
use Rattle.spellings.proofs.spell_text.Goals as goal

pub put_spelling-requires : goal.put_spelling-requires
put_spelling-requires c = rw c.choices.ensures (whole_readable c.args.kind c.args.s.now _ c.in-Ok.record.count (sym c.in-Ok.ensures))

pub returns-in-Err : goal.returns-in-Err
returns-in-Err c = rw (← c.in-Err.ensures) (then_puts c.put-next.ensures (rw c.number.ensures at c.put_decimal.ensures))
