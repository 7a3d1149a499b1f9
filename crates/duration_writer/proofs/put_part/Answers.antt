-- The digits and then the letter.
use native.Mathlib.Omega.{arith}
use Rattle.text.proofs.Laws.{then_puts}
use Rattle.duration_writer.proofs.Sizes.{part_some}
use Rattle.duration_writer.proofs.put_part.Goals as goal

pub returns : goal.returns
returns c =
    let args = c.args in
    rw (part_some args.n args.letter (omega arith)) (then_puts c.put_number-next.ensures c.put_byte.ensures)
