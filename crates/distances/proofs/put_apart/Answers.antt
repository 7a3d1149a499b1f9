-- The seconds, a space and the nanoseconds, one behind the other.
use mir.Syntax.{w64}
use mir.Val.{SFits}
use mir.Facts.{to_z-of_z}
use borrow.Author.Rules.{rules}
use Rattle.text.proofs.Laws.{then_puts}
use Rattle.distances.proofs.put_apart.Goals as goal

pub returns-in-Ok : goal.returns-in-Ok
returns-in-Ok c =
    let fits : SFits w64 c.in-Ok.apart.seconds = search rules in
    rw c.in-Ok.is (then_puts (rw (to_z-of_z fits) at c.put_signed-next.ensures) (then_puts c.put_byte-next.ensures c.put_decimal.ensures))
