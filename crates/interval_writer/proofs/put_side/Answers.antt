-- What a date-time's writer puts into what is lent is put from the place on.
use native.Mathlib.Omega.{arith}
use Rattle.text.proofs.Laws.{puts_lent, puts_within}
use Rattle.interval_writer.proofs.put_side.Goals as goal

pub returns-in-Stamp : goal.returns-in-Stamp
returns-in-Stamp c = rw c.in-Stamp.is (puts_lent c.args.out.now c.args.at c.requires c.put_datetime.ensures)

pub overflow_add-result : goal.overflow_add-result
overflow_add-result c = let inside = puts_within c.put_datetime.ensures in record { fits = omega arith }
