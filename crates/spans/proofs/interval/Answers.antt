-- What the reader promises is what the slots hold.
use native.Mathlib.Omega.{arith}
use borrow.Author.Rules.{rules}
use Rattle.interval.proofs.Laws.{interval_bounded}
use Rattle.slot_readers.proofs.Laws.{begins}
use Rattle.spans.proofs.interval.Goals as goal

pub returns : goal.returns
returns c = begins (interval_bounded _) (omega arith) c.interval-read.ensures (search rules) c.put_answer.ensures
