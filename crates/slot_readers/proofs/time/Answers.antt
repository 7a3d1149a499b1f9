-- What the reader promises is what the slots hold.
use native.Mathlib.Omega.{arith}
use Rattle.slot_readers.proofs.Laws.{filled}
use Rattle.slot_readers.proofs.time.Goals as goal

pub returns : goal.returns
returns c = grind (arith, filled)
