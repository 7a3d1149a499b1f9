-- After some turns the first bytes, as many as there were turns, are put as they print.
use lib.ListN.{take}
use Rattle.text.specs.Text.{Puts}
use Rattle.faults.specs.Faults.{printed}
use Rattle.faults.proofs.put_printed.Given as goal

abbrev pub invariant-loop-byte : goal.invariant-loop-byte
invariant-loop-byte l = Puts (printed (take l.byte-index l.s)) l.initial.out l.at l.out l.next
