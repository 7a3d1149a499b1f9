-- After some turns the first bytes, as many as there were turns, are put.
use lib.ListN.{take}
use Rattle.text.specs.Text.{Puts}
use Rattle.text.proofs.put.Given as goal

abbrev pub invariant-loop-byte : goal.invariant-loop-byte
invariant-loop-byte l = Puts (take l.byte-index l.bytes) l.initial.out l.at l.out l.next
