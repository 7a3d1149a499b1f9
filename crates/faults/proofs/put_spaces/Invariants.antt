-- After some turns as many spaces are put.
use lib.ListN.{replicate}
use Rattle.text.specs.Text.{Puts}
use Rattle.faults.proofs.put_spaces.Given as goal

abbrev pub invariant-loop : goal.invariant-loop
invariant-loop l = Puts (replicate l.counter 32) l.initial.out l.at l.out l.next
