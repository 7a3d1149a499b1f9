-- After some pairs what is left to put makes the same output.
use Rattle.std.proofs.Common.{◌≡◌}
use Rattle.samples.proofs.Laws.{Left}
use Rattle.samples.proofs.put_unhexed.Given as goal

abbrev pub invariant-loop-pair : goal.invariant-loop-pair
invariant-loop-pair l = (l.pair-iterator.size ≡ 2) × Left l.hex l.initial.out l.at l.out l.next l.pair-iterator.rest.now
