-- Each turn hands over a block more.
use Rattle.week.specs.Turns.{Handed}
use Rattle.week.proofs.all_turns.Given as goal

abbrev pub invariant-loop : goal.invariant-loop
invariant-loop g l = Handed l.table l.kept l.so_far
