-- At first nothing was handed over, and then a block more, or nothing.
use Rattle.std.proofs.Common.{arith}
use Rattle.week.proofs.Turns.{begins, goes_on}
use Rattle.week.proofs.all_turns.Goals as goal

pub loop-init : goal.loop-init
loop-init g c = begins c.no_counts.ensures c.start.ensures

pub loop-preserved : goal.loop-preserved
loop-preserved g c = goes_on (omega (arith, c.loop.auto.kept)) c.loop.invariant (rw c.in-Some.is at c.in_ok-next.ensures)
