-- At the end nothing of the log is left.
use Rattle.weeks.proofs.Along.{ends}
use Rattle.weeks.proofs.count_in_blocks.Goals as goal

pub returns : goal.returns
returns c = ends _ c.loop-block.invariant c.in-None.ensures.steps.1.0 c.finish.ensures
