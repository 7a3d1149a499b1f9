-- Each turn takes a line, or the rest of the block.
use Rattle.logs.proofs.Along.{goes_along}
use Rattle.logs.proofs.all_lines.Goals as goal

pub loop-used-preserved : goal.loop-used-preserved
loop-used-preserved c = goes_along _ _ _ _ c.loop-used.invariant c.loop-used-test.true c.one_line-one.ensures
