-- Each step uses some of the block, since the output has room for a response.
use Rattle.std.proofs.Common.{length, ◌-◌}
use Rattle.filter.proofs.Along.{Along}
use Rattle.filter.proofs.Filter.serve.Given as goal

abbrev pub invariant-loop-used : goal.invariant-loop-used
invariant-loop-used g l = Along l.program l.fn.buffers l.block l.buffers l.used

abbrev pub decreases-loop-used : goal.decreases-loop-used
decreases-loop-used g l = length l.block - l.used
