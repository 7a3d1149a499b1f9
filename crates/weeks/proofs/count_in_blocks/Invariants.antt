-- Each turn hands over a block more.
use Rattle.std.specs.Slice.Iter.{chunks_rest}
use Rattle.weeks.proofs.Along.{Along}
use Rattle.weeks.proofs.count_in_blocks.Given as goal

abbrev pub invariant-loop-block : goal.invariant-loop-block
invariant-loop-block l = Along l.log l.kept l.table l.week (chunks_rest l.block-iterator)
