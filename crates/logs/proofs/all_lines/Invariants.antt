-- Each turn takes a line, or the rest of the block.
use Prim.Native.Nat.{◌-◌}
use lib.ListN.{length}
use Rattle.logs.proofs.Along.{Along}
use Rattle.logs.proofs.all_lines.Given as goal

abbrev pub invariant-loop-used : goal.invariant-loop-used
invariant-loop-used l = Along l.initial.so_far l.block l.initial.table l.initial.kept l.table l.kept l.so_far l.used

abbrev pub decreases-loop-used : goal.decreases-loop-used
decreases-loop-used l = length l.block - l.used
