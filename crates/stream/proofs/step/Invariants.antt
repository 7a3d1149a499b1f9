-- Each turn takes a line or the rest of the block, where there is room for its response.
use Prim.Native.Nat.{◌-◌}
use lib.ListN.{length}
use Rattle.stream.proofs.Sofar.{Sofar}
use Rattle.stream.proofs.step.Given as goal

abbrev pub invariant-loop-now : goal.invariant-loop-now
invariant-loop-now l = Sofar l.program l.held l.block l.from l.initial.kept l.initial.out l.kept l.out l.now.held l.now.used l.now.at

abbrev pub decreases-loop-now : goal.decreases-loop-now
decreases-loop-now l = length l.block - l.now.used
