-- Each turn takes a line or the rest of the block, where there is room for its response.
use native.Mathlib.Omega.{arith}
use Rattle.stream.proofs.Sofar.{starts, goes_on}
use Rattle.stream.proofs.step.Goals as goal

pub loop-now-init : goal.loop-now-init
loop-now-init c = starts _ _ _ _ _ _ _ c.min.ensures

pub loop-now-preserved : goal.loop-now-preserved
loop-now-preserved c = goes_on _ _ _ _ _ _ c.loop-now.invariant c.loop-now-test.true (omega (arith, c.if-out-now-ge-ROOM.true, c.loop-now.invariant.fits)) c.one_line-now.ensures
