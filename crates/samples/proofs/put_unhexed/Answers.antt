-- A pair more is put.
use mathlib.Core.Path.{◌∙◌}
use Rattle.samples.proofs.Laws.{left_less, left_none}
use Rattle.samples.proofs.put_unhexed.Goals as goal

pub loop-pair-preserved : goal.loop-pair-preserved
loop-pair-preserved c =
    let before = c.loop-pair.invariant in
    let step = c.in-Some.ensures.steps in
    (step.0 ∙ before.0, left_less before.1 c.in-Some.pair.now _ step.1.0 (step.1.1 ∙ before.0) (rw (c.nibble.ensures.value, c.nibble-in-loop-pair.ensures.value) at c.put_byte-next.ensures))

pub returns : goal.returns
returns c = left_none c.loop-pair.invariant.1 (rw c.loop-pair.invariant.0 at c.in-None.ensures.steps.1.0)
