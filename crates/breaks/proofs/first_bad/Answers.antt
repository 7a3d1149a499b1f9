-- Each turn halves the part in which the text breaks.
use Rattle.breaks.proofs.Laws.{breaks_between}
use Rattle.breaks.proofs.first_bad.Goals as goal

pub loop-high-init : goal.loop-high-init
loop-high-init c = breaks_between _ _ c.requires
