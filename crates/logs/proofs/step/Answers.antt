-- What is input of the block is taken, and no more.
use Rattle.logs.proofs.Steps.{steps}
use Rattle.logs.proofs.step.Goals as goal

pub returns : goal.returns
returns c =
    steps c.args.week _ _ c.min-taken.ensures c.min-n.ensures c.min.ensures c.all_lines.ensures
