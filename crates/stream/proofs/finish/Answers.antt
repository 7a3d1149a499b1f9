-- Nothing is held where the last line is empty, and else what is held is responded to.
use Rattle.stream.proofs.Laws.{finishes_empty, finishes_last}
use Rattle.stream.proofs.finish.Goals as goal

pub returns-then-n-eq0 : goal.returns-then-n-eq0
returns-then-n-eq0 c = finishes_empty c.args.program c.min-n.ensures c.if-n-eq0.true

pub returns : goal.returns
returns c = finishes_last c.args.program c.min-n.ensures c.if-n-eq0.false c.respond.ensures
