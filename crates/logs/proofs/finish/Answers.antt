-- Nothing is held where the last line is empty, and else what is held is counted too.
use Rattle.logs.proofs.Steps.{ends_none, ends_last}
use Rattle.logs.proofs.finish.Goals as goal

pub returns-then-n-eq0 : goal.returns-then-n-eq0
returns-then-n-eq0 c =
    ends_none c.args.week c.args.table _ c.min-n.ensures c.if-n-eq0.true c.put_week.ensures

pub returns : goal.returns
returns c =
    let puts = rw (c.count.ensures, c.with_line-last.ensures, c.see-line.ensures) at c.put_week-2.ensures in
    ends_last c.args.week c.args.table _ c.min-n.ensures c.if-n-eq0.false puts
