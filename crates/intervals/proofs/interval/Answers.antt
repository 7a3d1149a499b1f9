-- What the code says of the rule is the promise, by the laws of the kind.
use Rattle.interval.proofs.Laws.{interval_begins}
use Rattle.intervals.proofs.interval.Goals as goal

pub returns : goal.returns
returns c =
    let a = c.args in
    rw (c.begun.ensures.answer, c.begun.ensures.verdict) (interval_begins a.choices a.s.now _ _ c.interval_at.ensures)
