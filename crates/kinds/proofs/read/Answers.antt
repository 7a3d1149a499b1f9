-- Each kind's own beginning reader.
use Rattle.kinds.proofs.As.{begins_as}
use Rattle.kinds.proofs.read.Goals as goal

pub returns-in-Date : goal.returns-in-Date
returns-in-Date c = rw c.in-Date.is (begins_as _ (λ a b e. cc) _ _ _ _ _ c.any_read.ensures.answer c.any_read.ensures.verdict c.date.ensures)

pub returns-in-Time : goal.returns-in-Time
returns-in-Time c = rw c.in-Time.is (begins_as _ (λ a b e. cc) _ _ _ _ _ c.any_read-in-Time.ensures.answer c.any_read-in-Time.ensures.verdict c.time.ensures)

pub returns-in-Offset : goal.returns-in-Offset
returns-in-Offset c = rw c.in-Offset.is (begins_as _ (λ a b e. cc) _ _ _ _ _ c.any_read-in-Offset.ensures.answer c.any_read-in-Offset.ensures.verdict c.offset.ensures)

pub returns-in-Stamp : goal.returns-in-Stamp
returns-in-Stamp c = rw c.in-Stamp.is (begins_as _ (λ a b e. cc) _ _ _ _ _ c.any_read-in-Stamp.ensures.answer c.any_read-in-Stamp.ensures.verdict c.datetime.ensures)

pub returns-in-Duration : goal.returns-in-Duration
returns-in-Duration c = rw c.in-Duration.is (begins_as _ (λ a b e. cc) _ _ _ _ _ c.any_read-in-Duration.ensures.answer c.any_read-in-Duration.ensures.verdict c.duration.ensures)

pub returns-in-Interval : goal.returns-in-Interval
returns-in-Interval c = rw c.in-Interval.is (begins_as _ (λ a b e. cc) _ _ _ _ _ c.any_read-in-Interval.ensures.answer c.any_read-in-Interval.ensures.verdict c.interval.ensures)
