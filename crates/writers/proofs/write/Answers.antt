-- Kind by kind, what its own writer promises.
use Rattle.kinds.specs.declared.answer.Record.TheVariants as record_of
use Rattle.writers.proofs.As.{writes_as}
use Rattle.writers.proofs.write.Goals as goal

pub returns-in-Date : goal.returns-in-Date
returns-in-Date c = rw c.in-Date.is (writes_as record_of.Date (λ a b e. cc) c.write_date.ensures)

pub returns-in-Time : goal.returns-in-Time
returns-in-Time c = rw c.in-Time.is (writes_as record_of.Time (λ a b e. cc) c.write_time.ensures)

pub returns-in-Offset : goal.returns-in-Offset
returns-in-Offset c = rw c.in-Offset.is (writes_as record_of.Offset (λ a b e. cc) c.write_offset.ensures)

pub returns-in-Stamp : goal.returns-in-Stamp
returns-in-Stamp c = rw c.in-Stamp.is (writes_as record_of.Stamp (λ a b e. cc) c.write_datetime.ensures)

pub returns-in-Duration : goal.returns-in-Duration
returns-in-Duration c = rw c.in-Duration.is (writes_as record_of.Duration (λ a b e. cc) c.write_duration.ensures)

pub returns-in-Interval : goal.returns-in-Interval
returns-in-Interval c = rw c.in-Interval.is (writes_as record_of.Interval (λ a b e. cc) c.write_interval.ensures)
