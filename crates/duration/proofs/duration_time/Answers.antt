-- The parts are read from the place behind the `T`, if there is one.
use Rattle.duration.proofs.Reading.{time_at_lem}
use Rattle.duration.proofs.duration_time.Goals as goal

pub returns : goal.returns
returns c = time_at_lem _ _ _ _ _ c.past-from.ensures c.duration_base_time.ensures
