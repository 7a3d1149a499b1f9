-- Each part is tried at the place that the one before it left, and what stands there is known.
use Rattle.duration.proofs.Reading.{time_tried}
use Rattle.duration.proofs.duration_base_time.Goals as goal

pub returns : goal.returns
returns c =
    rw (c.time_parts.ensures.found, c.time_parts.ensures.more)
    (time_tried c.args.s.now c.args.at _ _ _ _ c.requires c.duration_part-hours.ensures c.duration_part-minutes.ensures c.duration_part-seconds.ensures)
