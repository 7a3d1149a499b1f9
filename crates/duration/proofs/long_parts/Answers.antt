-- Each part is tried at the place that the one before it left, and what stands there is known.
use Rattle.duration.proofs.Whole.{parts_made, date_tried}
use Rattle.duration.proofs.long_parts.Goals as goal

pub returns : goal.returns
returns c =
    let s = c.args.s.now in
    let date = date_tried s _ _ _ _ _ _ c.duration_item.ensures c.duration_part-years.ensures c.duration_part-months.ensures c.duration_part-weeks.ensures c.duration_part-days.ensures in
    rw c.all_parts.ensures.more (parts_made s _ _ _ _ _ date c.duration_time.ensures c.all_parts.ensures.found)
