-- Each part is tried at the place that the one before it left, by the look there.
use Rattle.duration.proofs.Whole.{date_made}
use Rattle.duration.proofs.duration_parts.Goals as goal

pub with_time-requires : goal.with_time-requires
with_time-requires c =
    let d = c.short_part-days.ensures in
    (d.behind, date_made _ _ _ _ _ _ _ c.short_part-years.ensures c.short_part-months.ensures c.short_part-weeks.ensures d)
