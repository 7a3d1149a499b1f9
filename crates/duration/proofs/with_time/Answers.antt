-- Without a part of a time, and with some; a long run is left to the other reader.
use Rattle.std.proofs.Common.{◌∙◌}
use Rattle.duration.proofs.Whole.{without_time, with_seconds, with_time}
use Rattle.duration.proofs.with_time.Goals as goal

pub returns-then-start-eq-NONE : goal.returns-then-start-eq-NONE
returns-then-start-eq-NONE c =
    rw (c.date_parts.ensures.more ∙ c.is_open.ensures) (without_time c.args.s.now _ _ _ c.requires.1 _ c.time_start-start.ensures _ c.if-start-eq-NONE.true c.date_parts.ensures.found)

pub returns-then-minutes-seconds : goal.returns-then-minutes-seconds
returns-then-minutes-seconds c =
    rw (c.record_of.ensures, c.time_of.ensures) (with_seconds c.args.s.now _ _ _ c.requires.1 _ c.time_start-start.ensures _ _ _ c.short_part-hours.ensures c.short_part-minutes.ensures c.short_part-seconds.ensures c.if-minutes-seconds.true)

pub returns : goal.returns
returns c =
    let k = c.all_parts.ensures in
    let t = c.some_time.ensures in
    rw (k.more ∙ t.more ∙ c.is_open-more.ensures) (with_time c.args.s.now _ _ _ c.requires.1 _ c.time_start-start.ensures _ _ _ c.short_part-hours.ensures c.short_part-minutes.ensures c.short_part-seconds.ensures c.if-minutes-eq-LONG.false _ (rw t.found at k.found))
