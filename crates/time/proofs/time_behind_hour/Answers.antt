-- By what the minutes are, and where there are none, by the reading.
use Rattle.std.proofs.Common.{rules}
use Rattle.time.proofs.Behind.{behind_kept, behind_fraction}
use Rattle.time.proofs.time_behind_hour.Goals as goal

pub returns-in-Standard-Err-Wrong : goal.returns-in-Standard-Err-Wrong
returns-in-Standard-Err-Wrong c =
    let a = c.args in
    behind_fraction a.zero a.s.now a.at a.reading _ _ _ (search rules) (search rules) c.time_minute_second_millisecond-clock.ensures c.time_fraction.ensures

pub returns-in_default : goal.returns-in_default
returns-in_default c =
    let a = c.args in
    behind_kept a.zero a.s.now a.at a.reading _ (λ e d. search rules) c.time_minute_second_millisecond-clock.ensures

pub returns-in_default-2 : goal.returns-in_default-2
returns-in_default-2 c =
    let a = c.args in
    behind_kept a.zero a.s.now a.at a.reading _ (λ e d. search rules) c.time_minute_second_millisecond-clock.ensures

pub returns-in_default-3 : goal.returns-in_default-3
returns-in_default-3 c =
    let a = c.args in
    behind_kept a.zero a.s.now a.at a.reading _ (λ e d. search rules) c.time_minute_second_millisecond-clock.ensures
