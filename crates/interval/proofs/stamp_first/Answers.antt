-- A date-time, and what stands behind it.
use Rattle.std.proofs.Common.{rules}
use Rattle.datetime.specs.Rules.{date_time}
use Rattle.interval.specs.Rules.{stamp}
use Rattle.parser.proofs.Passed.{passed_got}
use Rattle.interval.proofs.First.{slash_first, other_first, cut_first, missed_first}
use Rattle.interval.proofs.Telling.{says_untried}
use Rattle.interval.proofs.stamp_first.Goals as goal

pub returns-in_err-start : goal.returns-in_err-start
returns-in_err-start c =
    let a = c.args in
    passed_got _ _ c.from_residual.ensures.1 (missed_first a.choices a.s.now a.at _ c.in_err-start.ensures.no_form c.in_err-start.ensures.read)

pub returns-in-Ok : goal.returns-in-Ok
unfolding stamp
returns-in-Ok c =
    let a = c.args in
    slash_first a.choices a.s.now a.at _ _ _ _ _ _ (says_untried (date_time a.choices) a.s.now a.at _ _ _ c.in_ok-start.ensures.read) c.in-Ok.ensures c.after_start.ensures

pub returns-in-Err-Wrong : goal.returns-in-Err-Wrong
unfolding stamp
returns-in-Err-Wrong c =
    let a = c.args in
    rw (c.no_range.ensures.found, c.no_range.ensures.more, c.goes_on.ensures) (other_first a.choices a.s.now a.at _ _ _ (says_untried (date_time a.choices) a.s.now a.at _ _ _ c.in_ok-start.ensures.read) (rw c.in-Err-Wrong.field-0-is at c.in-Err-Wrong.ensures))

pub returns-in-Err : goal.returns-in-Err
unfolding stamp
returns-in-Err c =
    let a = c.args in
    cut_first a.choices a.s.now a.at _ _ _ _ (search rules) (says_untried (date_time a.choices) a.s.now a.at _ _ _ c.in_ok-start.ensures.read) c.in-Err.ensures
