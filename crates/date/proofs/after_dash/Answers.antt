-- The first alternative, or the other: after one that was cut short it is open in any case.
use mathlib.Core.Bool.{true, false}
use mir.Facts.{to_z-of_z}
use Rattle.std.specs.declared.result.Result.TheVariants.{Err}
use Rattle.date.specs.Rules.{ordinal, month_and_day}
use Rattle.date.proofs.Dashed.{month_unstopped, says_month}
use Rattle.date.proofs.Missed.{says_alt_kept, says_opened}
use Rattle.date.proofs.after_dash.Goals as goal

pub returns-in-Err-Wrong : goal.returns-in-Err-Wrong
returns-in-Err-Wrong c =
    let a = c.args in
    let same = to_z-of_z c.ranges.year in
    says_month a.year a.s.now a.at false _ _ (rw (same, c.in-Err-Wrong.field-0-is) at c.in-Err-Wrong.ensures) (rw same at c.date_ymd.ensures)

pub returns-in-Err-Cut : goal.returns-in-Err-Cut
returns-in-Err-Cut c =
    let a = c.args in
    let same = to_z-of_z c.ranges.year in
    let later = rw same at c.date_ymd-in-Err-Cut.ensures in
    says_opened _ _ _ _ _ _ _ _ (month_unstopped a.year) later c.opened.ensures.found c.opened.ensures.more
    (says_month a.year a.s.now a.at true _ _ (rw (same, c.in-Err-Cut.field-0-is) at c.in-Err-Cut.ensures) later)

pub returns-in_default : goal.returns-in_default
returns-in_default c =
    let a = c.args in
    let same = to_z-of_z c.ranges.year in
    says_alt_kept (ordinal a.year) (month_and_day a.year) a.s.now a.at (Err _) (λ e. cc) (λ e. cc) (rw same at c.in_default.ensures)

pub returns-in_default-2 : goal.returns-in_default-2
returns-in_default-2 c =
    let a = c.args in
    let same = to_z-of_z c.ranges.year in
    says_alt_kept (ordinal a.year) (month_and_day a.year) a.s.now a.at _ (λ e. cc) (λ e. cc) (rw same at c.date_yddd.ensures)
