-- By the dash, which is read once for the four alternatives, and by the week, which is tried first.
use mir.Facts.{to_z-of_z}
use Rattle.std.specs.declared.result.Result.TheVariants.{Err}
use Rattle.date.proofs.Dash.{says_after_dash, says_no_dash, says_week}
use Rattle.std.proofs.Common.{arith}
use Rattle.date.proofs.after_year.Goals as goal

pub returns-in-Err-Wrong : goal.returns-in-Err-Wrong
returns-in-Err-Wrong c =
    let a = c.args in
    let same = to_z-of_z c.ranges.year in
    says_after_dash a.year a.s.now a.at _ c.past_sep-from.ensures _ _ c.if-at-from.true (rw (same, c.in-Err-Wrong.field-0-is) at c.in-Err-Wrong.ensures) (rw same at c.after_dash.ensures)

pub returns-in-Err-Wrong-2 : goal.returns-in-Err-Wrong-2
returns-in-Err-Wrong-2 c =
    let a = c.args in
    let same = to_z-of_z c.ranges.year in
    says_no_dash a.year a.s.now a.at _ c.past_sep-from.ensures _ _ c.if-at-from.false (rw (same, c.in-Err-Wrong.field-0-is) at c.in-Err-Wrong.ensures) (rw same at c.no_dash.ensures)

pub returns-in_default : goal.returns-in_default
returns-in_default c =
    let a = c.args in
    let same = to_z-of_z c.ranges.year in
    says_week a.year a.s.now a.at _ c.past_sep-from.ensures (Err _) (λ e. grind arith) (rw same at c.in_default.ensures)

pub returns-in_default-2 : goal.returns-in_default-2
returns-in_default-2 c =
    let a = c.args in
    let same = to_z-of_z c.ranges.year in
    says_week a.year a.s.now a.at _ c.past_sep-from.ensures _ (λ e. cc) (rw same at c.date_ywd.ensures)
