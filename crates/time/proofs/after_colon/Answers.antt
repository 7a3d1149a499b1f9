-- The number, and then the test of it.
use mathlib.Core.Bool.{false}
use Rattle.parser.proofs.Passed.{passed_exact}
use Rattle.time.proofs.Zero.{zero_missed, zero_passes, zero_refuses}
use Rattle.time.proofs.after_colon.Goals as goal

pub returns-in_err-number : goal.returns-in_err-number
returns-in_err-number c =
    let a = c.args in
    passed_exact _ _ c.from_residual.ensures.1 (zero_missed a.zero a.hi a.s.now a.at _ c.in_err-number.ensures)

pub returns-then-number-ne0 : goal.returns-then-number-ne0
returns-then-number-ne0 c =
    let a = c.args in
    zero_refuses a.zero a.hi a.s.now a.at _ _ false c.if-zero.true c.if-number-ne0.true c.in_ok-number.ensures

pub returns : goal.returns
returns c =
    let a = c.args in
    zero_passes a.zero a.hi a.s.now a.at _ _ false c.else-zero.either c.in_ok-number.ensures
