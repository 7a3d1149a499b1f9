-- The field's number is small enough to be negated.
use native.Mathlib.Omega.{arith}
use mathlib.Core.Path.{◌≡◌, sym}
use mir.Syntax.{w32}
use mir.Val.{to_z, of_z}
use mir.Facts.{to_z-of_z}
use Rattle.types.specs.Sums.{with_sign}
use Rattle.parser.specs.Digits.{field}
use Rattle.parser.proofs.Leaves.{field_within}
use Rattle.parser.proofs.Says.{says_map}
use Rattle.parser.proofs.Passed.{passed_exact, says_map_missed}
use borrow.Author.Rules.{rules}
use Rattle.date.proofs.digits_of_year.Goals as goal

pub returns-in_err-number : goal.returns-in_err-number
returns-in_err-number c =
    let a = c.args in
    passed_exact _ _ c.from_residual.ensures.1 (says_map_missed (field 4 100 9999) a.s.now a.at (with_sign a.minus) _ c.in_err-number.ensures)

pub overflow_cast-number : goal.overflow_cast-number
overflow_cast-number c =
    let a = c.args in
    omega (arith, field_within 4 100 9999 a.s.now a.at _ _ (sym c.in_ok-number.ensures.found))

pub returns : goal.returns
returns c =
    let a = c.args in
    let same : to_z w32 (of_z w32 c.with_sign.result) ≡ c.with_sign.result = to_z-of_z {w = w32} (search rules) in
    rw (same, c.with_sign.ensures) (says_map (field 4 100 9999) a.s.now a.at (with_sign a.minus) _ _ c.in_ok-number.ensures)
