-- The numbers of two digits are at most 99.
use mathlib.Core.Path.{sym, ◌∙◌}
use native.Mathlib.Omega.{arith}
use Rattle.looks.proofs.Two.{two_most}
use Rattle.looks.proofs.plain_millisecond.Goals as goal

pub overflow_mul-result : goal.overflow_mul-result
overflow_mul-result c = omega (arith, two_most _ _ _ _ _ (sym c.in_ok-tenths.was ∙ c.two_digits.ensures))

pub overflow_add-result : goal.overflow_add-result
overflow_add-result c =
    omega (arith, two_most _ _ _ _ _ (sym c.in_ok-tenths.was ∙ c.two_digits.ensures), two_most _ _ _ _ _ (sym c.in_ok-rest.was ∙ c.two_digits-2.ensures))
