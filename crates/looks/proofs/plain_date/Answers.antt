-- The numbers of two digits are at most 99.
use mathlib.Core.Path.{sym, ◌∙◌}
use native.Mathlib.Omega.{arith}
use Rattle.looks.proofs.Two.{two_most}
use Rattle.looks.proofs.plain_date.Goals as goal

pub overflow_mul-century : goal.overflow_mul-century
overflow_mul-century c = omega (arith, two_most _ _ _ _ _ (sym c.in_ok-century.was ∙ c.two_digits.ensures))

pub overflow_add-century : goal.overflow_add-century
overflow_add-century c =
    omega (arith, two_most _ _ _ _ _ (sym c.in_ok-century.was ∙ c.two_digits.ensures), two_most _ _ _ _ _ (sym c.in_ok-rest.was ∙ c.two_digits-2.ensures))

pub overflow_cast-century : goal.overflow_cast-century
overflow_cast-century c =
    omega (arith, two_most _ _ _ _ _ (sym c.in_ok-century.was ∙ c.two_digits.ensures), two_most _ _ _ _ _ (sym c.in_ok-rest.was ∙ c.two_digits-2.ensures))
