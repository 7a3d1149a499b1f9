-- The numbers of two digits are at most 99.
use mathlib.Core.Path.{sym, ◌∙◌}
use native.Mathlib.Omega.{arith}
use Rattle.looks.proofs.Two.{two_most}
use Rattle.looks.proofs.plain_signed.Goals as goal

pub plain_shift-requires : goal.plain_shift-requires
plain_shift-requires c =
    let h = two_most _ _ _ _ _ (sym c.in-Some-Some.is-0 ∙ c.two_digits-hour.ensures) in
    let m = two_most _ _ _ _ _ (sym c.in-Some-Some.is-1 ∙ c.two_digits-minute.ensures) in
    (omega (arith, h), omega (arith, m))
