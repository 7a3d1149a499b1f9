-- Below 0 the digits stand behind a minus.
use mathlib.Core.Bool.{true}
use mathlib.Core.List.{◌∷◌}
use mathlib.Core.Path.{◌≡◌, refl, sym}
use native.Mathlib.Omega.{arith}
use borrow.Author.Tests.{ltb-true}
use lib.IntN.{ℤ, pos, negsuc, nat_abs}
use lib.Signed.{lt_z}
use mir.Facts.{to_z-of_z}
use Rattle.text.specs.Text.{decimal}
use Rattle.text.proofs.Laws.{then_puts}
use Rattle.distances.specs.Distances.{signed}
use Rattle.distances.proofs.put_signed.Goals as goal

below : (z : ℤ) → lt_z z (pos 0) ≡ true → 45 ∷ decimal (nat_abs z) ≡ signed z
below (pos n) e = absurd (omega (arith, ltb-true n 0 e))
below (negsuc n) e = refl

pub returns-then-n-lt0 : goal.returns-then-n-lt0
returns-then-n-lt0 c =
    let is = to_z-of_z c.ranges.n in
    rw (sym (below c.args.n (rw is at c.if-n-lt0.true)), ← (rw is at c.unsigned_abs.ensures.value)) (then_puts c.put_byte-next.ensures c.put_decimal.ensures)
