-- The sign of a number, as code tells it by a comparison with 0.
use mathlib.Core.Bool.{Bool, true, false}
use mathlib.Core.Path.{◌≡◌, refl}
use native.Mathlib.Omega.{arith}
use borrow.Author.Tests.{ltb-true}
use lib.IntN.{ℤ, pos, negsuc}
use lib.Signed.{lt_z}
use Rattle.writing.specs.Spelling.{negative}

pub negative_is : (z : ℤ) (t : Bool) → lt_z z (pos 0) ≡ t → negative z ≡ t
negative_is (pos n) true e = absurd (omega (arith, ltb-true n 0 e))
negative_is (pos n) false e = refl
negative_is (negsuc n) t e = e
