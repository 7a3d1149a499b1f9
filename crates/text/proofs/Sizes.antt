-- A signed number that fits, as code of any width computes with it.
use mathlib.Core.Path.{◌≡◌}
use lib.IntN.{ℤ}
use mir.Syntax.{Width}
use mir.Val.{SFits, to_z, of_z}
use mir.Facts.{to_z-of_z}

pub read : {w : Width} {n : ℤ} → SFits w n → to_z w (of_z w n) ≡ n
read h = to_z-of_z h
