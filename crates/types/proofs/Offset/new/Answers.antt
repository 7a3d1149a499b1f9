-- The signs are what `with_sign` says.
use mathlib.Core.Path.{◌≡◌}
use native.Mathlib.Omega.{arith}
use borrow.Author.Rules.{rules}
use borrow.Author.Tests.{le-leb}
use mir.Syntax.{w32}
use mir.Val.{to_z, of_z}
use mir.Facts.{to_z-of_z}
use Rattle.types.specs.Sums.{made}
use Rattle.types.proofs.Offset.new.Goals as goal

pub returns : goal.returns
unfolding made
returns c =
    let h : to_z w32 (of_z w32 c.with_sign.result) ≡ c.with_sign.result = to_z-of_z {w = w32} (search rules) in
    let m : to_z w32 (of_z w32 c.with_sign-2.result) ≡ c.with_sign-2.result = to_z-of_z {w = w32} (search rules) in
    let a = c.args in
    rw (h, m, c.with_sign.ensures, c.with_sign-2.ensures, le-leb a.hours 23 (omega arith), le-leb a.minutes 59 (omega arith))
