-- The first byte that is no 0 ends the zeros.
use Prim.Native.Nat.{ℕ}
use mathlib.Core.Path.{◌≡◌, refl, ◌∙◌}
use native.Mathlib.Omega.{arith}
use lib.ListN.{drop, length-drop}
use lib.Seq.{take_all}
use borrow.Author.Rules.{rules}
use borrow.Author.Tests.{tests}
use Rattle.std.proofs.lemmas.Iterator.{IsFirst-from_position, YieldsList-from_slice, index_from_first}
use Rattle.arriving.specs.Keeping.{zero_run}
use Rattle.arriving.proofs.Pushing.{zero_none, zero_more}
use Rattle.arriving.proofs.run_end.Goals as goal

abbrev Zero : ℕ → Type 0
Zero b = b ≡ 48

abbrev Other : ℕ → Type 0
Other b = b ≡ 48 → ⊥

pub returns : goal.returns
unfolding zero_run
returns c =
    let rest = c.iter.result.rest.now in
    let first = IsFirst-from_position _ _ c.position.result Other Zero c.position.ensures.ran (YieldsList-from_slice rest refl) (λ x q k. search (rules, tests)) (λ x q k. search (rules, tests)) in
    let zeros = index_from_first zero_run Other Zero refl zero_none zero_more rest c.position.result first in
    let is : rest ≡ drop c.args.i c.args.piece.now = c.iter.ensures.rest ∙ take_all _ (drop c.args.i c.args.piece.now) (omega (arith, length-drop c.args.i c.args.piece.now)) in
    grind (arith, zeros, is)
