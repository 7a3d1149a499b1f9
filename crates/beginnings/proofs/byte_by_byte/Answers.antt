-- The loop's state stands for the bytes up to its place.
use Prim.Native.Nat.{◌+◌}
use mathlib.Core.List.{[]}
use mathlib.Core.Path.{refl, ◌∙◌}
use native.Mathlib.Omega.{arith}
use lib.ListN.{take}
use Rattle.arriving.specs.Keeping.{started}
use Rattle.arriving.proofs.Stands.{start_stands}
use Rattle.beginnings.specs.Beginnings.{greatest}
use Rattle.beginnings.proofs.Counts.{greatest_more, Holds, counted, holds_byte}
use Rattle.beginnings.proofs.byte_by_byte.Goals as goal

pub loop-i-init : goal.loop-i-init
unfolding greatest
loop-i-init c =
    let k = c.args.kind in
    let h : Holds k [] (started k) = record { stands = start_stands k; kind = refl } in
    (rw c.start-state.ensures h, refl)

pub loop-i-preserved : goal.loop-i-preserved
loop-i-preserved c =
    let s = c.args.s.now in
    let k = c.start-state.result.kind in
    let h = holds_byte k s c.loop-i.i c.loop-i.state (omega (arith, c.min-i-end.ensures)) (omega (arith, c.min-i-end.ensures)) c.loop-i.invariant.0 in
    let holds : Holds k (take (c.loop-i.i + 1) s) c.step.new.state = rw c.step.ensures.state h in
    let count = c.count.ensures ∙ counted k (take (c.loop-i.i + 1) s) _ holds _ c.answer.ensures in
    (holds, omega (arith, c.max-most.ensures, count, c.loop-i.invariant.1, greatest_more k s c.loop-i.i))
