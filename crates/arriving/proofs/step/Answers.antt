-- A piece is refused where it would make too many bytes. After i bytes of any other the state is what they make of it; behind a full one all
-- are only counted.
use Prim.Native.Nat.{◌+◌, ◌-◌}
use mathlib.Core.Path.{◌≡◌, sym, ap, ◌∙◌}
use native.Mathlib.Omega.{arith}
use lib.ListN.{length}
use borrow.Author.Tests.{le-leb}
use Rattle.shortening.specs.Sides.{has_sides}
use Rattle.arriving.proofs.Pushing.{counts, pushed_all, pushed_full, pushed_kept, pushed_run}
use Rattle.arriving.specs.Keeping.{pushes}
use Rattle.arriving.proofs.step.Goals as goal
use Rattle.arriving.proofs.step.Goals.{then-loop-i-test+else-state-lt-ROOM, else-loop-i-test}

pub loop-i-preserved-then-joined : goal.loop-i-preserved-then-joined
loop-i-preserved-then-joined c =
    let sides = c.has_sides-sides.ensures ∙ ap has_sides (sym c.loop-i.invariant.kind) in
    let mark = rw sides at c.next_mark-state.ensures in
    let joins = sym c.joins-joined.ensures ∙ c.if-joined.true in
    pushed_run _ _ _ _ c.loop-i.invariant c.loop-i-test.true c.if-state-lt-ROOM.true _ _ mark c.join.ensures joins _ c.run_end-end.ensures

pub loop-i-preserved : goal.loop-i-preserved
loop-i-preserved c =
    let sides = c.has_sides-sides.ensures ∙ ap has_sides (sym c.loop-i.invariant.kind) in
    let mark = rw sides at c.next_mark-state.ensures in
    pushed_kept _ _ _ _ c.loop-i.invariant c.loop-i-test.true _ mark c.if-state-lt-ROOM.true (sym c.joins-joined.ensures ∙ c.if-joined.false)

pub returns-clause-state : goal.returns-clause-state
returns-clause-state c =
    let a = c.args in
    let l = c.loop-i in
    let all : counts l.state (length a.piece.now - l.i) ≡ pushes a.state.now a.piece.now =
    elim c.loop-i-test.branch [
      | else-loop-i-test w ↦ pushed_all _ _ _ _ l.invariant w.loop-i-test.false
      | then-loop-i-test+else-state-lt-ROOM w ↦ pushed_full _ _ _ _ l.invariant w.if-state-lt-ROOM.false
    ] in
    rw (le-leb (a.state.now.accepted + length a.piece.now) 4294967295 (omega (arith, c.if-state-piece.false))) all
