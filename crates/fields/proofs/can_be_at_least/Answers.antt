-- The loop goes on as `highest` does; once it has reached the least, it stays there.
use Rattle.std.proofs.Common.{◌≡◌, ◌+◌, ◌-◌, sym, ◌∙◌, arith, le-leb}
use Rattle.parser.specs.Digits.{highest}
use Rattle.parser.proofs.Fields.{highest_step, highest_grows}
use Rattle.fields.proofs.can_be_at_least.Goals as goal

pub returns-then-least-high : goal.returns-then-least-high
returns-then-least-high c =
    let l = c.loop in
    let left = c.args.left - l.counter in
    sym (le-leb c.args.lo (highest left l.high) (omega (arith, highest_grows left l.high))) ∙ l.invariant

pub loop-preserved : goal.loop-preserved
loop-preserved c =
    let l = c.loop in
    let left = c.args.left - l.counter in
    let one_fewer : left - 1 ≡ c.args.left - (l.counter + 1) = omega arith in
    rw (← one_fewer, ← highest_step left l.high (omega arith)) l.invariant

pub returns : goal.returns
unfolding highest
returns c =
    let none_left : c.args.left - c.loop.counter ≡ 0 = omega arith in
    rw c.from-least.ensures (rw none_left at c.loop.invariant)
