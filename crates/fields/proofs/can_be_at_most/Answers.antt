-- The loop goes on as `lowest` does; once it is past the greatest, it stays there.
use Rattle.std.proofs.Common.{◌≡◌, ◌+◌, ◌-◌, sym, ◌∙◌, arith}
use borrow.Author.Tests.{lt-leb}
use Rattle.parser.specs.Digits.{lowest}
use Rattle.parser.proofs.Fields.{lowest_step, lowest_grows}
use Rattle.fields.proofs.can_be_at_most.Goals as goal

pub returns-then-most-low : goal.returns-then-most-low
returns-then-most-low c =
    let l = c.loop in
    let left = c.args.left - l.counter in
    sym (lt-leb (lowest left l.low) c.args.hi (omega (arith, lowest_grows left l.low))) ∙ l.invariant

pub loop-preserved : goal.loop-preserved
loop-preserved c =
    let l = c.loop in
    let left = c.args.left - l.counter in
    let one_fewer : left - 1 ≡ c.args.left - (l.counter + 1) = omega arith in
    rw (← one_fewer, ← lowest_step left l.low (omega arith)) l.invariant

pub returns : goal.returns
unfolding lowest
returns c =
    let none_left : c.args.left - c.loop.counter ≡ 0 = omega arith in
    rw c.from-most.ensures (rw none_left at c.loop.invariant)
