-- The loop goes on as `highest` does; once it has reached the least, it stays there.
use Rattle.std.proofs.Common.{◌≡◌, ◌-◌, leb}
use Rattle.parser.specs.Digits.{highest}
use Rattle.fields.proofs.can_be_at_least.Given as goal

abbrev pub invariant-loop : goal.invariant-loop
invariant-loop l = leb l.lo (highest (l.left - l.counter) l.high) ≡ leb l.lo (highest l.left l.value)
