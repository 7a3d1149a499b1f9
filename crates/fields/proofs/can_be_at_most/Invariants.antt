-- The loop goes on as `lowest` does; once it is past the greatest, it stays there.
use Rattle.std.proofs.Common.{◌≡◌, ◌-◌, leb}
use Rattle.parser.specs.Digits.{lowest}
use Rattle.fields.proofs.can_be_at_most.Given as goal

abbrev pub invariant-loop : goal.invariant-loop
invariant-loop l = leb (lowest (l.left - l.counter) l.low) l.hi ≡ leb (lowest l.left l.value) l.hi
