-- The loop goes along the run. A number past the limit ends it early, since no digit brings it back.
use Rattle.std.proofs.Common.{◌+◌, ◌≤◌}
use Rattle.parser.specs.Digits.{limit}
use Rattle.runs.proofs.Along.{Along}
use Rattle.runs.proofs.take_digits.Given as goal

abbrev pub invariant-loop-taken : goal.invariant-loop-taken
invariant-loop-taken l = Along l.s l.at l.value (l.at + l.taken) × (l.value ≤ limit)
