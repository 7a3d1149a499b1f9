-- After some turns the first digits, as many as there were turns, are put.
use Prim.Native.Nat.{◌-◌, ◌/◌, ◌^◌}
use mathlib.Core.Path.{◌≡◌}
use Rattle.text.specs.Text.{Puts}
use Rattle.writing.specs.Spelling.{padded}
use Rattle.time_writer.proofs.put_digits.Given as goal

abbrev pub invariant-loop : goal.invariant-loop
invariant-loop l = (l.unit ≡ 10 ^ (9 - l.counter)) × Puts (padded l.counter (l.nanosecond / l.unit)) l.initial.out l.at l.out l.next
