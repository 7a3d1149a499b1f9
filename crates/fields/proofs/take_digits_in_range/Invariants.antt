-- Turn by turn the loop reads as `digits_from` does; a number past the range ends it early, since no digit brings it back.
use Rattle.std.proofs.Common.{◌≡◌, ℕ, ◌+◌, ◌-◌, ◌<◌, ◌≤◌, List, length}
use Rattle.parser.specs.Digits.{digits_from, digits_more}
use Rattle.fields.proofs.take_digits_in_range.Given as goal

-- what is left to read at a turn is what the field reads
pub record Going (lo hi places : ℕ) (s : List ℕ) (at value next left : ℕ) : Type 0 where
  pub found : digits_from lo hi left value s next ≡ digits_from lo hi places 0 s at
  pub more : digits_more lo hi left value s next ≡ digits_more lo hi places 0 s at
  pub small : value ≤ hi
  pub inside : left < places → next ≤ length s

abbrev pub invariant-loop-taken : goal.invariant-loop-taken
invariant-loop-taken l = Going l.lo l.hi l.places l.s l.at l.value (l.at + l.taken) (l.places - l.taken)
