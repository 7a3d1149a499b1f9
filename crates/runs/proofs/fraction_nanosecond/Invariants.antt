-- The loop goes along the first nine digits and adds each by its place; where there are fewer, nothing is missing, and digits past the
-- ninth change no number.
use Rattle.std.proofs.Common.{◌≡◌, ℕ, ◌+◌, ◌-◌, ◌<◌, ◌≤◌, List, length}
use Rattle.parser.specs.Digits.{run_at, nanoseconds}
use Rattle.runs.proofs.Factors.{by_places}
use Rattle.runs.proofs.fraction_nanosecond.Given as goal

-- what is left to read before a place
pub record Nine (s : List ℕ) (at value place : ℕ) : Type 0 where
  pub inside : 0 < place → at + place ≤ length s
  pub ends : at + place + length (run_at s (at + place)) ≡ at + length (run_at s at)
  pub number : value + by_places (9 - place) (run_at s (at + place)) ≡ nanoseconds (run_at s at)

abbrev pub invariant-loop-place : goal.invariant-loop-place
invariant-loop-place l = Nine l.s l.at l.nanosecond l.place
