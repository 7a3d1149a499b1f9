-- What a look at a place tells of the part there, in one number. (The looks of the crate `looks` are others: digits at fixed places.)
use Rattle.std.specs.Prelude.{◌≡◌, ℕ, ◌+◌, ◌<◌, ◌≤◌, true, false, List, length, ◌≢◌, slice_index}
use Rattle.parser.specs.Reading.{lit}
use Rattle.parser.specs.Read.{place_after}
use Rattle.parser.specs.Digits.{is_digit, digit}
use Rattle.std.specs.declared.result.Result.TheVariants.{Err}
use Rattle.parser.specs.declared.Miss.TheVariants as miss
use Rattle.parts.specs.Items.{item_at, part_at}
use Rattle.duration.specs.declared.DateParts.{DateParts}
use Rattle.duration.specs.declared.Looked.{Looked}
use Rattle.duration.specs.declared.Start.{Start}

-- the looks that name no byte
abbrev pub long_run : ℕ
long_run = 512

abbrev pub no_part : ℕ
no_part = 513

pub data Looks (s : List ℕ) (at l : ℕ) : Type 0 where
  -- no digit stands there, or the input ends behind digits
  none : l ≡ no_part → (digit s at ≡ true → item_at s at ≡ Err miss.Cut) → Looks s at l
  -- the second byte is no digit; the first may be one
  one : l ≡ slice_index s (at + 1) → l < 256 → at + 2 ≤ length s → is_digit (slice_index s (at + 1)) ≡ false → Looks s at l
  -- two digits
  two : l ≡ slice_index s (at + 2) + 256 → l < 512 → at + 3 ≤ length s → digit s at ≡ true → digit s (at + 1) ≡ true → is_digit (slice_index s (at + 2)) ≡ false → Looks s at l
  -- a digit stands there, and nothing else is told: so of three or more
  long : l ≡ long_run → digit s at ≡ true → Looks s at l

-- a part that was tried by a look: where the run is long it is not known, and place and look stay as they are
pub record Short (s : List ℕ) (at c l : ℕ) (r : Looked) : Type 0 where
  pub part : (l ≢ long_run) → r.part ≡ part_at s at c
  pub behind : Looks s r.part.next r.look
  pub long : l ≡ long_run → (r.look ≡ long_run) × (r.part.next ≡ at)

-- where a time starts: behind its `T`, if there is one
pub record Starts (s : List ℕ) (at l : ℕ) (r : Start) : Type 0 where
  pub next : r.next ≡ place_after at ((lit 84).reads s at)
  pub behind : Looks s r.next r.look
  pub long : l ≡ long_run → r.look ≡ long_run

-- Y, M, W and D, each from the place that the one before it left
pub record DateAt (s : List ℕ) (at : ℕ) (d : DateParts) : Type 0 where
  pub years : d.years ≡ part_at s at 89
  pub months : d.months ≡ part_at s d.years.next 77
  pub weeks : d.weeks ≡ part_at s d.months.next 87
  pub days : d.days ≡ part_at s d.weeks.next 68
