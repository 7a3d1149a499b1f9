-- A digit run is read once, with the byte behind it: whatever part is tried at that place, this decides it.
use Rattle.std.specs.Prelude.{ℕ, ◌+◌, List, Bool, true, false, ◌≡◌, get_or, eqb}
use Rattle.std.proofs.Math.Option.{Option, some, none}
use Rattle.std.specs.declared.result.Result.{Result}
use Rattle.std.specs.declared.result.Result.TheVariants.{Ok, Err}
use Rattle.types.specs.declared.Refusal.TheVariants.{TooBig}
use Rattle.parser.specs.Reading.{Found, no, got, stop, pick}
use Rattle.parser.specs.Digits.{run}
use Rattle.parser.specs.Fields.{or_zero}
use Rattle.parts.specs.declared.Item.{Item}
use Rattle.parser.specs.declared.Miss.{Miss}
use Rattle.parser.specs.declared.Miss.TheVariants as miss
use Rattle.parts.specs.declared.Part.{Part}
use Rattle.parts.specs.declared.Tried.{Tried}

-- what a run makes, by whether the end of the input could still add to it
abbrev pub item_of : List ℕ → Found ℕ → Bool → Result Item Miss
item_of s (got v n) true = Err miss.Cut
item_of s (got v n) false = Ok (record { value = v; letter = get_or s n 0; next = n + 1 })
item_of s (stop r) m = Err (miss.Stopped TooBig)
item_of s no true = Err miss.Cut
item_of s no false = Err miss.Wrong

unfoldable pub item_at : List ℕ → ℕ → Result Item Miss
item_at s at = item_of s (run.reads s at) (run.more s at)

-- what the part of a letter finds there
abbrev pub here : ℕ → Result Item Miss → Option ℕ
here c (Ok i) = pick (eqb i.letter c) (some i.value) none
here c (Err m) = none

-- and the place after it, if it is there
abbrev pub past : ℕ → ℕ → Result Item Miss → ℕ
past c at (Ok i) = pick (eqb i.letter c) i.next at
past c at (Err m) = at

abbrev pub part_of : ℕ → ℕ → Part
part_of v n = record { value = v; next = n }

abbrev pub absent_part : ℕ → Part
absent_part at = part_of 0 at

-- the part of a letter, by what stands at its place
abbrev pub part_by : Result Item Miss → ℕ → ℕ → Part
part_by i at c = part_of (or_zero (here c i)) (past c at i)

abbrev pub part_at : List ℕ → ℕ → ℕ → Part
part_at s at c = part_by (item_at s at) at c

-- what stands behind it; where it is not there, what stood before it
abbrev pub item_behind : List ℕ → ℕ → Result Item Miss → Result Item Miss
item_behind s c (Ok i) = pick (eqb i.letter c) (item_at s i.next) (Ok i)
item_behind s c (Err m) = Err m

-- a part that was tried, by the item that was handed over
pub record Tries (s : List ℕ) (at c : ℕ) (i : Result Item Miss) (r : Tried) : Type 0 where
  pub part : r.part ≡ part_by i at c
  pub item : r.item ≡ item_behind s c i
