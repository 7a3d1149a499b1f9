-- The lines of an input, defined from its bytes. A byte 10 ends a line, also an empty one. What stands after the last byte 10 is a line
-- only where it is not empty.
use Rattle.std.specs.Prelude.{ℕ, ◌+◌, ◌-◌, ◌≤◌, ◌<◌, Bool, true, false, List, [], ◌∷◌, ◌++◌, ◌≡◌, eqb, length, take, drop}
use Rattle.std.specs.declared.option.Option.{Option}
use Rattle.std.specs.declared.option.Option.TheVariants.{None, Some}
use Rattle.lines.specs.declared.Taken.{Taken}
use Rattle.text.specs.Text.{Puts}

abbrev pub pick : {A : Type 0} → Bool → A → A → A
pick true a b = a
pick false a b = b

-- the lines that a byte 10 ends, in order and without that byte, and the rest behind the last byte 10
pub record Split : Type 0 where
  pub finished : List (List ℕ)
  pub rest : List ℕ

-- after the line l, all of the split p
abbrev pub after : List ℕ → Split → Split
after l p = record { finished = l ∷ p.finished; rest = p.rest }

-- the bytes a in front of the first line, or of the rest where no line is finished
abbrev pub onto : List ℕ → Split → Split
onto a p = front p.finished
  where
    front : List (List ℕ) → Split
    front [] = record { finished = []; rest = a ++ p.rest }
    front (l ∷ ls) = record { finished = (a ++ l) ∷ ls; rest = p.rest }

-- the same of parts that a byte c ends
unfoldable pub split_by : ℕ → List ℕ → Split
split_by c [] = record { finished = []; rest = [] }
split_by c (b ∷ s) = pick (eqb b c) (after [] (split_by c s)) (onto (b ∷ []) (split_by c s))

abbrev pub split : List ℕ → Split
split s = split_by 10 s

-- a rest is a line where it is not empty
abbrev pub last_line : List ℕ → List (List ℕ)
last_line [] = []
last_line (b ∷ s) = (b ∷ s) ∷ []

unfoldable pub lines : List ℕ → List (List ℕ)
lines s = (split s).finished ++ last_line (split s).rest

-- What makes a split right: put together, with a byte 10 behind each finished line, its parts are the input, and no part has a byte 10
-- in it. That `split` gives such parts, and that no others are such, is proved in `proofs/Laws.antt`.

abbrev pub joined_with : ℕ → Split → List ℕ
joined_with c p = ended p.finished
  where
    ended : List (List ℕ) → List ℕ
    ended [] = p.rest
    ended (l ∷ ls) = l ++ c ∷ ended ls

abbrev pub joined : Split → List ℕ
joined p = joined_with 10 p

-- no byte c
abbrev pub FreeOf : ℕ → List ℕ → Type 0
FreeOf c [] = Unit {0}
FreeOf c (b ∷ s) = (b ≡ c → ⊥) × FreeOf c s

abbrev pub EachFreeOf : ℕ → List (List ℕ) → Type 0
EachFreeOf c [] = Unit {0}
EachFreeOf c (l ∷ ls) = FreeOf c l × EachFreeOf c ls

abbrev pub Free : List ℕ → Type 0
Free s = FreeOf 10 s

abbrev pub EachFree : List (List ℕ) → Type 0
EachFree ls = EachFreeOf 10 ls

-- the place of the first byte c of s, whose first byte stands at `at`
abbrev pub place_from : ℕ → ℕ → List ℕ → Option ℕ
place_from c at [] = None
place_from c at (b ∷ s) = pick (eqb b c) (Some at) (place_from c (at + 1) s)

-- the place of the first byte c of s at or after `at`
unfoldable pub place_of : ℕ → List ℕ → ℕ → Option ℕ
place_of c s at = place_from c at (drop at s)

-- a byte 10 ends a line
abbrev pub end_at : List ℕ → ℕ → Option ℕ
end_at s at = place_of 10 s at

-- A program that knows a line from its first `limit` bytes keeps no more of it, so its memory has a bound and a line has none.
abbrev pub clip : ℕ → List ℕ → List ℕ
clip limit l = take limit l

-- What is taken of a block from a place on: the bytes up to the first byte 10, and behind that byte; or all of them, where there is none.

-- the bytes from a place up to another
abbrev pub between : ℕ → ℕ → List ℕ → List ℕ
between from to s = take (to - from) (drop from s)

abbrev pub part_of : Option ℕ → List ℕ → ℕ → List ℕ
part_of (Some end) s from = between from end s
part_of None s from = drop from s

abbrev pub behind : Option ℕ → List ℕ → ℕ → ℕ
behind (Some end) s from = end + 1
behind None s from = from + (length s - from)

abbrev pub is_end : Option ℕ → Bool
is_end (Some end) = true
is_end None = false

-- that part is put behind what is held, as far as there is room
pub record Takes (held : ℕ) (block : List ℕ) (from : ℕ) (old new : List ℕ) (r : Taken) : Type 0 where
  pub puts : Puts (part_of (end_at block from) block from) old held new r.held
  pub used : r.used ≡ behind (end_at block from) block from
  pub ended : r.ended ≡ is_end (end_at block from)

-- What is taken begins at the place, ends within the block, and is at least a byte where there is one.
pub record Moves (from length used : ℕ) : Type 0 where
  pub on : from ≤ used
  pub within : used ≤ from + (length - from)
  pub some : from < length → from < used

-- Of all bytes so far a program holds the first `limit` bytes of the rest.
abbrev pub Holds : ℕ → List ℕ → List ℕ → Type 0
Holds limit bytes held = held ≡ clip limit (split bytes).rest

-- one line more is finished, of which the first `limit` bytes are held
pub record EndsLine (limit : ℕ) (old new held : List ℕ) : Type 0 where
  pub line : List ℕ
  pub finished : (split new).finished ≡ (split old).finished ++ line ∷ []
  pub rest : (split new).rest ≡ []
  pub kept : held ≡ clip limit line

-- The bytes `new` are the bytes `old` and some more: with the end of a line, of which the first `limit` bytes are held; or without one.
abbrev pub GoesOn : Bool → ℕ → List ℕ → List ℕ → List ℕ → Type 0
GoesOn true limit old new held = EndsLine limit old new held
GoesOn false limit old new held = ((split new).finished ≡ (split old).finished) × Holds limit new held

-- The definition of lines, pinned by two facts of any input (`proofs/Pinned.antt`): its lines, joined by byte 10, and its last byte where
-- that is a 10, are the input again; and there are as many lines as bytes 10, and one more where the rest is not empty.

abbrev pub joined_by10 : List (List ℕ) → List ℕ
joined_by10 [] = []
joined_by10 (l ∷ []) = l
joined_by10 (l ∷ m ∷ ls) = l ++ 10 ∷ joined_by10 (m ∷ ls)

abbrev pub last_end : List ℕ → List ℕ
last_end [] = []
last_end (b ∷ []) = pick (eqb b 10) (10 ∷ []) []
last_end (b ∷ c ∷ s) = last_end (c ∷ s)

abbrev pub tens : List ℕ → ℕ
tens [] = 0
tens (b ∷ s) = pick (eqb b 10) (1 + tens s) (tens s)

abbrev pub last_piece : List ℕ → ℕ
last_piece [] = 0
last_piece (b ∷ s) = 1
