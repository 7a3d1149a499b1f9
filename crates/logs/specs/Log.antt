-- A log that arrives in blocks: what is counted of all bytes so far.
use Rattle.std.specs.Prelude.{ℕ, ◌-◌, ◌≤◌, min, Bool, List, [], ◌∷◌, ◌++◌, ◌≡◌, ltb, length, take}
use Rattle.types.specs.Sums.{or_over}
use Rattle.std.specs.declared.option.Option.TheVariants.{Some}
use Rattle.tally.specs.Tally.{with_line as tallied}
use Rattle.lines.specs.Lines.{split, lines, between, Holds, Moves}
use Rattle.text.specs.Text.{Puts}
use Rattle.std.specs.declared.option.Option.{Option}
use Rattle.counts.specs.declared.Counted.{Counted}
use Rattle.counts.specs.Counts.{line_of, table_of, bad_of, seconds_in_all}
use Rattle.counts.specs.Seen.{seen, counted, bad_counted, adding}
use Rattle.logs.specs.declared.Week.{Week}
use Rattle.logs.specs.declared.Reached.{Reached}
use Rattle.logs.specs.Table.{week_text, log_text}

-- "Only the first 4,294,967,295 bytes are taken as the input."
abbrev pub longest : ℕ
longest = 4294967295

abbrev pub input : List ℕ → List ℕ
input handed = take longest handed

-- what some lines come to: each count is the number of lines of that kind with that answer, and the sum is exact, or over exactly where it is
pub record Comes (ls table : List (List ℕ)) (w : Week) : Type 0 where
  pub counts : table ≡ table_of ls
  pub bad : w.bad ≡ bad_of ls
  pub sum : w.tally.sum ≡ or_over (seconds_in_all ls)

-- of some bytes: what their finished lines come to, and the first bytes of the rest are held
pub record Sofar (limit : ℕ) (bytes : List ℕ) (table : List (List ℕ)) (w : Week) (kept : List ℕ) : Type 0 where
  pub comes : Comes (split bytes).finished table w
  pub holds : Holds limit bytes (take w.held kept)

-- all bytes so far that were handed over, of which the first are the input
pub record After (limit : ℕ) (handed : List ℕ) (table : List (List ℕ)) (w : Week) (kept : List ℕ) : Type 0 where
  pub sofar : Sofar limit (input handed) table w kept
  pub taken : w.taken ≡ length (input handed)

abbrev pub started : Week
started = record { bad = 0; tally = record { sum = Some 0 }; held = 0; taken = 0 }

-- one line more, which ended
abbrev pub with_line : Week → Option Counted → Week
with_line w l = record { bad = bad_counted l w.bad; tally = tallied w.tally (adding l); held = 0; taken = w.taken }

-- From some bytes to these and some more, within the input's length. The buffer has room for as many bytes of a line as tell that it is too long,
-- whatever it begins with: 205, the programs' number.
pub record Goes (limit : ℕ) (more : List ℕ) (table : List (List ℕ)) (w : Week) (kept : List ℕ) (table' : List (List ℕ)) (w' : Week) (kept' : List ℕ) : Type 0 where
  pub goes : 205 ≤ limit → (bytes : List ℕ) → length (bytes ++ more) ≤ longest → Sofar limit bytes table w kept → Sofar limit (bytes ++ more) table' w' kept'
  pub taken : w'.taken ≡ w.taken
  pub room : w'.held ≤ limit
  pub size : length kept' ≡ limit

pub record One (w : Week) (block : List ℕ) (from : ℕ) (table : List (List ℕ)) (kept : List ℕ) (table' : List (List ℕ)) (kept' : List ℕ) (r : Reached) : Type 0 where
  pub goes : Goes (length kept) (between from r.used block) table w kept table' r.week kept'
  pub moves : Moves from (length block) r.used

abbrev pub AllLines : Week → List ℕ → List (List ℕ) → List ℕ → List (List ℕ) → List ℕ → Week → Type 0
AllLines w block table kept table' kept' r = Goes (length kept) block table w kept table' r kept'

-- a block more is handed over
pub record Steps (w : Week) (block : List ℕ) (table : List (List ℕ)) (kept : List ℕ) (table' : List (List ℕ)) (kept' : List ℕ) (r : Week) : Type 0 where
  pub goes : 205 ≤ length kept → (handed : List ℕ) → After (length kept) handed table w kept → After (length kept) (handed ++ block) table' r kept'
  pub size : length kept' ≡ length kept

-- whether a block has bytes behind the input
abbrev pub passes : Week → List ℕ → Bool
passes w block = ltb (longest - min w.taken longest) (length block)

-- at the end what is held is a line where it is not empty
abbrev pub last_text : Week → List (List ℕ) → List ℕ → List ℕ
last_text w table [] = week_text table w.bad w.tally.sum
last_text w table (b ∷ l) = let line = seen (line_of (b ∷ l)) in week_text (counted line table) (bad_counted line w.bad) (with_line w line).tally.sum

-- the text that is put, which has at most 1,024 bytes; of what was handed over it is the table of its lines
pub record Finishes (w : Week) (table : List (List ℕ)) (kept out out' : List ℕ) (r : ℕ) : Type 0 where
  pub puts : Puts (last_text w table (take w.held kept)) out 0 out' r
  pub short : length (last_text w table (take w.held kept)) ≤ 1024
  pub says : 205 ≤ length kept → (handed : List ℕ) → After (length kept) handed table w kept → last_text w table (take w.held kept) ≡ log_text (lines (input handed))
