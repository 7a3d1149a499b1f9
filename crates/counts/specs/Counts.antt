-- A week of lines in numbers, defined from the lines.
use Rattle.std.specs.Prelude.{ℕ, zero, suc, ◌+◌, Bool, true, false, List, [], ◌∷◌, ◌≡◌, eqb, length}
use Rattle.std.proofs.Math.Option.{Option, some, none}
use Rattle.types.specs.Sums.{seconds_of, or_over}
use Rattle.std.specs.declared.option.Option.TheVariants.{None}
use Rattle.parser.specs.Reading.{and, pick}
use Rattle.parser.specs.Answer.{Told, ended}
use Rattle.kinds.specs.declared.answer.Kind.{Kind}
use Rattle.kinds.specs.declared.answer.Kind.TheVariants as kind
use Rattle.std.specs.declared.option.Option as std_option
use Rattle.std.specs.declared.option.Option.TheVariants.{None, Some}
use Rattle.kinds.specs.declared.answer.Record.{Record}
use Rattle.kinds.specs.declared.answer.Record.TheVariants as record_of
use Rattle.kinds.specs.Kinds.{rule_of}
use Rattle.reply.specs.Line.{plain_question, plain_text}

-- "a table of five kinds": the row of each. An interval has none, and no line that is asked about here names one
abbrev pub row_of : Kind → ℕ
row_of kind.Date = 0
row_of (kind.Time c) = 1
row_of kind.Offset = 2
row_of (kind.Stamp c) = 3
row_of kind.Duration = 4
row_of (kind.Interval c) = 5

-- a line that names a kind: its row, and what the whole reader tells of its text
pub record Line : Type 0 where
  pub row : ℕ
  pub told : Told Record

abbrev pub told_at : ℕ → Told Record → Option Line
told_at row t = some (record { row = row; told = t })

-- "reads lines as W6's does, under the same rules; one that is `unknown` there is bad": none
abbrev pub line_in : std_option.Option Kind → List ℕ → Option Line
line_in (Some k) s = told_at (row_of k) (ended (length s) ((rule_of k).reads s 0))
line_in None s = none

unfoldable pub line_of : List ℕ → Option Line
line_of l = line_in (plain_question l) (plain_text l)

-- ---- how many

-- how many of some lines a test takes
unfoldable pub how_many : (Option Line → Bool) → List (List ℕ) → ℕ
how_many f [] = 0
how_many f (l ∷ ls) = pick (f (line_of l)) (1 + how_many f ls) (how_many f ls)

-- "by the four answers 0, 1, 2, 3 of the whole reader"
abbrev pub is_at : ℕ → ℕ → Option Line → Bool
is_at row answer (some x) = and (eqb x.row row) (eqb x.told.number answer)
is_at row answer none = false

abbrev pub is_bad : Option Line → Bool
is_bad (some x) = false
is_bad none = true

-- what f has for each of the first n numbers
abbrev pub list_of : {A : Type 0} → ℕ → (ℕ → A) → List A
list_of zero f = []
list_of (suc n) f = f 0 ∷ list_of n (λ i. f (suc i))

-- a count for each answer, and a row of them for each kind
abbrev pub row_in : List (List ℕ) → ℕ → List ℕ
row_in ls i = list_of 4 (λ j. how_many (is_at i j) ls)

abbrev pub table_of : List (List ℕ) → List (List ℕ)
table_of ls = list_of 5 (row_in ls)

abbrev pub bad_of : List (List ℕ) → ℕ
bad_of ls = how_many is_bad ls

-- ---- the sum of seconds

-- the true seconds of a duration; any other record adds nothing
abbrev pub seconds_in : Record → ℕ
seconds_in (record_of.Duration d) = seconds_of d
seconds_in (record_of.Date v) = 0
seconds_in (record_of.Time v) = 0
seconds_in (record_of.Offset v) = 0
seconds_in (record_of.Stamp v) = 0
seconds_in (record_of.Interval v) = 0

-- "Only durations with answer 0 are added": a refusal carries no record
abbrev pub seconds_told : Option Record → ℕ
seconds_told (some v) = seconds_in v
seconds_told none = 0

abbrev pub adds : Option Line → ℕ
adds (some x) = seconds_told x.told.value
adds none = 0

unfoldable pub seconds_in_all : List (List ℕ) → ℕ
seconds_in_all [] = 0
seconds_in_all (l ∷ ls) = adds (line_of l) + seconds_in_all ls

-- "If a duration's sum or the running sum ever passes 18,446,744,073,709,551,615": some lines together, or one of them
abbrev pub Passes : ℕ → Type 0
Passes n = or_over n ≡ None

-- ---- the twenty counts together

abbrev pub total : List ℕ → ℕ
total [] = 0
total (n ∷ ns) = n + total ns

abbrev pub in_all : List (List ℕ) → ℕ
in_all [] = 0
in_all (r ∷ rs) = total r + in_all rs

-- "The twenty counts and the bad lines together equal the lines"
abbrev pub MakeUp : List (List ℕ) → Type 0
MakeUp ls = in_all (table_of ls) + bad_of ls ≡ length ls
