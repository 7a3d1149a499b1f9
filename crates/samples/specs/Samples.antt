-- The response to a line of a sample.
use Rattle.std.specs.Prelude.{ℕ, ◌+◌, ◌*◌, ◌%◌, List, [], ◌∷◌, ◌++◌, false, ◌⊎◌, ◌≡◌, ltb, leb, length, take, drop}
use Rattle.parser.specs.Reading.{pick}
use Rattle.std.specs.declared.option.Option.{Option}
use Rattle.std.specs.declared.option.Option.TheVariants.{None, Some}
use Rattle.lines.specs.Lines.{place_of, between}
use Rattle.reply.specs.Line.{head_of, Answers}

-- the number of a hexadecimal digit: of `0` to `9` the low four bits, of `a` to `f` these and nine
abbrev pub nibble_of : ℕ → ℕ
nibble_of b = pick (ltb b 58) (b % 16) ((b % 16 + 9) % 16)

-- two digits are a byte; a last one alone is none
abbrev pub unhex : List ℕ → List ℕ
unhex [] = []
unhex (a ∷ []) = []
unhex (a ∷ b ∷ s) = (nibble_of a * 16 + nibble_of b) ∷ unhex s

-- the question of a line whose tab stands at a place: the head, and the text as bytes
unfoldable pub question_in : ℕ → List ℕ → List ℕ
question_in tab l = take (head_of l).from (take tab l) ++ unhex (between (head_of l).from tab l)

-- what stands behind the tab
abbrev pub theirs : ℕ → List ℕ → List ℕ
theirs tab l = drop (tab + 1) l

abbrev pub same : List ℕ
same = 115 ∷ 97 ∷ 109 ∷ 101 ∷ []

abbrev pub differs : List ℕ
differs = 100 ∷ 105 ∷ 102 ∷ 102 ∷ 101 ∷ 114 ∷ 115 ∷ 32 ∷ []

abbrev pub unknown : List ℕ
unknown = 117 ∷ 110 ∷ 107 ∷ 110 ∷ 111 ∷ 119 ∷ 110 ∷ []

-- `same`, or `differs` and our answer
abbrev pub Tells : List ℕ → List ℕ → List ℕ → Type 0
Tells ours theirs t = ((ours ≡ theirs) × (t ≡ same)) ⊎ ((ours ≡ theirs → ⊥) × (t ≡ differs ++ ours))

-- our answer, without its verdict and a time's digits
abbrev pub Told : List ℕ → ℕ → List ℕ → Type 0
Told l tab ours = Answers false (question_in tab l) ours

pub record Compared (l : List ℕ) (tab : ℕ) (t : List ℕ) : Type 0 where
  pub ours : List ℕ
  pub told : Told l tab ours
  pub tells : Tells ours (theirs tab l) t

-- the place of the first tab; a line of more than 1,023 bytes is as one without
unfoldable pub tab_of : List ℕ → Option ℕ
tab_of l = pick (leb (length l) 1023) (place_of 9 l 0) None

-- a line without a tab is unknown
abbrev pub ComparedAt : Option ℕ → List ℕ → List ℕ → Type 0
ComparedAt (Some tab) l t = Compared l tab t
ComparedAt None l t = t ≡ unknown

abbrev pub Compares : List ℕ → List ℕ → Type 0
Compares l t = ComparedAt (tab_of l) l t

pub record ComparesLine (l t : List ℕ) : Type 0 where
  pub answer : List ℕ
  pub compares : Compares l answer
  pub ends : t ≡ answer ++ 10 ∷ []
