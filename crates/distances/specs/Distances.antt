-- What `apart` prints for a line.
use Rattle.std.specs.Prelude.{ℕ, suc, ◌≤◌, List, [], ◌∷◌, ◌++◌, ◌⊎◌, ◌≡◌, ℤ, pos, negsuc, length, Result}
use Rattle.std.specs.declared.result.Result.TheVariants.{Ok, Err}
use Rattle.types.specs.declared.Choices.{Choices}
use Rattle.types.specs.declared.Edition.{Edition}
use Rattle.types.specs.declared.Edition.TheVariants.{E2004, E2019}
use Rattle.types.specs.declared.Reading.{Reading}
use Rattle.types.specs.declared.Reading.TheVariants.{Old, Standard}
use Rattle.moments.specs.declared.Apart.{Apart}
use Rattle.moments.specs.declared.Faulty.{Faulty}
use Rattle.moments.specs.declared.Faulty.TheVariants.{First, Second}
use Rattle.moments.specs.Moments.{fault_number}
use Rattle.gaps.specs.Gaps.{Tells}
use Rattle.lines.specs.Lines.{FreeOf}
use Rattle.text.specs.Text.{decimal}
use Rattle.words.specs.declared.word.Name.TheVariants as name
use Rattle.words.specs.Words.{letters_of}
use Rattle.spellings.specs.Said.{refused_word}

-- ---- the line: "`s`, `s4`, `ss` or `s4s`, a space, a text, a space, a text (at most 200 bytes each, no space in them)"

-- the letter of a date-time, behind it `4` for edition 2004, and behind that `s` for the standard reading
abbrev pub heading : Edition → Reading → List ℕ
heading E2019 Old = 115 ∷ []
heading E2004 Old = 115 ∷ 52 ∷ []
heading E2019 Standard = 115 ∷ 115 ∷ []
heading E2004 Standard = 115 ∷ 52 ∷ 115 ∷ []

pub record IsText (s : List ℕ) : Type 0 where
  pub short : length s ≤ 200
  pub free : FreeOf 32 s

-- the line l asks, under the choices c, how far t lies behind s
pub record Asks (c : Choices) (s t l : List ℕ) : Type 0 where
  pub form : l ≡ heading c.edition c.reading ++ 32 ∷ (s ++ 32 ∷ t)
  pub first : IsText s
  pub second : IsText t

abbrev pub AsksNothing : List ℕ → Type 0
AsksNothing l = (c : Choices) (s t : List ℕ) → Asks c s t l → ⊥

-- ---- what is printed: "`SECONDS NANOS` or `refused N`"

-- "All plain decimal, a minus where negative, one space between words."
abbrev pub signed : ℤ → List ℕ
signed (pos n) = decimal n
signed (negsuc n) = 45 ∷ decimal (suc n)

abbrev pub apart_text : Result Apart Faulty → List ℕ
apart_text (Ok apart) = signed apart.seconds ++ 32 ∷ decimal apart.nanoseconds
apart_text (Err (First fault)) = refused_word ++ decimal (fault_number fault)
apart_text (Err (Second fault)) = refused_word ++ decimal (fault_number fault)

-- the line l asks, and t is what is told of its two texts
pub record Answers (l t : List ℕ) : Type 0 where
  pub choices : Choices
  pub first : List ℕ
  pub second : List ℕ
  pub asks : Asks choices first second l
  pub apart : Result Apart Faulty
  pub tells : Tells choices first second apart
  pub says : t ≡ apart_text apart

-- "a line of any other form prints `unknown`"
abbrev pub Away : List ℕ → List ℕ → Type 0
Away l t = Answers l t ⊎ (AsksNothing l × (t ≡ letters_of name.Unknown))

-- with the byte 10 that ends its line
pub record AwayLine (l t : List ℕ) : Type 0 where
  pub said : List ℕ
  pub away : Away l said
  pub ends : t ≡ said ++ 10 ∷ []
