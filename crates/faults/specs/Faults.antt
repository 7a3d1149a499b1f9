-- What `why` prints for a line, and with it, where it is to be shown, the text with a `^` at the place.
use Rattle.std.specs.Prelude.{ℕ, Bool, true, false, List, [], ◌∷◌, ◌++◌, ◌≡◌, length, map, replicate}
use Rattle.parser.specs.Reading.{pick, within}
use Rattle.kinds.specs.declared.answer.Kind.{Kind}
use Rattle.std.specs.declared.option.Option.{Option}
use Rattle.std.specs.declared.option.Option.TheVariants.{None, Some}
use Rattle.text.specs.Text.{decimal}
use Rattle.words.specs.declared.word.Name.TheVariants as name
use Rattle.words.specs.Words.{letters_of}
use Rattle.reply.specs.Line.{plain_question, plain_text}
use Rattle.breaks.specs.declared.Reason.{Reason}
use Rattle.breaks.specs.declared.Reason.TheVariants.{Ok, Early, Bad}
use Rattle.breaks.specs.Breaks.{Tells}

-- `ok`, and `early` and `bad` with a space
abbrev pub ok_word : List ℕ
ok_word = 111 ∷ 107 ∷ []

abbrev pub early_word : List ℕ
early_word = 101 ∷ 97 ∷ 114 ∷ 108 ∷ 121 ∷ 32 ∷ []

abbrev pub bad_word : List ℕ
bad_word = 98 ∷ 97 ∷ 100 ∷ 32 ∷ []

-- "It prints `ok`, `early N` or `bad N`, N being the length of the part handed back (for `early`, of the whole text)"
abbrev pub reason_text : ℕ → Reason → List ℕ
reason_text all Ok = ok_word
reason_text all Early = early_word ++ decimal all
reason_text all (Bad n) = bad_word ++ decimal n

-- ---- the drawing: "the text again and a `^` under the first bad byte or under the end (bytes that do not print as `.`)"

abbrev pub printed_of : ℕ → ℕ
printed_of b = pick (within 32 126 b) b 46

abbrev pub printed : List ℕ → List ℕ
printed s = map printed_of s

abbrev pub drawn : List ℕ → ℕ → List ℕ
drawn s n = printed s ++ (10 ∷ []) ++ replicate n 32 ++ (94 ∷ 10 ∷ [])

-- "under each refused line"
abbrev pub drawing_of : List ℕ → Reason → List ℕ
drawing_of s Ok = []
drawing_of s Early = drawn s (length s)
drawing_of s (Bad n) = drawn s n

abbrev pub drawing : Bool → List ℕ → Reason → List ℕ
drawing true s r = drawing_of s r
drawing false s r = []

-- ---- the line

-- the reason that is true of a text, with the byte 10 that ends its line
pub record Explains (shown : Bool) (k : Kind) (s t : List ℕ) : Type 0 where
  pub reason : Reason
  pub tells : Tells k s reason
  pub says : t ≡ reason_text (length s) reason ++ (10 ∷ []) ++ drawing shown s reason

-- "and `unknown` for a line of any other form"
abbrev pub WhyTo : Bool → Option Kind → List ℕ → List ℕ → Type 0
WhyTo shown (Some k) s t = Explains shown k s t
WhyTo shown None s t = t ≡ letters_of name.Unknown ++ (10 ∷ [])

abbrev pub WhyLine : Bool → List ℕ → List ℕ → Type 0
WhyLine shown l t = WhyTo shown (plain_question l) (plain_text l) t
