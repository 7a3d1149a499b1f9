-- What `pieces` prints for a line.
use Rattle.std.specs.Prelude.{ℕ, true, List, [], ◌∷◌, ◌++◌, ◌≡◌, length}
use Rattle.types.specs.declared.Verdict.{Verdict}
use Rattle.parser.specs.Answer.{Told, begun, ended, Begins}
use Rattle.kinds.specs.declared.answer.Kind.{Kind}
use Rattle.kinds.specs.declared.answer.Record.{Record}
use Rattle.std.specs.declared.option.Option.{Option}
use Rattle.std.specs.declared.option.Option.TheVariants.{None, Some}
use Rattle.kinds.specs.Kinds.{rule_of, bound}
use Rattle.lines.specs.Lines.{Split, split_by}
use Rattle.text.specs.Text.{decimal}
use Rattle.words.specs.declared.word.Name.TheVariants as name
use Rattle.words.specs.declared.word.Word.TheVariants.{Number}
use Rattle.words.specs.Words.{letters_of, text_of}
use Rattle.words.specs.Records.{verdict_word}
use Rattle.reply.specs.Line.{record_or_dash, question_of, text_in}

-- "The text is cut into pieces by byte 124 (`|`)": the parts that such a byte ends, and the rest behind the last. That a split is right is
-- proved of lines for any byte: put together again its parts are the text (`joined_by`), and none has the byte in it (`free_by`).
abbrev pub pieces_of : Split → List (List ℕ)
pieces_of p = p.finished ++ p.rest ∷ []

abbrev pub pieces : List ℕ → List (List ℕ)
pieces s = pieces_of (split_by 124 s)

-- "`B COUNT VERDICT`, each followed by ` | `"
abbrev pub begun_text : Told Record → Verdict → List ℕ
begun_text t v = decimal t.number ++ (text_of (Number t.count ∷ verdict_word v ∷ []) ++ 32 ∷ 124 ∷ 32 ∷ [])

-- "then what `end` says, `W WCOUNT`, and RECORD as `answers` prints it for the beginning reader's last answer"
abbrev pub end_text : Told Record → Told Record → List ℕ
end_text whole last = decimal whole.number ++ (text_of (Number whole.count ∷ []) ++ text_of (record_or_dash true last.value))

abbrev pub end_of : Kind → List ℕ → List ℕ
end_of k all = end_text (ended (length all) ((rule_of k).reads all 0)) (begun ((rule_of k).reads all 0))

-- "After each piece what `answer` says": what the beginning reader says of all bytes so far; and what others say behind it
pub record After (k : Kind) (all : List ℕ) (others : List ℕ → Type 0) (t : List ℕ) : Type 0 where
  pub told : Told Record
  pub verdict : Verdict
  pub begins : Begins (bound k) (rule_of k) all told verdict
  pub next : List ℕ
  pub behind : others next
  pub says : t ≡ begun_text told verdict ++ next

-- of some pieces, behind the bytes that came before them
abbrev pub SaysOf : Kind → List ℕ → List (List ℕ) → List ℕ → Type 0
SaysOf k all [] t = t ≡ end_of k all
SaysOf k all (p ∷ ps) t = After k (all ++ p) (SaysOf k (all ++ p) ps) t

-- "a line of any other form prints `unknown`"
abbrev pub SaysTo : Option Kind → List ℕ → List ℕ → Type 0
SaysTo (Some k) s t = SaysOf k [] (pieces s) t
SaysTo None s t = t ≡ letters_of name.Unknown

abbrev pub Says : List ℕ → List ℕ → Type 0
Says l t = SaysTo (question_of l) (text_in l) t

-- with the byte 10 that ends its line
pub record SaysLine (l t : List ℕ) : Type 0 where
  pub said : List ℕ
  pub says : Says l said
  pub ends : t ≡ said ++ 10 ∷ []
