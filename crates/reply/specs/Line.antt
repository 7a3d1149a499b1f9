-- The answer to a line.
use Rattle.std.specs.Prelude.{ℕ, ◌+◌, ◌-◌, Bool, true, List, [], ◌∷◌, ◌++◌, ◌≡◌, ltb, leb, eqb, length, get_or, drop}
use Rattle.std.proofs.Math.Option.{Option, some, none}
use Rattle.types.specs.Editions.{document01}
use Rattle.types.specs.declared.Edition.{Edition}
use Rattle.types.specs.declared.Edition.TheVariants.{E2004, E2019}
use Rattle.types.specs.declared.Reading.TheVariants.{Old, Standard}
use Rattle.types.specs.declared.DateTime.{DateTime}
use Rattle.types.specs.declared.IntervalRange.{IntervalRange}
use Rattle.types.specs.declared.IntervalRange.TheVariants as range
use Rattle.types.specs.declared.Verdict.{Verdict}
use Rattle.parser.specs.Reading.{and, pick}
use Rattle.parser.specs.Answer.{Told, Begins, Ended}
use Rattle.kinds.specs.declared.answer.Kind.{Kind}
use Rattle.kinds.specs.declared.answer.Record.{Record}
use Rattle.kinds.specs.declared.answer.Record.TheVariants as record_of
use Rattle.std.specs.declared.option.Option as std_option
use Rattle.std.specs.declared.option.Option.TheVariants.{None, Some}
use Rattle.kinds.specs.Kinds.{rule_of, bound, letter_of, among_five}
use Rattle.words.specs.declared.word.Name.TheVariants as name
use Rattle.text.specs.Text.{Puts, decimal}
use Rattle.words.specs.Words.{letters_of, text_of}
use Rattle.words.specs.declared.word.Word.{Word}
use Rattle.words.specs.declared.word.Word.TheVariants.{Name as Named}
use Rattle.reply.specs.declared.Head.{Head}
use Rattle.words.specs.Records.{head_words, offset_words, time_words, date_words, duration_words, interval_words}

-- "for a date-time the date's words, then the time's"
abbrev pub stamp_words : Bool → DateTime → List Word
stamp_words shown v = date_words v.date ++ time_words shown v.time

-- "the words of both records, `-` for the second of a duration alone"
abbrev pub sides_words : Bool → IntervalRange → List Word
sides_words shown (range.Closed a b) = stamp_words shown a ++ stamp_words shown b
sides_words shown (range.ClosedEnd d b) = duration_words d ++ stamp_words shown b
sides_words shown (range.ClosedStart a d) = stamp_words shown a ++ duration_words d
sides_words shown (range.Open d) = duration_words d ++ Named name.Dash ∷ []

abbrev pub record_words : Bool → Record → List Word
record_words shown (record_of.Date v) = date_words v
record_words shown (record_of.Time v) = time_words shown v
record_words shown (record_of.Offset v) = offset_words v
record_words shown (record_of.Stamp v) = stamp_words shown v
record_words shown (record_of.Duration v) = duration_words v
record_words shown (record_of.Interval v) = interval_words v ++ sides_words shown v.range

-- "RECORD: `-` where B is not 0"
abbrev pub record_or_dash : Bool → Option Record → List Word
record_or_dash shown (some v) = record_words shown v
record_or_dash shown none = Named name.Dash ∷ []

-- what a kind's two readers tell of the text s, in words: t, `B COUNT VERDICT W WCOUNT RECORD`, the verdict and a time's digits where they are
-- shown. The kind's rule fixes all that they tell.
pub record Answered (shown : Bool) (k : Kind) (s t : List ℕ) : Type 0 where
  pub begun : Told Record
  pub verdict : Verdict
  pub whole : Told Record
  pub begins : Begins (bound k) (rule_of k) s begun verdict
  pub ends : Ended (rule_of k) s whole
  pub says : t ≡ decimal begun.number ++ (text_of (head_words begun.count shown verdict whole.number whole.count) ++ text_of (record_or_dash shown begun.value))

-- where the text of a line begins, behind its space, and what is chosen: behind a letter alone, document 01's
abbrev pub plain_head : Head
plain_head = record { from = 2; choices = document01 }

-- a byte stands at a place of the line
abbrev pub has : List ℕ → ℕ → ℕ → Bool
has l at b = and (ltb at (length l)) (eqb (get_or l at 0) b)

-- "from W8 on, `s` behind that for the standard reading"
unfoldable pub head_from : ℕ → Edition → List ℕ → Head
head_from at e l =
    pick (has l at 115) (record { from = at + 2; choices = record { edition = e; reading = Standard } })
    (record { from = at + 1; choices = record { edition = e; reading = Old } })

-- "take `4` behind the letter for edition 2004"
unfoldable pub head_of : List ℕ → Head
head_of l = pick (has l 1 52) (head_from 2 E2004 l) (head_from 1 E2019 l)

-- "a letter [..], a space, and a text of at most 200 bytes"
unfoldable pub question_in : Head → List ℕ → std_option.Option Kind
question_in h l =
    pick (leb h.from (length l)) (pick (leb (length l) (h.from + 200)) (pick (eqb (get_or l (h.from - 1) 0) 32) (letter_of h.choices (get_or l 0 0)) None) None)
    None

abbrev pub question_of : List ℕ → std_option.Option Kind
question_of l = question_in (head_of l) l

abbrev pub text_in : List ℕ → List ℕ
text_in l = drop (head_of l).from l

-- "`why` has neither", nor the letter `i`
abbrev pub plain_question : List ℕ → std_option.Option Kind
plain_question l = among_five (question_in plain_head l)

abbrev pub plain_text : List ℕ → List ℕ
plain_text l = drop plain_head.from l

-- "a line of any other form prints `unknown`"
abbrev pub AnswersTo : Bool → std_option.Option Kind → List ℕ → List ℕ → Type 0
AnswersTo shown (Some k) s t = Answered shown k s t
AnswersTo shown None s t = t ≡ letters_of name.Unknown

abbrev pub Answers : Bool → List ℕ → List ℕ → Type 0
Answers shown l t = AnswersTo shown (question_of l) (text_in l) t

-- an answer with all its words, and the byte 10 that ends its line
pub record AnswersLine (l t : List ℕ) : Type 0 where
  pub answer : List ℕ
  pub answers : Answers true l answer
  pub ends : t ≡ answer ++ 10 ∷ []

-- an answer is put
pub record Gives (answers : List ℕ → Type 0) (old : List ℕ) (at : ℕ) (new : List ℕ) (next : ℕ) : Type 0 where
  pub text : List ℕ
  pub answer : answers text
  pub puts : Puts text old at new next
