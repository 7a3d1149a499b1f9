-- No answer is longer than the room that is kept for one: a word has at most 22 bytes, its space among them, and an answer at most 33.
use Prim.Native.Nat.{ℕ, ◌*◌, ◌≤◌}
use mathlib.Core.Bool.{Bool, true}
use mathlib.Core.List.{List, [], ◌∷◌, ◌++◌}
use mathlib.Core.Option.{Option, some, none}
use native.Mathlib.Omega.{arith}
use lib.ListN.{length, length-append}
use Rattle.types.specs.declared.Date.{Date}
use Rattle.types.specs.declared.Date.TheVariants.{YMD, Week, Ordinal}
use Rattle.types.specs.declared.DateTime.{DateTime}
use Rattle.types.specs.declared.Repetitions.{Repetitions}
use Rattle.types.specs.declared.Repetitions.TheVariants.{Once, Unlimited, Times}
use Rattle.types.specs.declared.IntervalRange.{IntervalRange}
use Rattle.types.specs.declared.IntervalRange.TheVariants as range
use Rattle.kinds.specs.declared.answer.Kind.{Kind}
use Rattle.std.specs.declared.option.Option as std_option
use Rattle.std.specs.declared.option.Option.TheVariants.{None, Some}
use Rattle.kinds.specs.declared.answer.Record.{Record}
use Rattle.kinds.specs.declared.answer.Record.TheVariants as record_of
use Rattle.words.specs.declared.word.Name.{Name}
use Rattle.words.specs.declared.word.Name.TheVariants as name
use Rattle.words.specs.declared.word.Word.{Word}
use Rattle.words.specs.declared.word.Word.TheVariants as word
use Rattle.text.specs.Text.{decimal}
use Rattle.text.proofs.Decimals.{digits_short}
use Rattle.words.specs.Words.{letters_of, word_text, text_of}
use Rattle.words.specs.Records.{head_words, date_words, duration_words, repeat_words, shape_words}
use Rattle.reply.specs.Line.{stamp_words, sides_words, record_words, record_or_dash, question_of, AnswersTo, AnswersLine}

letters_short : (n : Name) → length (letters_of n) ≤ 8
unfolding letters_of
letters_short name.Ymd = omega arith
letters_short name.Week = omega arith
letters_short name.Ordinal = omega arith
letters_short name.Time = omega arith
letters_short name.Offset = omega arith
letters_short name.Duration = omega arith
letters_short name.Settled = omega arith
letters_short name.Open = omega arith
letters_short name.None = omega arith
letters_short name.Over = omega arith
letters_short name.Dash = omega arith
letters_short name.Unknown = omega arith
letters_short name.Interval = omega arith
letters_short name.Once = omega arith
letters_short name.Repeat = omega arith
letters_short name.Stamp = omega arith
letters_short name.Slash = omega arith

word_short : (w : Word) → length (word_text w) ≤ 22
word_short (word.Name n) = omega (arith, letters_short n)
word_short (word.Number n) = omega (arith, digits_short 20 n)
word_short (word.Minus n) = omega (arith, digits_short 20 n)
word_short (word.Joined n) = omega (arith, letters_short n)
word_short (word.Digits n) = omega (arith, digits_short 20 n)
word_short word.Nothing = omega arith

pub text_short : (l : List Word) → length (text_of l) ≤ 22 * length l
text_short [] = omega arith
text_short (w ∷ l) = simp length-append (omega (arith, word_short w, text_short l))

date_few : (d : Date) → length (date_words d) ≤ 4
date_few (YMD y m d) = omega arith
date_few (Week y w d) = omega arith
date_few (Ordinal y d) = omega arith

stamp_few : (shown : Bool) (v : DateTime) → length (stamp_words shown v) ≤ 11
stamp_few shown v = simp length-append (omega (arith, date_few v.date))

repeat_few : (v : Repetitions) → length (repeat_words v) ≤ 2
repeat_few Once = omega arith
repeat_few Unlimited = omega arith
repeat_few (Times n) = omega arith

-- an interval has at most three words for its shape, and eleven for each side
shape_few : (v : IntervalRange) → length (shape_words v) ≤ 3
shape_few (range.Closed a b) = omega arith
shape_few (range.ClosedEnd d b) = omega arith
shape_few (range.ClosedStart a d) = omega arith
shape_few (range.Open d) = omega arith

sides_few : (shown : Bool) (v : IntervalRange) → length (sides_words shown v) ≤ 22
sides_few shown (range.Closed a b) = rw length-append (omega (arith, stamp_few shown a, stamp_few shown b))
sides_few shown (range.ClosedEnd d b) = rw (length-append (duration_words d)) (omega (arith, stamp_few shown b))
sides_few shown (range.ClosedStart a d) = rw length-append (omega (arith, stamp_few shown a))
sides_few shown (range.Open d) = omega arith

words_few : (shown : Bool) (v : Record) → length (record_words shown v) ≤ 28
words_few shown (record_of.Date v) = omega (arith, date_few v)
words_few shown (record_of.Time v) = omega arith
words_few shown (record_of.Offset v) = omega arith
words_few shown (record_of.Stamp v) = omega (arith, stamp_few shown v)
words_few shown (record_of.Duration v) = omega arith
words_few shown (record_of.Interval v) = simp length-append (omega (arith, repeat_few v.repetitions, shape_few v.range, sides_few shown v.range))

pub record_few : (shown : Bool) (v : Option Record) → length (record_or_dash shown v) ≤ 28
record_few shown none = omega arith
record_few shown (some v) = words_few shown v

parts_short : (a b c : List ℕ) → length a ≤ 20 → length b ≤ 88 → length c ≤ 616 → length (a ++ (b ++ c)) ≤ 800
parts_short a b c x y z = simp length-append (omega arith)

pub answer_short : (shown : Bool) (q : std_option.Option Kind) (s t : List ℕ) → AnswersTo shown q s t → length t ≤ 800
answer_short shown (Some k) s t a =
    let head = head_words a.begun.count shown a.verdict a.whole.number a.whole.count in
    let value = record_or_dash shown a.begun.value in
    rw a.says
    (parts_short (decimal a.begun.number) (text_of head) (text_of value) (digits_short 20 a.begun.number) (text_short head)
    (omega (arith, text_short value, record_few shown a.begun.value)))
answer_short shown None s t a = rw a (omega (arith, letters_short name.Unknown))

pub line_short : (l t : List ℕ) → AnswersLine l t → length t ≤ 1024
line_short l t a = rw a.ends (simp length-append (omega (arith, answer_short true (question_of l) _ a.answer a.answers)))
