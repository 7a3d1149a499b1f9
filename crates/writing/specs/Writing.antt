-- What a writer answers, and what it promises of its answer and of its buffer.
use Rattle.std.specs.Prelude.{ℕ, ◌≤◌, ◌<◌, List, ◌++◌, Bool, ◌≡◌, ltb, length, drop, Option, Some, None, Result, Ok, Err}
use Rattle.std.specs.Bool.{then_some}
use Rattle.parser.specs.Reading.{Reader, got, pick}
use Rattle.writing.specs.declared.Unwritten.{Unwritten}
use Rattle.writing.specs.declared.Unwritten.TheVariants.{NoReader, TooShort}

-- "The count is the text's length, 0 on refusal". "Refusals: 4, a record that no reader gives; then 5, buffer shorter than the text."
abbrev pub number_of : Result ℕ Unwritten → ℕ
number_of (Ok n) = 0
number_of (Err NoReader) = 4
number_of (Err TooShort) = 5

abbrev pub count_of : Result ℕ Unwritten → ℕ
count_of (Ok n) = n
count_of (Err why) = 0

-- some reader gives the record: some bytes are read to it
pub record Readable {A : Type 0} (p : Reader A) (a : A) : Type 0 where
  pub bytes : List ℕ
  pub count : ℕ
  pub reads : p.reads bytes 0 ≡ got a count

-- how long a record's spelling is, where some reader gives the record
pub record Measures {A : Type 0} (p : Reader A) (a : A) (text : List ℕ) (m : Option ℕ) : Type 0 where
  pub unread : (Readable p a → ⊥) → m ≡ None
  pub long : Readable p a → m ≡ Some (length text)

-- the same, by the ranges that tell whether some reader gives it
abbrev pub measure : Bool → ℕ → Option ℕ
measure given n = then_some given n

-- the length, where some reader gives the record and the text has room in so many bytes
abbrev pub room_for : Option ℕ → ℕ → Result ℕ Unwritten
room_for None size = Err NoReader
room_for (Some n) size = pick (ltb size n) (Err TooShort) (Ok n)

-- the answer has the number k and the count n, and the buffer is l
pub record Leaves (k n : ℕ) (l new : List ℕ) (w : Result ℕ Unwritten) : Type 0 where
  pub number : number_of w ≡ k
  pub count : count_of w ≡ n
  pub buffer : new ≡ l

-- a text at the front of a buffer: "bytes past that count keep their contents"
abbrev pub over : List ℕ → List ℕ → List ℕ
over text old = text ++ drop (length text) old

-- all that the writer of the record a, whose rule is p and whose spelling is text, promises of its answer and its buffer
pub record Writes {A : Type 0} (p : Reader A) (a : A) (text old new : List ℕ) (w : Result ℕ Unwritten) : Type 0 where
  pub unread : (Readable p a → ⊥) → Leaves 4 0 old new w
  pub short : Readable p a → length old < length text → Leaves 5 0 old new w
  pub fits : Readable p a → length text ≤ length old → Leaves 0 (length text) (over text old) new w
