-- What an answer is in slots. Slot 0 has the count, slot 1 the verdict, and the record stands from slot 2 on. A refusal writes the
-- first two alone.
use Rattle.std.specs.Prelude.{ℕ, suc, ◌-◌, ◌<◌, ◌≤◌, ◌^◌, List, [], ◌∷◌, ◌++◌, ◌≡◌, ℤ, pos, negsuc, length, drop, replicate, ltb}
use Rattle.std.proofs.Math.Option.{Option, some, none}
use Rattle.types.specs.declared.Verdict.{Verdict}
use Rattle.types.specs.declared.Verdict.TheVariants.{Settled, Open}
use Rattle.types.specs.declared.Offset.{Offset}
use Rattle.std.specs.declared.option.Option as std_option
use Rattle.std.specs.declared.option.Option.TheVariants.{None, Some}
use Rattle.types.specs.declared.Time.{Time}
use Rattle.types.specs.declared.Date.{Date}
use Rattle.types.specs.declared.Date.TheVariants.{YMD, Week, Ordinal}
use Rattle.types.specs.declared.DateTime.{DateTime}
use Rattle.types.specs.declared.Duration.{Duration}
use Rattle.types.specs.declared.Interval.{Interval}
use Rattle.types.specs.declared.IntervalRange.{IntervalRange}
use Rattle.types.specs.declared.IntervalRange.TheVariants as range
use Rattle.types.specs.declared.Repetitions.{Repetitions}
use Rattle.types.specs.declared.Repetitions.TheVariants.{Once, Unlimited, Times}
use Rattle.parser.specs.Reading.{pick}
use Rattle.parser.specs.Answer.{Told}

-- ---- the record of each kind, slot by slot

abbrev pub offset_slots : Offset → List ℤ
offset_slots o = o.hours ∷ o.minutes ∷ []

-- 1 and the offset, or 0 and zeros: absent is told from zero by the first of the three
abbrev pub time_offset_slots : std_option.Option Offset → List ℤ
time_offset_slots None = pos 0 ∷ pos 0 ∷ pos 0 ∷ []
time_offset_slots (Some o) = pos 1 ∷ offset_slots o

-- behind the offset the number of the fraction's digits
abbrev pub behind_slots : std_option.Option Offset → ℕ → List ℤ
behind_slots o digits = time_offset_slots o ++ pos digits ∷ []

abbrev pub time_slots : Time → List ℤ
time_slots t = pos t.hour ∷ pos t.minute ∷ pos t.second ∷ pos t.nanosecond ∷ behind_slots t.offset t.digits

-- the form (0 calendar, 1 week, 2 ordinal), the year, the month or week, the day; an ordinal date has 0 for the month
abbrev pub date_slots : Date → List ℤ
date_slots (YMD y m d) = pos 0 ∷ y ∷ pos m ∷ pos d ∷ []
date_slots (Week y w d) = pos 1 ∷ y ∷ pos w ∷ pos d ∷ []
date_slots (Ordinal y d) = pos 2 ∷ y ∷ pos 0 ∷ pos d ∷ []

abbrev pub date_time_slots : DateTime → List ℤ
date_time_slots x = date_slots x.date ++ time_slots x.time

-- A number of 64 bits, in a slot that has a sign: the slot has the same bits, so that a number from 2 ^ 63 on stands there less 2 ^ 64.
abbrev pub as_slot : ℕ → ℤ
as_slot n = pick (ltb n (2 ^ 63)) (pos n) (negsuc (2 ^ 64 - suc n))

abbrev pub duration_slots : Duration → List ℤ
duration_slots d =
    as_slot d.years ∷ as_slot d.months ∷ as_slot d.weeks ∷ as_slot d.days ∷ as_slot d.hours ∷ as_slot d.minutes ∷ as_slot d.seconds
    ∷ []

-- how often an interval repeats: 0 once, 1 `R/`, 2 a number of times; and that number, or 0
abbrev pub repeat_slots : Repetitions → List ℤ
repeat_slots Once = pos 0 ∷ pos 0 ∷ []
repeat_slots Unlimited = pos 1 ∷ pos 0 ∷ []
repeat_slots (Times n) = pos 2 ∷ pos n ∷ []

abbrev pub shape_of : IntervalRange → ℕ
shape_of (range.Closed a b) = 0
shape_of (range.ClosedEnd d b) = 1
shape_of (range.ClosedStart a d) = 2
shape_of (range.Open d) = 3

-- A side of an interval is laid out as an answer of its kind, with 0 for the count and the verdict, and has as many slots as that of a
-- date-time, fourteen. A duration leaves five of them 0; where it stands alone, all of the second side are.
abbrev pub stamp_side : DateTime → List ℤ
stamp_side x = pos 0 ∷ pos 0 ∷ date_time_slots x

abbrev pub duration_side : Duration → List ℤ
duration_side d = pos 0 ∷ pos 0 ∷ duration_slots d ++ replicate 5 (pos 0)

abbrev pub no_side : List ℤ
no_side = replicate 14 (pos 0)

-- in the order of the text
abbrev pub side_slots : IntervalRange → List ℤ
side_slots (range.Closed a b) = stamp_side a ++ stamp_side b
side_slots (range.ClosedEnd d b) = duration_side d ++ stamp_side b
side_slots (range.ClosedStart a d) = stamp_side a ++ duration_side d
side_slots (range.Open d) = duration_side d ++ no_side

abbrev pub interval_slots : Interval → List ℤ
interval_slots x = repeat_slots x.repetitions ++ pos (shape_of x.range) ∷ side_slots x.range

-- ---- all the slots of an answer

abbrev pub verdict_slot : Verdict → ℤ
verdict_slot Settled = pos 0
verdict_slot Open = pos 1

-- a whole reader has no verdict
abbrev pub no_verdict : ℤ
no_verdict = negsuc 0

-- a refusal has a record of no kind
abbrev pub no_slots : ⊥ → List ℤ
no_slots _ = []

abbrev pub record_slots : {A : Type 0} → (A → List ℤ) → Option A → List ℤ
record_slots slots (some a) = slots a
record_slots slots none = []

abbrev pub answer_slots : {A : Type 0} → (A → List ℤ) → ℤ → Told A → List ℤ
answer_slots slots v told = pos told.count ∷ v ∷ record_slots slots told.value

-- the first slots anew, and the others as they were
abbrev pub over : List ℤ → List ℤ → List ℤ
over new old = new ++ drop (length new) old

-- ---- the promises

-- too few slots: 255, and nothing is written
abbrev pub Untouched : List ℤ → List ℤ → ℕ → Type 0
Untouched before after r = (r ≡ 255) × (after ≡ before)

pub record Answered {A : Type 0} (slots : A → List ℤ) (v : ℤ) (told : Told A) (before after : List ℤ) (r : ℕ) : Type 0 where
  pub number : r ≡ told.number
  pub filled : after ≡ over (answer_slots slots v told) before

-- of an answer that takes n slots, whatever slots are there and whatever the count; one of 2 ^ 63 or more is more than a slot holds
pub record PutIn {A : Type 0} (n : ℕ) (slots : A → List ℤ) (v : ℤ) (told : Told A) (before after : List ℤ) (r : ℕ) : Type 0 where
  pub few : length before < n → Untouched before after r
  pub far : 2 ^ 63 ≤ told.count → Untouched before after r
  pub room : n ≤ length before → told.count < 2 ^ 63 → Answered slots v told before after r
