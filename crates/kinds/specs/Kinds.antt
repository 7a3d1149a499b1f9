-- The rule of each kind, under the choices that it is named with, as a reader of records of any kind, and what is promised of the code's answers.
use Rattle.std.specs.Prelude.{ℕ, List, Result, ◌≡◌, eqb}
use Rattle.std.specs.declared.option.Option.{Option}
use Rattle.std.specs.declared.option.Option.TheVariants.{None, Some}
use Rattle.std.specs.declared.result.Result.TheVariants.{Ok, Err}
use Rattle.types.specs.Editions.{document01}
use Rattle.types.specs.declared.Choices.{Choices}
use Rattle.parser.specs.Reading.{Reader, map, pick}
use Rattle.parser.specs.Answer.{Begins, Ended}
use Rattle.parser.specs.Told.{told}
use Rattle.parser.specs.declared.answer.Counted.{Counted}
use Rattle.parser.specs.declared.answer.Refused.{Refused}
use Rattle.parser.specs.declared.answer.Read.{Read}
use Rattle.date.specs.Rules.{date}
use Rattle.time.specs.Rules.{time}
use Rattle.offset.specs.Rules.{offset}
use Rattle.datetime.specs.Rules.{date_time}
use Rattle.duration.specs.Rules.{duration}
use Rattle.interval.specs.Once.{interval}
use Rattle.kinds.specs.declared.answer.Kind.{Kind}
use Rattle.kinds.specs.declared.answer.Kind.TheVariants as kind
use Rattle.kinds.specs.declared.answer.Record.{Record}
use Rattle.kinds.specs.declared.answer.Record.TheVariants as record_of

abbrev pub rule_of : Kind → Reader Record
rule_of kind.Date = map record_of.Date date
rule_of (kind.Time c) = map record_of.Time (time c)
rule_of kind.Offset = map record_of.Offset offset
rule_of (kind.Stamp c) = map record_of.Stamp (date_time c)
rule_of kind.Duration = map record_of.Duration duration
rule_of (kind.Interval c) = map record_of.Interval (interval c)

-- what a kind was named with; document 01's choices where its rule has none
abbrev pub choices_in : Kind → Choices
choices_in kind.Date = document01
choices_in (kind.Time c) = c
choices_in kind.Offset = document01
choices_in (kind.Stamp c) = c
choices_in kind.Duration = document01
choices_in (kind.Interval c) = c

-- so many bytes, or fewer, change the answer where it is open, and there is an input that needs as many (`Far.antt`)
abbrev pub bound : Kind → ℕ
bound kind.Date = 7
bound (kind.Time c) = 2
bound kind.Offset = 2
bound (kind.Stamp c) = 10
bound kind.Duration = 3
-- W12: "with fourteen bytes in place of W11's ten"
bound (kind.Interval c) = 14

-- "a letter `d`, `t`, `o`, `s` or `p` (date, time, offset, date-time, duration)", and W12's `i`
abbrev pub letter_of : Choices → ℕ → Option Kind
letter_of c b =
    pick (eqb b 100) (Some kind.Date)
    (pick (eqb b 116) (Some (kind.Time c))
    (pick (eqb b 111) (Some kind.Offset) (pick (eqb b 115) (Some (kind.Stamp c)) (pick (eqb b 112) (Some kind.Duration) (pick (eqb b 105) (Some (kind.Interval c)) None)))))

-- the same where intervals have no letter: what breaks a text and a week's counts are asked of the five kinds before W12
abbrev pub among_five : Option Kind → Option Kind
among_five (Some (kind.Interval c)) = None
among_five (Some kind.Date) = Some kind.Date
among_five (Some (kind.Time c)) = Some (kind.Time c)
among_five (Some kind.Offset) = Some kind.Offset
among_five (Some (kind.Stamp c)) = Some (kind.Stamp c)
among_five (Some kind.Duration) = Some kind.Duration
among_five None = None

-- an answer on a text of any kind
abbrev pub Answer : Type 0
Answer = Result (Counted Record) Refused

-- what the two readers promise of their answers
abbrev pub Reads : Kind → List ℕ → Read Record → Type 0
Reads k s r = Begins (bound k) (rule_of k) s (told r.answer) r.verdict

abbrev pub Parses : Kind → List ℕ → Answer → Type 0
Parses k s a = Ended (rule_of k) s (told a)

-- the same answer, its record put among those of any kind by a conversion
abbrev pub SameBy : {A B : Type 0} → (A → B → Type 0) → Result (Counted A) Refused → Result (Counted B) Refused → Type 0
SameBy converts (Ok r) (Ok q) = converts r.value q.value × (q.count ≡ r.count)
SameBy converts (Ok r) (Err e) = ⊥
SameBy converts (Err e) (Ok q) = ⊥
SameBy converts (Err e) (Err d) = d ≡ e
