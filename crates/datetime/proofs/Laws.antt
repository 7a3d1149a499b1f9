-- What holds of every date-time: a date's laws and a time's, and between them a `T`, which no date takes.
use Prim.Native.Nat.{ℕ}
use mathlib.Core.List.{List, [], ◌∷◌}
use mathlib.Core.Bool.{Bool, true}
use mathlib.Core.Path.{◌≡◌, refl}
use Rattle.types.specs.declared.Choices.{Choices}
use Rattle.types.specs.declared.Date.{Date}
use Rattle.types.specs.declared.DateTime.{DateTime}
use Rattle.parser.specs.Reading.{Found, no, got, lit, Says}
use Rattle.parser.specs.Answer.{begun, Begins, verdict_of}
use Rattle.parser.specs.Digits.{is_digit}
use Rattle.parser.proofs.Places.{Bounded}
use Rattle.parser.proofs.Hopeful.{Anything}
use Rattle.parser.proofs.Lawful.{byte, lawful_begins, open_behind, ItemOr, widen, map_item, outside_keeps, then_item}
use Rattle.parser.proofs.Items.{lit_mark, after_item}
use Rattle.parser.proofs.Stops.{StopsBy, lit_stops, map_stops, seq_stops}
use Rattle.parser.proofs.TooFew.{lit_takes, TooFew, map_too_few, then_too_few}
use Rattle.time.proofs.Laws.{MayStop, base_time_item, base_time_too_few}
use Rattle.time.proofs.Stopping.{One, never, base_time_stops}
use Rattle.date.specs.Rules.{date}
use Rattle.date.proofs.Laws.{date_item, date_takes}
use Rattle.datetime.specs.Rules.{time_of, after_date, date_time}

-- what a date-time takes beside digits: `+`, `-`, `W`; `T`, `:`, `,`, `.` and `Z`
abbrev pub bytes : List ℕ
bytes = 43 ∷ 45 ∷ 87 ∷ 84 ∷ 58 ∷ 44 ∷ 46 ∷ 90 ∷ []

after_date_item : (c : Choices) (d : Date) → ItemOr (MayStop c.edition) bytes (byte 84) 3 3 Anything (after_date c d)
unfolding after_date time_of
after_date_item c d = after_item (lit_mark 84 refl) (λ _. map_item _ (widen refl (base_time_item c)))

-- seven bytes complete the date, and `T` and an hour the date-time
pub datetime_item : (c : Choices) → ItemOr (MayStop c.edition) bytes is_digit 10 10 Anything (date_time c)
unfolding date_time
datetime_item c = then_item (outside_keeps 84 refl date_item.lawful) (widen refl date_item) (after_date_item c)

pub datetime_bounded : (c : Choices) → Bounded (date_time c)
datetime_bounded c = (datetime_item c).lawful.steady.bounded

-- what code says of the rule at the beginning is what a reader has to promise: an open date-time has a continuation of at most ten bytes
-- that changes the answer
pub datetime_begins : (c : Choices) (s : List ℕ) (f : Found DateTime) (m : Bool) → Says (date_time c) s 0 f m → Begins 10 (date_time c) s (begun f) (verdict_of m)
datetime_begins c = lawful_begins (datetime_item c).lawful

-- a date-time has ten bytes at least: a date's seven, `T`, and an hour's two
pub datetime_too_few : (c : Choices) → TooFew 9 (date_time c)
unfolding date_time after_date time_of
datetime_too_few c = then_too_few date_takes (λ d. then_too_few (lit_takes 84) (λ _. map_too_few _ (base_time_too_few c)))

-- what stops its reading is no form
pub datetime_stops : (c : Choices) → StopsBy One (date_time c)
unfolding date_time after_date time_of
datetime_stops c = seq_stops (never date_takes.unstopped) (λ d. seq_stops (lit_stops 84) (λ _. map_stops _ (base_time_stops c)))

-- ---- where a date is open no T stands behind it, which no date takes

pub open_date : (s : List ℕ) (at : ℕ) (d : Date) (n : ℕ) → Says date s at (got d n) true → (lit 84).reads s n ≡ no
open_date = open_behind date_item.lawful 84 refl
