-- The sixteen cases hold of the rules: one test over the table, which computes, and one law that makes the statement of it. What the
-- test cannot compute, the verdict over all continuations, the laws over the kind give.
use mathlib.Core.List.{List, [], ◌∷◌}
use mathlib.Core.Option.{Option, some, none}
use mathlib.Core.Path.{◌≡◌, refl, ap}
use lib.IntN.{ℤ, pos}
use lib.ListN.{length}
use Rattle.types.specs.declared.Verdict.{Verdict}
use Rattle.parser.specs.Reading.{lit, seq, opt, alt, verify, map, give}
use Rattle.parser.specs.Digits.{digits_from, digits_more, lowest, highest, reach, field, digits, number_from, run_as}
use Rattle.parser.specs.Answer.{Told, begun, ended, verdict_of, Begins, Ended}
use Rattle.types.specs.Sums.{minutes_in_all}
use Rattle.kinds.specs.declared.answer.Record.{Record}
use Rattle.kinds.specs.declared.answer.Record.TheVariants as record_of
use Rattle.kinds.specs.Kinds.{rule_of, bound}
use Rattle.kinds.proofs.Laws.{says}
use Rattle.offset.specs.Rules as offset-rules
use Rattle.time.specs.Rules as time-rules
use Rattle.date.specs.Rules as date-rules
use Rattle.datetime.specs.Rules as datetime-rules
use Rattle.duration.specs.Rules as duration-rules
use Rattle.cases.specs.Table.{Row, table}

-- what a row says, and what the rules make of its bytes
record Answered : Type 0 where
  told : Told Record
  verdict : Verdict
  whole : Option (Told Record)
  minutes : Option ℤ

stated : Row → Answered
stated r = record { told = r.told; verdict = r.verdict; whole = r.whole; minutes = r.minutes }

asked : {A : Type 0} → Option A → A → Option A
asked none a = none
asked (some b) a = some a

-- the minutes in all of an offset that is told
abbrev pub minutes_told : Told Record → ℤ
minutes_told t = minutes_of t.value
  where
    minutes_of : Option Record → ℤ
    minutes_of (some (record_of.Offset o)) = minutes_in_all o
    minutes_of (some (record_of.Date d)) = pos 0
    minutes_of (some (record_of.Time d)) = pos 0
    minutes_of (some (record_of.Stamp d)) = pos 0
    minutes_of (some (record_of.Duration d)) = pos 0
    minutes_of (some (record_of.Interval d)) = pos 0
    minutes_of none = pos 0

computed : Row → Answered
computed r =
    let f = (rule_of r.kind).reads r.bytes 0 in
    record { told = begun f; verdict = verdict_of ((rule_of r.kind).more r.bytes 0); whole = asked r.whole (ended (length r.bytes) f); minutes = asked r.minutes (minutes_told (begun f)) }

each : {A B : Type 0} → (A → B) → List A → List B
each f [] = []
each f (a ∷ l) = f a ∷ each f l

-- the test: the rules make of every row what it states
sixteen_compute : each computed table ≡ each stated table
unfolding stated computed asked each table lit seq opt alt verify map give field digits_from digits_more reach lowest highest digits number_from run_as offset-rules.offset_minute offset-rules.offset_hour offset-rules.offset_zulu offset-rules.offset time-rules.time_fraction time-rules.millisecond time-rules.second_millisecond time-rules.minute_second_millisecond time-rules.behind_hour time-rules.time_offset time-rules.after_hour time-rules.base_time time-rules.time date-rules.year date-rules.day_of_week date-rules.week_and_day date-rules.md_numeric date-rules.ordinal date-rules.day_of_month date-rules.month_and_day date-rules.date datetime-rules.time_of datetime-rules.after_date datetime-rules.date_time duration-rules.part duration-rules.duration_base_time duration-rules.duration_time duration-rules.parts_rule duration-rules.duration
sixteen_compute = refl

-- what is said where something is named
abbrev Named : {A : Type 0} → Option A → (A → Type 0) → Type 0
Named none P = Unit
Named (some a) P = P a

-- what the paper says of a row, in full: the answer, the verdict over all continuations, and where they are named the whole reader's answer and the minutes in all
pub record Shown (r : Row) : Type 0 where
  pub begins : Begins (bound r.kind) (rule_of r.kind) r.bytes r.told r.verdict
  pub whole : Named r.whole (λ t. Ended (rule_of r.kind) r.bytes t)
  pub minutes : Named r.minutes (λ z. minutes_told r.told ≡ z)

abbrev pub Each : (Row → Type 0) → List Row → Type 0
Each P [] = Unit
Each P (r ∷ l) = P r × Each P l

-- the law: a row that the rules compute is shown in full
shown : (r : Row) → computed r ≡ stated r → Shown r
unfolding computed stated asked
shown r e = record { begins = rw (← ap (λ (a : Answered). a.told) e, ← ap (λ (a : Answered). a.verdict) e) told; whole = whole r.whole (ap (λ (a : Answered). a.whole) e); minutes = minutes r.minutes (ap (λ (a : Answered). a.told) e) (ap (λ (a : Answered). a.minutes) e) }
  where
    told : Begins (bound r.kind) (rule_of r.kind) r.bytes (begun ((rule_of r.kind).reads r.bytes 0)) (verdict_of ((rule_of r.kind).more r.bytes 0))
    told = says r.kind r.bytes _ _ (record { found = refl; more = refl })

    whole : (w : Option (Told Record)) → asked w (ended (length r.bytes) ((rule_of r.kind).reads r.bytes 0)) ≡ w → Named w (λ t. Ended (rule_of r.kind) r.bytes t)
    whole none e = tt
    whole (some t) e = cc

    minutes : (m : Option ℤ) → begun ((rule_of r.kind).reads r.bytes 0) ≡ r.told → asked m (minutes_told (begun ((rule_of r.kind).reads r.bytes 0))) ≡ m → Named m (λ z. minutes_told r.told ≡ z)
    minutes none d e = tt
    minutes (some z) d e = let told : minutes_told (begun ((rule_of r.kind).reads r.bytes 0)) ≡ z = cc in rw d at told

all_shown : (l : List Row) → each computed l ≡ each stated l → Each Shown l
unfolding each
all_shown [] e = tt
all_shown (r ∷ l) e = (shown r (cc), all_shown l (cc))

-- Document 01's sixteen cases.
pub sixteen : Each Shown table
sixteen = all_shown table sixteen_compute

-- and there are sixteen of them
pub sixteen_rows : length table ≡ 16
unfolding table
sixteen_rows = refl
