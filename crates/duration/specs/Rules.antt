-- Document 01's rule of durations, sentence by sentence. Letters are bytes: P 80, T 84; Y 89, M 77, W 87, D 68; H 72, M 77, S 83.
use Rattle.std.specs.Prelude.{ℕ, Bool, true, false}
use Rattle.std.proofs.Math.Option.{Option, some, none}
use Rattle.types.specs.declared.Duration.{Duration}
use Rattle.parser.specs.Reading.{Reader, or, lit, seq, opt, verify, map, give}
use Rattle.parser.specs.Digits.{run}
use Rattle.parser.specs.Fields.{or_zero}
use Rattle.duration.specs.declared.DurationTimeParts.{DurationTimeParts}

-- "A part is a digit run and its letter." A run above the limit is refusal 2 wherever a part is tried, whatever its letter.
unfoldable pub part : ℕ → Reader ℕ
part letter = seq run (λ v. map (λ _. v) (lit letter))

-- "a zero part counts as present": what counts is that it was read
abbrev pub present : {A : Type 0} → Option A → Bool
present none = false
present (some a) = true

-- "at least one of H, M, S in this order"
pub record TimeParts : Type 0 where
  pub hours : Option ℕ
  pub minutes : Option ℕ
  pub seconds : Option ℕ

abbrev pub some_time : TimeParts → Bool
some_time t = or (present t.hours) (or (present t.minutes) (present t.seconds))

-- a part that is absent is 0 in the record
abbrev pub time_of : TimeParts → DurationTimeParts
time_of t = record { hours = or_zero t.hours; minutes = or_zero t.minutes; seconds = or_zero t.seconds }

unfoldable pub duration_base_time : Reader DurationTimeParts
duration_base_time =
    map time_of
    (verify some_time
    (seq (opt (part 72)) (λ h. seq (opt (part 77)) (λ m. seq (opt (part 83)) (λ s. give (record { hours = h; minutes = m; seconds = s }))))))

-- "{optional `T`, then at least one of H, M, S in this order}"
unfoldable pub duration_time : Reader DurationTimeParts
duration_time = seq (opt (lit 84)) (λ _. duration_base_time)

-- "optional parts Y, M, W, D in this order, then optionally {..}"
pub record Parts : Type 0 where
  pub years : Option ℕ
  pub months : Option ℕ
  pub weeks : Option ℕ
  pub days : Option ℕ
  pub time : Option DurationTimeParts

unfoldable pub parts_rule : Reader Parts
parts_rule =
    seq (opt (part 89)) (λ y. seq (opt (part 77)) (λ mo. seq (opt (part 87)) (λ w. seq (opt (part 68)) (λ d.
    seq (opt duration_time) (λ t. give (record { years = y; months = mo; weeks = w; days = d; time = t }))))))

-- "One part must be present": one of these four, or the time, which has one of its own
abbrev pub some_part : Parts → Bool
some_part p = or (present p.years) (or (present p.months) (or (present p.weeks) (or (present p.days) (present p.time))))

abbrev pub time_or_zero : Option DurationTimeParts → DurationTimeParts
time_or_zero none = record { hours = 0; minutes = 0; seconds = 0 }
time_or_zero (some t) = t

abbrev pub duration_of : Parts → Duration
duration_of p = record {
  years = or_zero p.years;
  months = or_zero p.months;
  weeks = or_zero p.weeks;
  days = or_zero p.days;
  hours = (time_or_zero p.time).hours;
  minutes = (time_or_zero p.time).minutes;
  seconds = (time_or_zero p.time).seconds;
}

-- "`P`, then .."
unfoldable pub duration : Reader Duration
duration = map duration_of (verify some_part (seq (lit 80) (λ _. parts_rule)))
