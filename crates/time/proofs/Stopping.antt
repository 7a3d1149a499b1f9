-- What stops the reading of a time is no form: an hour 24 with something behind it that is not 0.
use Prim.Native.Nat.{ℕ}
use mathlib.Core.Bool.{Bool, true, false}
use mathlib.Core.Path.{◌≡◌, refl}
use Rattle.types.specs.declared.Choices.{Choices}
use Rattle.types.specs.declared.Edition.{Edition}
use Rattle.types.specs.declared.Edition.TheVariants.{E2004, E2019}
use Rattle.types.specs.declared.Reading.{Reading}
use Rattle.types.specs.declared.Reading.TheVariants.{Old, Standard}
use Rattle.parser.specs.Reading.{Reader}
use Rattle.parser.specs.Digits.{field, fraction_of}
use Rattle.parser.specs.Fields.{preceded_by, or_zero}
use Rattle.parser.proofs.Stops.{StopsBy, lit_stops, field_stops, run_stops, map_stops, must_stops, opt_stops, alt_stops, seq_stops}
use Rattle.parser.proofs.Unstopped.{Unstopped}
use Rattle.offset.proofs.Laws.{offset_unstopped}
use Rattle.time.specs.declared.Clock.{Clock}
use Rattle.time.specs.declared.TimeUnit.{TimeUnit}
use Rattle.time.specs.declared.TimeUnit.TheVariants.{Hour}
use Rattle.time.specs.Rules.{hour_of, ends_day, zero_if, numbers_if, unit_of, time_fraction, millisecond, second_millisecond, minute_second_millisecond, behind_hour, time_offset, after_hour, base_time}

abbrev pub One : ℕ → Type 0
One r = r ≡ 1

pub never : {A : Type 0} {p : Reader A} → Unstopped p → StopsBy One p
never hp = record { by = λ s at r e. absurd (hp.by s at r e) }

pub hour_stops : (e : Edition) → StopsBy One (hour_of e)
hour_stops E2019 = field_stops 2 0 23
hour_stops E2004 = field_stops 2 0 24

pub colon_stops : (z : Bool) (hi : ℕ) → StopsBy One (preceded_by 58 (zero_if z (field 2 0 hi)))
colon_stops z hi = seq_stops (opt_stops (lit_stops 58)) (λ _. go z)
  where
    go : (z : Bool) → StopsBy One (zero_if z (field 2 0 hi))
    go true = must_stops _ 1 refl (field_stops 2 0 hi)
    go false = field_stops 2 0 hi

pub fraction_stops : (u : TimeUnit) (z : Bool) (mi se : ℕ) → StopsBy One (time_fraction u z mi se)
unfolding time_fraction
fraction_stops u z mi se = map_stops _ (seq_stops (alt_stops (lit_stops 44) (lit_stops 46)) (λ _. run_stops fraction_of (numbers_if z) 1 refl))

pub part_stops : (u : TimeUnit) (z : Bool) (mi se : ℕ) → StopsBy One (millisecond u z mi se)
unfolding millisecond
part_stops u z mi se = map_stops _ (opt_stops (fraction_stops u z mi se))

minute_stops : (r : Reading) (z : Bool) → StopsBy One (minute_second_millisecond r z)
unfolding minute_second_millisecond second_millisecond
minute_stops r z = seq_stops (colon_stops z 59) (λ mi. seq_stops (opt_stops (colon_stops z 60)) (λ se. part_stops (unit_of r se) z mi (or_zero se)))

behind_stops : (r : Reading) (z : Bool) → StopsBy One (behind_hour r z)
unfolding behind_hour
behind_stops Old z = minute_stops Old z
behind_stops Standard z = alt_stops (minute_stops Standard z) (fraction_stops Hour z 0 0)

pub offset_stops : (h : ℕ) (c : Clock) → StopsBy One (time_offset h c)
unfolding time_offset
offset_stops h c = map_stops _ (opt_stops (never offset_unstopped))

pub after_hour_stops : (r : Reading) (z : Bool) (h : ℕ) → StopsBy One (after_hour r z h)
unfolding after_hour
after_hour_stops r z h = seq_stops (opt_stops (behind_stops r z)) (λ c. offset_stops h _)

pub base_time_stops : (c : Choices) → StopsBy One (base_time c)
unfolding base_time
base_time_stops c = seq_stops (hour_stops c.edition) (λ h. after_hour_stops c.reading (ends_day c.edition h) h)
