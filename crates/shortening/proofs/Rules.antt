-- What can be left out of a record, and how far its rule comes then: by the laws of the combinators, a rule in a few lines.
use Prim.Native.Nat.{ℕ}
use mathlib.Core.Bool.{Bool, true, false}
use mathlib.Core.Path.{refl}
use Rattle.types.specs.declared.Choices.{Choices}
use Rattle.types.specs.declared.Edition.{Edition}
use Rattle.types.specs.declared.Edition.TheVariants.{E2004, E2019}
use Rattle.types.specs.declared.Reading.{Reading}
use Rattle.types.specs.declared.Reading.TheVariants.{Old, Standard}
use Rattle.parser.specs.Reading.{seq}
use Rattle.parser.specs.Digits.{field}
use Rattle.parser.specs.Fields.{signed, either, preceded_by, or_zero}
use Rattle.offset.specs.Rules.{offset, offset_hour, offset_minute, offset_zulu}
use Rattle.time.specs.declared.TimeUnit.{TimeUnit}
use Rattle.time.specs.declared.TimeUnit.TheVariants.{Hour}
use Rattle.time.specs.Rules.{hour_of, ends_day, zero_if, numbers_if, fraction_if, unit_of, time, base_time, after_hour, time_offset, behind_hour, minute_second_millisecond, second_millisecond, millisecond, time_fraction}
use Rattle.date.specs.Rules.{date, year, week_and_day, day_of_week, md_numeric, ordinal, month_and_day, day_of_month}
use Rattle.datetime.specs.Rules.{date_time, after_date, time_of}
use Rattle.duration.specs.Rules.{duration, parts_rule, duration_time, duration_base_time}
use Rattle.interval.specs.Followed.{zero_minute, zero_behind, zero_tail, tail_of, followed_time, followed}
use Rattle.interval.specs.Followed as behind
use Rattle.shortening.proofs.Families.{zeros, fractions}
use Rattle.shortening.proofs.Trims.{Trims, lit_trims, seq_trims, opt_trims, alt_trims, verify_trims, must_trims, map_trims, give_trims, preceded_trims}
use Rattle.shortening.proofs.Zeros.{part_trims}
use Rattle.shortening.proofs.Fields.{field_trims}
use Rattle.shortening.proofs.Fractions.{zero_joined, Joined, point_trims}

pub duration_trims : Trims zeros 149 duration
unfolding duration parts_rule duration_time duration_base_time
duration_trims =
    map_trims _
    (verify_trims _
    (seq_trims (lit_trims zeros 80 refl) (λ _.
    seq_trims (opt_trims (part_trims 89 refl)) (λ _. seq_trims (opt_trims (part_trims 77 refl)) (λ _. seq_trims (opt_trims (part_trims 87 refl)) (λ _. seq_trims (opt_trims (part_trims 68 refl)) (λ _.
    seq_trims (opt_trims (seq_trims (opt_trims (lit_trims zeros 84 refl)) (λ _. map_trims _ (verify_trims _ (seq_trims (opt_trims (part_trims 72 refl)) (λ _. seq_trims (opt_trims (part_trims 77 refl)) (λ _. seq_trims (opt_trims (part_trims 83 refl)) (λ _. give_trims _)))))))) (λ _.
    give_trims _))))))))

signed_trims : Trims fractions 1 signed
signed_trims = alt_trims (map_trims _ (lit_trims fractions 45 refl)) (map_trims _ (lit_trims fractions 43 refl))

pub offset_trims : Trims fractions 6 offset
unfolding offset offset_hour offset_minute offset_zulu
offset_trims =
    alt_trims
    (seq_trims signed_trims (λ _. seq_trims (field_trims 2 0 23) (λ _. map_trims _ (verify_trims _ (opt_trims (preceded_trims 58 refl (field_trims 2 0 59)))))))
    (map_trims _ (lit_trims fractions 90 refl))

-- what is read behind an hour, whether or not it has to be 0
zero_trims : (z : Bool) (hi : ℕ) → Trims fractions 3 (preceded_by 58 (zero_if z (field 2 0 hi)))
zero_trims true hi = preceded_trims 58 refl (must_trims _ 1 (field_trims 2 0 hi))
zero_trims false hi = preceded_trims 58 refl (field_trims 2 0 hi)

fraction_trims : (z : Bool) → Trims fractions 11 (seq (either 44 46) (λ _. fraction_if z))
fraction_trims z = point_trims (numbers_if z) 1 (joined z)
  where
    joined : (z : Bool) → Joined (numbers_if z)
    joined true = zero_joined
    joined false = λ c x. refl

unit_trims : (u : TimeUnit) (z : Bool) (mi se : ℕ) → Trims fractions 11 (time_fraction u z mi se)
unfolding time_fraction
unit_trims u z mi se = map_trims _ (fraction_trims z)

clock_trims : (r : Reading) (z : Bool) → Trims fractions 17 (minute_second_millisecond r z)
unfolding minute_second_millisecond second_millisecond millisecond
clock_trims r z =
    seq_trims (zero_trims z 59) (λ mi.
    seq_trims (opt_trims (zero_trims z 60)) (λ se. map_trims _ (opt_trims (unit_trims (unit_of r se) z mi (or_zero se)))))

behind_trims : (r : Reading) (z : Bool) → Trims fractions 17 (behind_hour r z)
unfolding behind_hour
behind_trims Old z = clock_trims Old z
behind_trims Standard z = alt_trims (clock_trims Standard z) (unit_trims Hour z 0 0)

hour_trims : (e : Edition) → Trims fractions 2 (hour_of e)
hour_trims E2019 = field_trims 2 0 23
hour_trims E2004 = field_trims 2 0 24

base_time_trims : (c : Choices) → Trims fractions 25 (base_time c)
unfolding base_time after_hour time_offset
base_time_trims c = seq_trims (hour_trims c.edition) (λ h. seq_trims (opt_trims (behind_trims c.reading (ends_day c.edition h))) (λ _. map_trims _ (opt_trims offset_trims)))

pub time_trims : (c : Choices) → Trims fractions 26 (time c)
unfolding time
time_trims c = preceded_trims 84 refl (base_time_trims c)

year_trims : Trims fractions 5 year
unfolding year
year_trims = seq_trims (opt_trims signed_trims) (λ _. map_trims _ (field_trims 4 100 9999))

pub date_trims : Trims fractions 11 date
unfolding date week_and_day day_of_week md_numeric ordinal month_and_day day_of_month
date_trims =
    alt_trims
    (seq_trims year_trims (λ _. preceded_trims 45 refl (seq_trims (seq_trims (lit_trims fractions 87 refl) (λ _. field_trims 2 1 52)) (λ _. map_trims _ (map_trims _ (verify_trims _ (opt_trims (preceded_trims 45 refl (field_trims 1 0 9)))))))))
    (alt_trims
    (seq_trims year_trims (λ _. seq_trims (field_trims 2 1 12) (λ _. map_trims _ (field_trims 2 1 31))))
    (alt_trims
    (seq_trims year_trims (λ _. preceded_trims 45 refl (map_trims _ (field_trims 3 1 366))))
    (seq_trims year_trims (λ _. seq_trims (lit_trims fractions 45 refl) (λ _. seq_trims (field_trims 2 1 12) (λ _. map_trims _ (map_trims _ (opt_trims (preceded_trims 45 refl (field_trims 2 1 31))))))))))

pub datetime_trims : (c : Choices) → Trims fractions 37 (date_time c)
unfolding date_time after_date time_of
datetime_trims c = seq_trims date_trims (λ _. seq_trims (lit_trims fractions 84 refl) (λ _. map_trims _ (base_time_trims c)))

-- ---- a date-time that something must follow

zeros_trims : Trims fractions 3 behind.zeros
zeros_trims = preceded_trims 58 refl (field_trims 2 0 0)

zero_minute_trims : (r : Reading) → Trims fractions 17 (zero_minute r)
unfolding zero_minute millisecond
zero_minute_trims r = seq_trims zeros_trims (λ mi. seq_trims (opt_trims zeros_trims) (λ se. map_trims _ (opt_trims (unit_trims (unit_of r se) true mi (or_zero se)))))

zero_behind_trims : (r : Reading) → Trims fractions 17 (zero_behind r)
unfolding zero_behind
zero_behind_trims Old = zero_minute_trims Old
zero_behind_trims Standard = alt_trims (zero_minute_trims Standard) (unit_trims Hour true 0 0)

tail_trims : (r : Reading) (z : Bool) (h : ℕ) → Trims fractions 23 (tail_of r z h)
unfolding tail_of zero_tail after_hour time_offset
tail_trims r false h = seq_trims (opt_trims (behind_trims r false)) (λ _. map_trims _ (opt_trims offset_trims))
tail_trims r true h = seq_trims (opt_trims (zero_behind_trims r)) (λ _. map_trims _ (opt_trims offset_trims))

pub followed_trims : (c : Choices) → Trims fractions 37 (followed c)
unfolding followed followed_time
followed_trims c = seq_trims date_trims (λ _. seq_trims (lit_trims fractions 84 refl) (λ _. map_trims _ (seq_trims (hour_trims c.edition) (λ h. tail_trims c.reading (ends_day c.edition h) h))))
