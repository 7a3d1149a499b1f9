-- The old reading of 2019 is document 01 as it stands, with W7's digits beside its nanoseconds: its rule of times, written here without
-- editions and readings, is the rule of that choice.
use Prim.Native.Nat.{ℕ}
use mathlib.Core.Path.{◌≡◌, refl}
use Rattle.types.specs.declared.Fraction.{Fraction}
use Rattle.types.specs.declared.Time.{Time}
use Rattle.types.specs.Editions.{document01}
use Rattle.parser.specs.Reading.{Reader, seq, opt, map}
use Rattle.parser.specs.Digits.{fraction}
use Rattle.parser.specs.Fields.{hour, minute, second, either, preceded_by, or_zero}
use Rattle.time.specs.declared.Clock.{Clock}
use Rattle.time.specs.Rules as rules

-- "It counts as a fraction of a second even where no second was written."
abbrev with_fraction : ℕ → ℕ → Fraction → Clock
with_fraction mi se f = record { minute = mi; second = se; fraction = f }

-- "then optionally {optional colon, minute 00 to 59; optionally {optional colon, second 00 to 60}; optionally {comma or point, one or more digits}}"
abbrev clock : Reader Clock
clock =
    seq (preceded_by 58 minute) (λ mi.
    seq (opt (preceded_by 58 second)) (λ se.
    map (rules.or_whole mi (or_zero se)) (opt (map (with_fraction mi (or_zero se)) (seq (either 44 46) (λ _. fraction))))))

-- "Hour 00 to 23; [..]; then optionally an offset."
abbrev pub base_time : Reader Time
base_time = seq hour (λ h. seq (opt clock) (λ c. rules.time_offset h (rules.or_whole 0 0 c)))

pub base_time_document01 : rules.base_time document01 ≡ base_time
unfolding rules.base_time rules.after_hour rules.behind_hour rules.minute_second_millisecond rules.second_millisecond rules.millisecond rules.time_fraction
base_time_document01 = refl

pub time_document01 : rules.time document01 ≡ preceded_by 84 base_time
unfolding rules.time rules.base_time rules.after_hour rules.behind_hour rules.minute_second_millisecond rules.second_millisecond rules.millisecond rules.time_fraction
time_document01 = refl
