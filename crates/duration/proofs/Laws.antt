-- The laws of durations, part by part: an open part is completed by its letter, or `0` and its letter, and then some part is given.
use Rattle.std.proofs.Common.{◌≡◌, ℕ, Bool, true, false, List, [], ◌∷◌, refl}
use mathlib.Core.Option.{Option, none}
use Rattle.types.specs.declared.Duration.{Duration}
use Rattle.parser.specs.Reading.{Found, Reader, lit, seq, opt, verify, give, or, Says}
use Rattle.parser.specs.Answer.{begun, Begins, verdict_of}
use Rattle.parser.specs.Digits.{is_digit}
use Rattle.parser.proofs.Places.{Bounded, lit_fails, map_fails}
use Rattle.parser.proofs.General.{Eager}
use Rattle.parser.proofs.Hopeful.{Anything}
use Rattle.parser.proofs.Alike.{verify_behind}
use Rattle.parser.proofs.Lawful.{member, byte, lawful_begins, TailIf, give_tail, seq_tail, Item, map_item, opt_tail_if, required_item, alike_item}
use Rattle.parser.proofs.Items.{lit_mark, after_item, preceded_item, run_item}
use Rattle.parser.proofs.TooFew.{lit_takes, TooFew, too_few_fails, map_too_few, then_too_few, preceded_too_few, alike_too_few, run_too_few}
use Rattle.duration.specs.declared.DurationTimeParts.{DurationTimeParts}
use Rattle.duration.specs.Rules.{part, present, TimeParts, some_time, duration_base_time, duration_time, Parts, parts_rule, some_part, duration}

-- what a duration takes beside digits: `P`, `T`; `Y`, `M`, `W`, `D`; `H` and `S`
abbrev pub bytes : List ℕ
bytes = 80 ∷ 84 ∷ 89 ∷ 77 ∷ 87 ∷ 68 ∷ 72 ∷ 83 ∷ []

part_item : (c : ℕ) → member bytes c ≡ true → is_digit c ≡ false → Item bytes is_digit 2 2 Anything (part c)
unfolding part
part_item c h d = run_item c d (λ v. map_item _ (lit_mark c h).item)

part_too_few : (c : ℕ) → TooFew 1 (part c)
unfolding part
part_too_few c = run_too_few _ (λ v. map_fails _ (lit c) (lit_fails c))

pub or_true : (a : Bool) → or a true ≡ true
or_true true = refl
or_true false = refl

-- ---- H, M and S: each may be absent where one is given, and one must be

abbrev pub clock : Option ℕ → Option ℕ → Option ℕ → TimeParts
clock h m x = record { hours = h; minutes = m; seconds = x }

abbrev SomeTime : TimeParts → Type 0
SomeTime t = some_time t ≡ true

abbrev pub from_seconds : Option ℕ → Option ℕ → Reader TimeParts
from_seconds h m = seq (opt (part 83)) (λ x. give (clock h m x))

abbrev pub from_minutes : Option ℕ → Reader TimeParts
from_minutes h = seq (opt (part 77)) (λ m. from_seconds h m)

seconds_tail : (h m : Option ℕ) → TailIf (SomeTime (clock h m none)) bytes 2 SomeTime (from_seconds h m)
seconds_tail h m = seq_tail (opt_tail_if (part_item 83 refl refl) (λ v _. rw (or_true (present m)) (or_true (present h)))) (λ x. give_tail (clock h m x))

minutes_tail : (h : Option ℕ) → TailIf (SomeTime (clock h none none)) bytes 2 SomeTime (from_minutes h)
minutes_tail h = seq_tail (opt_tail_if (part_item 77 refl refl) (λ v _. or_true (present h))) (seconds_tail h)

some_time_too_few : TooFew 1 (verify some_time (seq (opt (part 72)) from_minutes))
unfolding verify seq opt give
some_time_too_few = record { nothing = λ s at h. rw ((part_too_few 72).nothing s at h, (part_too_few 77).nothing s at h, (part_too_few 83).nothing s at h) }

base_time_item : Item bytes is_digit 2 2 Anything duration_base_time
unfolding duration_base_time
base_time_item = map_item _ (required_item some_time (part_item 72 refl refl) minutes_tail (λ v _. refl) (too_few_fails some_time_too_few))

pub base_time_eager : Eager duration_base_time
base_time_eager = base_time_item.eager

time_item_lem : Item bytes is_digit 2 2 Anything duration_time
unfolding duration_time
time_item_lem = preceded_item 84 refl refl base_time_item

time_too_few : TooFew 1 duration_time
unfolding duration_time duration_base_time
time_too_few = preceded_too_few 84 (map_too_few _ some_time_too_few)

-- ---- Y, M, W, D and the time, likewise

abbrev pub parts : Option ℕ → Option ℕ → Option ℕ → Option ℕ → Option DurationTimeParts → Parts
parts y mo w d t = record { years = y; months = mo; weeks = w; days = d; time = t }

abbrev SomePart : Parts → Type 0
SomePart p = some_part p ≡ true

abbrev pub from_time : Option ℕ → Option ℕ → Option ℕ → Option ℕ → Reader Parts
from_time y mo w d = seq (opt duration_time) (λ t. give (parts y mo w d t))

abbrev pub from_days : Option ℕ → Option ℕ → Option ℕ → Reader Parts
from_days y mo w = seq (opt (part 68)) (λ d. from_time y mo w d)

abbrev pub from_weeks : Option ℕ → Option ℕ → Reader Parts
from_weeks y mo = seq (opt (part 87)) (λ w. from_days y mo w)

abbrev pub from_months : Option ℕ → Reader Parts
from_months y = seq (opt (part 77)) (λ mo. from_weeks y mo)

time_tail : (y mo w d : Option ℕ) → TailIf (SomePart (parts y mo w d none)) bytes 2 SomePart (from_time y mo w d)
time_tail y mo w d = seq_tail (opt_tail_if time_item_lem (λ v _. rw (or_true (present d), or_true (present w), or_true (present mo)) (or_true (present y)))) (λ t. give_tail (parts y mo w d t))

days_tail : (y mo w : Option ℕ) → TailIf (SomePart (parts y mo w none none)) bytes 2 SomePart (from_days y mo w)
days_tail y mo w = seq_tail (opt_tail_if (part_item 68 refl refl) (λ v _. rw (or_true (present w), or_true (present mo)) (or_true (present y)))) (time_tail y mo w)

weeks_tail : (y mo : Option ℕ) → TailIf (SomePart (parts y mo none none none)) bytes 2 SomePart (from_weeks y mo)
weeks_tail y mo = seq_tail (opt_tail_if (part_item 87 refl refl) (λ v _. rw (or_true (present mo)) (or_true (present y)))) (days_tail y mo)

months_tail : (y : Option ℕ) → TailIf (SomePart (parts y none none none none)) bytes 2 SomePart (from_months y)
months_tail y = seq_tail (opt_tail_if (part_item 77 refl refl) (λ v _. or_true (present y))) (weeks_tail y)

some_part_too_few : TooFew 1 (verify some_part parts_rule)
unfolding parts_rule verify seq opt give
some_part_too_few = record {
  nothing = λ s at h. rw ((part_too_few 89).nothing s at h, (part_too_few 77).nothing s at h, (part_too_few 87).nothing s at h, (part_too_few 68).nothing s at h, time_too_few.nothing s at h);
}

parts_item : Item bytes is_digit 2 2 SomePart (verify some_part parts_rule)
unfolding parts_rule
parts_item = required_item some_part (part_item 89 refl refl) months_tail (λ v _. refl) (too_few_fails some_part_too_few)

-- ---- `P`, and behind it some part

pub duration_item_lem : Item bytes (byte 80) 3 3 Anything duration
unfolding duration
duration_item_lem = map_item _ (alike_item (verify_behind some_part (lit 80) (λ _. parts_rule)) (after_item (lit_mark 80 refl) (λ _. parts_item)))

pub duration_bounded : Bounded duration
duration_bounded = duration_item_lem.lawful.steady.bounded

-- what code says of the rule at the beginning is what a reader has to promise: an open duration has a continuation of at most three bytes
-- that changes the answer
pub duration_begins : (s : List ℕ) (f : Found Duration) (m : Bool) → Says duration s 0 f m → Begins 3 duration s (begun f) (verdict_of m)
duration_begins = lawful_begins duration_item_lem.lawful

-- a duration has three bytes at least: `P`, a digit and a letter
pub duration_too_few : TooFew 2 duration
unfolding duration
duration_too_few = map_too_few _ (alike_too_few (verify_behind some_part (lit 80) (λ _. parts_rule)) (then_too_few (lit_takes 80) (λ _. some_part_too_few)))
