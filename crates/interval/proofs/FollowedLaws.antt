-- The laws of a date-time that something must follow, part by part, as those of date-times; no completion stops the reading.
use Prim.Native.Nat.{ℕ}
use mathlib.Core.Bool.{Bool, true, false}
use mathlib.Core.Path.{refl}
use Rattle.types.specs.declared.Choices.{Choices}
use Rattle.types.specs.declared.Reading.{Reading}
use Rattle.types.specs.declared.Reading.TheVariants.{Old, Standard}
use Rattle.parser.specs.Digits.{is_digit}
use Rattle.parser.specs.Fields.{or_zero}
use Rattle.parser.proofs.Hopeful.{Anything}
use Rattle.parser.proofs.Lawful.{Tail, seq_tail, Item, widen, map_item, alt_item, opt_tail, seq_item, outside_keeps, then_item}
use Rattle.parser.proofs.Items.{lit_mark, after_item, preceded_item, field_item}
use Rattle.time.specs.declared.TimeUnit.TheVariants.{Hour}
use Rattle.time.specs.Rules.{ends_day, or_whole, unit_of}
use Rattle.time.proofs.Laws as time
use Rattle.date.proofs.Laws.{date_item}
use Rattle.datetime.proofs.Laws.{bytes}
use Rattle.interval.specs.Followed.{zeros, zero_minute, zero_behind, zero_tail, tail_of, followed_time, followed}

-- ---- behind an hour that ends the day

zeros_item : Item time.bytes is_digit 2 2 Anything zeros
zeros_item = preceded_item 58 refl refl (field_item 2 0 0 refl)

minute_item : (r : Reading) → Item time.bytes is_digit 2 2 Anything (zero_minute r)
unfolding zero_minute
minute_item r = seq_item zeros_item (λ mi. seq_tail (opt_tail zeros_item) (λ se. time.millisecond_tail (unit_of r se) true mi (or_zero se)))

behind_item : (r : Reading) → Item time.bytes is_digit 2 2 Anything (zero_behind r)
unfolding zero_behind
behind_item Old = minute_item Old
behind_item Standard = alt_item (minute_item Standard) (time.point_item Hour true 0 0)

-- ---- behind any hour

pub tail_of_lem : (r : Reading) (z : Bool) (h : ℕ) → Tail time.bytes 2 (tail_of r z h)
unfolding tail_of zero_tail
tail_of_lem r false h = time.after_hour_tail r h
tail_of_lem r true h = seq_tail (opt_tail (behind_item r)) (λ k. time.offset_tail h (or_whole 0 0 k))

time_item_lem : (c : Choices) → Item time.bytes is_digit 2 2 Anything (followed_time c)
unfolding followed_time
time_item_lem c = seq_item (time.hour_item c.edition) (λ h. tail_of_lem c.reading (ends_day c.edition h) h)

-- seven bytes complete the date, and `T` and an hour the date-time
pub followed_item : (c : Choices) → Item bytes is_digit 10 10 Anything (followed c)
unfolding followed
followed_item c = then_item (outside_keeps 84 refl date_item.lawful) (widen refl date_item) (λ d. after_item (lit_mark 84 refl) (λ _. map_item _ (widen refl (time_item_lem c))))
