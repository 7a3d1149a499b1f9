-- The laws of times, part by part: each is what it is made of, and what may be absent takes nothing where the input ends. The edition and
-- the reading are parameters: behind an hour that ends the day a completion may stop the reading, and only there.
use Prim.Native.Nat.{ℕ}
use mathlib.Core.List.{List, [], ◌∷◌}
use mathlib.Core.Bool.{Bool, true, false}
use mathlib.Core.Path.{refl}
use native.Mathlib.Omega.{arith}
use lib.Dec.{eqb}
use Rattle.types.specs.declared.Time.{Time}
use Rattle.types.specs.declared.Choices.{Choices}
use Rattle.types.specs.declared.Edition.{Edition}
use Rattle.types.specs.declared.Edition.TheVariants.{E2004, E2019}
use Rattle.types.specs.declared.Reading.{Reading}
use Rattle.types.specs.declared.Reading.TheVariants.{Old, Standard}
use Rattle.parser.specs.Reading.{Found, Says, opt, seq}
use Rattle.parser.specs.Answer.{begun, Begins, verdict_of}
use Rattle.parser.specs.Digits.{is_digit, field}
use Rattle.parser.specs.Fields.{or_zero}
use Rattle.parser.proofs.Places.{Bounded, Fails, lit_fails, field_fails, must_fails, alt_fails, seq_skips, opt_skips}
use Rattle.parser.proofs.Hopeful.{Anything, never_stops}
use Rattle.parser.proofs.General.{Eager}
use Rattle.parser.proofs.Stops.{no_form_lem}
use Rattle.parser.proofs.Steady.{Steady, must_steady, opt_steady, alt_steady, seq_steady}
use Rattle.parser.proofs.Stricter.{stricter_hopeful}
use Rattle.parser.proofs.Lawful.{byte, Outside, lawful_begins, Tail, TailOr, tail_or, map_tail, seq_tail, Item, ItemOr, widen, map_item, alt_item, opt_tail, seq_item}
use Rattle.parser.proofs.Items.{lit_mark, either_mark, after_item, preceded_item, field_item, fraction_item, zero_fraction_item}
use Rattle.parser.proofs.TooFew.{TooFew, field_too_few, seq_too_few, preceded_too_few}
use Rattle.offset.proofs.Laws.{offset_item}
use Rattle.time.specs.declared.Clock.{Clock}
use Rattle.time.specs.declared.TimeUnit.{TimeUnit}
use Rattle.time.specs.declared.TimeUnit.TheVariants.{Hour}
use Rattle.time.specs.Rules.{hour_of, ends_day, fraction_if, or_whole, unit_of, time_fraction, millisecond, second_millisecond, minute_second_millisecond, behind_hour, time_offset, after_hour, base_time, time}
use Rattle.time.proofs.Unmarked.{mark_fails, no_fraction}
use Rattle.time.proofs.EndOfDay.{zero_field, after_hour_stricter, after_hour_valued}

-- what a time takes beside digits: `T`, `:`, `,`, `.`, and what an offset takes, `+`, `-`, `:` and `Z`
abbrev pub bytes : List ℕ
bytes = 84 ∷ 58 ∷ 44 ∷ 46 ∷ 43 ∷ 45 ∷ 90 ∷ []

-- ---- the fraction, and the offset

pub point_item : (u : TimeUnit) (z : Bool) (mi se : ℕ) → Item bytes (byte 44) 2 2 Anything (time_fraction u z mi se)
unfolding time_fraction
point_item u z mi se = map_item _ (after_item (either_mark 44 46 refl refl) (λ _. digits_item z))
  where
    digits_item : (z : Bool) → Item bytes is_digit 1 1 Anything (fraction_if z)
    digits_item false = fraction_item
    digits_item true = zero_fraction_item

pub millisecond_tail : (u : TimeUnit) (z : Bool) (mi se : ℕ) → Tail bytes 2 (millisecond u z mi se)
unfolding millisecond
millisecond_tail u z mi se = map_tail _ (opt_tail (point_item u z mi se))

pub offset_tail : (h : ℕ) (k : Clock) → Tail bytes 2 (time_offset h k)
unfolding time_offset
offset_tail h k = map_tail _ (opt_tail (widen refl offset_item))

-- ---- behind any hour but one that ends the day

second_tail : (r : Reading) (mi : ℕ) → Tail bytes 2 (second_millisecond r false mi)
unfolding second_millisecond
second_tail r mi = seq_tail (opt_tail (preceded_item 58 refl refl (field_item 2 0 60 refl))) (λ se. millisecond_tail (unit_of r se) false mi (or_zero se))

minute_item : (r : Reading) → Item bytes is_digit 2 2 Anything (minute_second_millisecond r false)
unfolding minute_second_millisecond
minute_item r = seq_item (preceded_item 58 refl refl (field_item 2 0 59 refl)) (second_tail r)

behind_item : (r : Reading) → Item bytes is_digit 2 2 Anything (behind_hour r false)
unfolding behind_hour
behind_item Old = minute_item Old
behind_item Standard = alt_item (minute_item Standard) (point_item Hour false 0 0)

pub after_hour_tail : (r : Reading) (h : ℕ) → Tail bytes 2 (after_hour r false h)
unfolding after_hour
after_hour_tail r h = seq_tail (opt_tail (behind_item r)) (λ k. offset_tail h (or_whole 0 0 k))

-- ---- behind an hour that ends the day

zero_steady : (hi : ℕ) → Steady (Outside bytes) (field 2 0 hi) → Steady (Outside bytes) (zero_field hi)
zero_steady hi h = seq_steady (opt_steady (lit_mark {l = bytes} 58 refl).item.lawful.steady) (λ _. must_steady _ no_form_lem h)

minute_steady : (r : Reading) → Steady (Outside bytes) (minute_second_millisecond r true)
unfolding minute_second_millisecond second_millisecond
minute_steady r =
    seq_steady (zero_steady 59 (field_item {l = bytes} 2 0 59 refl).lawful.steady) (λ mi.
    seq_steady (opt_steady (zero_steady 60 (field_item {l = bytes} 2 0 60 refl).lawful.steady)) (λ se.
    (millisecond_tail (unit_of r se) true mi (or_zero se)).lawful.steady))

behind_steady : (r : Reading) → Steady (Outside bytes) (behind_hour r true)
unfolding behind_hour
behind_steady Old = minute_steady Old
behind_steady Standard = alt_steady (minute_steady Standard) (point_item Hour true 0 0).lawful.steady

minute_fails : (r : Reading) → Fails (minute_second_millisecond r true)
unfolding minute_second_millisecond opt seq
minute_fails r s at h = rw (lit_fails 58 s at h, must_fails (λ v. eqb v 0) 1 (field 2 0 59) (field_fails 2 0 59 (omega arith)) s at h)

behind_fails : (r : Reading) → Fails (behind_hour r true)
unfolding behind_hour
behind_fails Old = minute_fails Old
behind_fails Standard = alt_fails (minute_second_millisecond Standard true) (time_fraction Hour true 0 0) (minute_fails Standard) (λ s at h. no_fraction Hour true 0 0 s at (mark_fails s at h))

end_of_day_tail : {W : Type 0} → W → (r : Reading) (h : ℕ) → TailOr W Unit bytes 2 Anything (after_hour r true h)
unfolding after_hour
end_of_day_tail w r h = record {
  lawful = record {
    steady = seq_steady (opt_steady (behind_steady r)) (λ k. (offset_tail h (or_whole 0 0 k)).lawful.steady);
    hopeful = stricter_hopeful (after_hour r true h) (after_hour r false h) w (after_hour_stricter r h) (after_hour_valued r h) (never_stops (after_hour_tail r h).lawful.hopeful);
  };
  skips = λ c. seq_skips Anything Anything (opt (behind_hour r true)) (λ k. time_offset h (or_whole 0 0 k)) (opt_skips Anything (behind_hour r true) tt (behind_fails r)) (λ k _. (offset_tail h (or_whole 0 0 k)).skips tt);
}

-- ---- the two editions

-- whether a completion may stop the reading
abbrev pub MayStop : Edition → Type 0
MayStop E2019 = ⊥
MayStop E2004 = Unit

pub hour_item : (e : Edition) → Item bytes is_digit 2 2 Anything (hour_of e)
hour_item E2019 = field_item 2 0 23 refl
hour_item E2004 = field_item 2 0 24 refl

tail_of : (e : Edition) (r : Reading) (h : ℕ) → TailOr (MayStop e) Unit bytes 2 Anything (after_hour r (ends_day e h) h)
tail_of E2019 r h = after_hour_tail r h
tail_of E2004 r h = go (eqb h 24)
  where
    go : (z : Bool) → TailOr (MayStop E2004) Unit bytes 2 Anything (after_hour r z h)
    go true = end_of_day_tail tt r h
    go false = tail_or (after_hour_tail r h)

-- two digits are a time
pub base_time_item : (c : Choices) → ItemOr (MayStop c.edition) bytes is_digit 2 2 Anything (base_time c)
unfolding base_time
base_time_item c = seq_item (hour_item c.edition) (tail_of c.edition c.reading)

pub time_item_lem : (c : Choices) → ItemOr (MayStop c.edition) bytes is_digit 2 2 Anything (time c)
unfolding time
time_item_lem c = preceded_item 84 refl refl (base_time_item c)

-- ---- by their names

-- an hour can follow wherever the input ends
pub base_time_eager : (c : Choices) → Eager (base_time c)
base_time_eager c = (base_time_item c).eager

pub time_bounded : (c : Choices) → Bounded (time c)
time_bounded c = (time_item_lem c).lawful.steady.bounded

-- what code says of the rule at the beginning is what a reader has to promise: an open time has a continuation of at most two bytes that
-- changes the answer
pub time_begins : (c : Choices) (s : List ℕ) (f : Found Time) (m : Bool) → Says (time c) s 0 f m → Begins 2 (time c) s (begun f) (verdict_of m)
time_begins c = lawful_begins (time_item_lem c).lawful

-- ---- a time has two bytes at least

pub base_time_too_few : (c : Choices) → TooFew 1 (base_time c)
unfolding base_time
base_time_too_few c = seq_too_few _ (hour_too_few c.edition)
  where
    hour_too_few : (e : Edition) → TooFew 1 (hour_of e)
    hour_too_few E2019 = field_too_few 1 0 23
    hour_too_few E2004 = field_too_few 1 0 24

pub time_too_few : (c : Choices) → TooFew 1 (time c)
unfolding time
time_too_few c = preceded_too_few 84 (base_time_too_few c)
