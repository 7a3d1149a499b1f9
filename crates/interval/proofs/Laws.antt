-- What holds of every interval: the laws of date-times and durations, with a `/` between them that neither takes.
use Prim.Native.Nat.{ℕ, ◌+◌, ◌≤◌}
use mathlib.Core.List.{List, [], ◌∷◌, ◌++◌}
use mathlib.Core.Bool.{Bool, false}
use mathlib.Core.Option.{some}
use mathlib.Core.Path.{refl}
use mathlib.Core.Logic.{inl, inr}
use native.Mathlib.Omega.{arith}
use borrow.Author.Tests.{eqb-true}
use Rattle.types.specs.declared.Choices.{Choices}
use Rattle.types.specs.declared.DateTime.{DateTime}
use Rattle.types.specs.declared.Duration.{Duration}
use Rattle.types.specs.declared.Interval.{Interval}
use Rattle.types.specs.declared.IntervalRange.TheVariants as range
use Rattle.parser.specs.Reading.{Found, no, got, stop, Reader, lit, seq, opt, lack, map, map_found, Says}
use Rattle.parser.specs.Answer.{begun, Begins, verdict_of}
use Rattle.parser.specs.Digits.{is_digit}
use Rattle.parser.proofs.Places.{Bounded, opt_skips, map_skips}
use Rattle.parser.proofs.Least.{Least, lit_least, seq_least}
use Rattle.parser.proofs.Steady.{opt_steady, map_steady}
use Rattle.parser.proofs.Hopeful.{Anything, Less, HopefulOr, Changes, ends_map, ends_opt}
use Rattle.parser.proofs.Lawful.{byte, lawful_begins, TailOr, Item, ItemOr, widen, item_or, map_item, seq_item, outside_keeps, then_item, alike_item}
use Rattle.parser.proofs.Items.{lit_mark, after_item}
use Rattle.parser.proofs.Says.{says_map, says_seq_no}
use Rattle.time.proofs.Laws.{MayStop}
use Rattle.datetime.proofs.Laws.{datetime_item}
use Rattle.datetime.proofs.Laws as of-stamp
use Rattle.duration.specs.Rules.{duration}
use Rattle.duration.proofs.Laws.{duration_item_lem}
use Rattle.interval.specs.Rules.{or_once, repetitions, tried, stamp}
use Rattle.interval.specs.Followed.{followed}
use Rattle.interval.specs.Once.{after_start, stamp_first, or_open, after_duration, duration_first, range_once, interval_once, interval}
use Rattle.interval.proofs.Tried.{tried_item}
use Rattle.interval.proofs.Apart.{Apart, apart_by, apart_item, tried_out, stamp_out, followed_out, duration_out}
use Rattle.interval.proofs.Repeat.{repeated_item, front_item}
use Rattle.interval.proofs.FollowedLaws.{followed_item}
use Rattle.interval.proofs.Alternatives.{interval_alike}

-- what an interval takes beside digits: `R` and `/`, and what date-times and durations do
abbrev pub bytes : List ℕ
bytes = 43 ∷ 45 ∷ 87 ∷ 84 ∷ 58 ∷ 44 ∷ 46 ∷ 90 ∷ 80 ∷ 89 ∷ 77 ∷ 68 ∷ 72 ∷ 83 ∷ 82 ∷ 47 ∷ []

module _ (c : Choices) where
  abbrev May : Type 0
  May = MayStop c.edition

  side_item : ItemOr May bytes is_digit 10 10 Anything (stamp c)
  unfolding stamp
  side_item = tried_item (widen refl (datetime_item c))

  long_item : Item bytes (byte 80) 3 3 Anything duration
  long_item = widen refl duration_item_lem

  -- ---- behind a date-time and its `/`: a date-time or a duration

  start_apart : (a : DateTime) → Apart (map (range.Closed a) (stamp c)) (map (range.ClosedStart a) duration)
  unfolding stamp
  start_apart a = apart_by 80 (λ s at i e. says_map _ s at _ no false (duration_out s at i e)) (λ s at i e. says_map _ s at _ no false (tried_out (stamp_out s at i (rw e) c)))

  pub after_start_item : (a : DateTime) → ItemOr May bytes (byte 80) 3 10 Anything (after_start c a)
  unfolding after_start
  after_start_item a = apart_item (map_item _ side_item) (map_item _ (item_or long_item)) (start_apart a)

  -- a date-time that is followed, `/`, and what follows: fourteen bytes, where none of it has come
  stamp_first_item : Item of-stamp.bytes is_digit 10 10 Anything (followed c) → ItemOr May bytes is_digit 14 14 Anything (stamp_first c)
  unfolding stamp_first
  stamp_first_item hp = let h = tried_item hp in then_item (outside_keeps 47 refl h.lawful) (widen refl h) (λ a. after_item (lit_mark 47 refl) (λ _. after_start_item a))

  -- ---- behind a duration: `/` and a date-time, or nothing

  abbrev end_of : Reader DateTime
  end_of = seq (lit 47) (λ _. stamp c)

  end_item : ItemOr May bytes (byte 47) 11 11 Anything end_of
  end_item = after_item (lit_mark 47 refl) (λ _. side_item)

  end_least : Least 1 end_of
  end_least = seq_least (lit_least 47) (λ _. side_item.lawful.steady.ahead)

  -- one that is lost is left out, and ends before it
  end_lost : (d : Duration) (at n : ℕ) (f : Found DateTime) → at + 1 ≤ n → Less f n → Less (map_found (or_open d) (lack at f)) n
  end_lost d at n no h l = omega arith
  end_lost d at n (stop r) h l = tt
  end_lost d at n (got e m) h l = l

  end_hopeful : (d : Duration) → HopefulOr May 11 Anything (after_duration c d)
  unfolding after_duration map opt
  end_hopeful d s at le h = go (end_item.lawful.hopeful s at le h)
    where
      go : Changes May 11 Anything end_of s at → Changes May 11 Anything (after_duration c d) s at
      go (inl e) = inl (ends_map Anything (or_open d) (opt end_of) (λ a x. tt) (ends_opt Anything end_of (λ a x. tt) e))
      go (inr (w, e)) = inr (w, record { more = e.more; few = e.few; value = or_open d (some e.value); place = e.place; now = rw e.now; less = end_lost d at e.place (end_of.reads (s ++ e.more) at) (end_least.spans s at e.value e.place e.now) e.less })

  after_duration_tail : (d : Duration) → TailOr May Unit bytes 11 Anything (after_duration c d)
  unfolding after_duration
  after_duration_tail d = record {
    lawful = record { steady = map_steady _ (opt_steady end_item.lawful.steady); hopeful = end_hopeful d };
    skips = λ _. map_skips Anything Anything (or_open d) (opt end_of) (λ a x. tt) (opt_skips Anything end_of tt end_item.fails);
  }

  duration_first_item : ItemOr May bytes (byte 80) 3 11 Anything (duration_first c)
  unfolding duration_first
  duration_first_item = seq_item long_item after_duration_tail

  -- ---- both, and the repeat in front

  pub range_apart : Apart (stamp_first c) (duration_first c)
  unfolding stamp_first duration_first
  range_apart = apart_by 80 (λ s at i e. says_seq_no duration s at (after_duration c) false (duration_out s at i e)) (λ s at i e. says_seq_no (tried (followed c)) s at _ false (tried_out (followed_out s at i (rw e) c)))

  pub range_item : ItemOr May bytes (byte 80) 3 14 Anything (range_once c)
  unfolding range_once
  range_item = apart_item (stamp_first_item (followed_item c)) duration_first_item range_apart

  once_item : ItemOr May bytes (byte 80) 3 14 Anything (interval_once c)
  unfolding interval_once repetitions
  once_item = front_item 80 or_once (widen refl repeated_item) (λ s b y at e le. repeated_item.lawful.steady.foreign s b y at (rw (eqb-true b 80 e)) le) (λ r. map_item _ range_item)

-- so the rule's
pub interval_item : (c : Choices) → ItemOr (MayStop c.edition) bytes (byte 80) 3 14 Anything (interval c)
interval_item c = alike_item (interval_alike c) (once_item c)

pub interval_bounded : (c : Choices) → Bounded (interval c)
interval_bounded c = (interval_item c).lawful.steady.bounded

-- what code says of the rule at the beginning is what a reader has to promise: an open interval has a continuation of at most fourteen
-- bytes that changes the answer
pub interval_begins : (c : Choices) (s : List ℕ) (f : Found Interval) (m : Bool) → Says (interval c) s 0 f m → Begins 14 (interval c) s (begun f) (verdict_of m)
interval_begins c = lawful_begins (interval_item c).lawful
