-- An open interval of which nothing more can be left out is short: 12 bytes of repetitions, 37 of a date-time, `/`, 149 of a duration.
use Prim.Native.Nat.{ℕ, zero, suc, ◌+◌}
use mathlib.Core.List.{List}
use mathlib.Core.Bool.{Bool, true, false}
use mathlib.Core.Option.{none}
use mathlib.Core.Path.{◌≡◌, refl}
use native.Mathlib.Omega.{arith}
use lib.ListN.{length, get_or}
use lib.Dec.{ltb, eqb}
use borrow.Author.Tests.{ltb-false, eqb-true, not-true}
use Rattle.types.specs.declared.Choices.{Choices}
use Rattle.types.specs.declared.DateTime.{DateTime}
use Rattle.types.specs.declared.IntervalRange.TheVariants as range
use Rattle.parser.specs.Reading.{Found, Reader, lit, seq, opt, pick, and}
use Rattle.parser.specs.Digits.{lowest}
use Rattle.parser.proofs.Stable.{or_false}
use Rattle.parser.proofs.Places.{from_no, got_place, picked}
use Rattle.datetime.specs.Rules.{date_time}
use Rattle.duration.specs.Rules.{duration}
use Rattle.interval.specs.Rules.{repeat_limit, repeat_run, times_of, or_once, repeated, repetitions, tried, stamp, interval_of}
use Rattle.interval.specs.Followed.{followed}
use Rattle.interval.specs.Once.{after_start, stamp_first, or_open, after_duration, duration_first, range_once, interval_once}
use Rattle.shortening.specs.Sides.{starts_zeros}
use Rattle.shortening.proofs.Spans.{Spans, SpansAt, seq_spans, opt_spans, alt_spans, map_spans, Stuck, stuck_spans, seq_stuck, verify_stuck, map_stuck, lit_stuck}
use Rattle.shortening.proofs.Families.{zeros, fractions, fresh, Reaches, reaches_none, Normal, Proper}
use Rattle.shortening.proofs.Trims.{Trims, lit_spans, tried_trims}
use Rattle.shortening.proofs.Zeros.{run_spans}
use Rattle.shortening.proofs.Rules.{duration_trims, datetime_trims, followed_trims}
use Rattle.shortening.proofs.Sides.{begins, Tidied, tidied_side}
use Rattle.shortening.proofs.Intervals.{NoZeroStart, no_stamp, slash_side}

-- wherever it ends
abbrev Anywhere : ℕ → Type 0
Anywhere n = Unit

anywhere : {A : Type 0} {P : ℕ → Type 0} {s : List ℕ} {w at : ℕ} {m : Bool} {f : Found A} → Spans P s w at m f → Spans Anywhere s w at m f
anywhere h = record { opens = h.opens; ends = λ a n e. ((h.ends a n e).0, tt) }

side_fresh : (s : List ℕ) (at : ℕ) → begins s at ≡ true → fresh s at ≡ true
side_fresh s zero h = refl
side_fresh s (suc n) h = rw (eqb-true (get_or s n 0) 47 h)

-- ---- `/`, and behind it a side begins

slash_spans : (s : List ℕ) (at : ℕ) → SpansAt (λ n. begins s n ≡ true) s 1 at (lit 47)
unfolding lit
slash_spans s at = record {
  opens = λ o. omega (arith, ltb-false at (length s) (not-true (ltb at (length s)) o));
  ends = λ a n e. (picked (λ g. omega (arith, got_place g)) from_no (and (ltb at (length s)) (eqb (get_or s at 0) 47)) e, slash_side s at a n e);
}

-- ---- what is tried where a side begins finds nothing, or nothing more can be left out of it

no_duration : (s : List ℕ) (at : ℕ) → eqb (get_or s at 0) 80 ≡ false → Stuck duration s at
unfolding duration
no_duration s at e = map_stuck (verify_stuck (seq_stuck (lit_stuck 80 s at e) _) _) _

no_repetitions : (s : List ℕ) (at : ℕ) → eqb (get_or s at 0) 82 ≡ false → Stuck repeated s at
unfolding repeated
no_repetitions s at e = seq_stuck (lit_stuck 82 s at e) _

module _ (s : List ℕ) (h : Tidied true none s) where
  -- by the side's first byte
  by_first : {A : Type 0} (P : ℕ → Type 0) (w at : ℕ) (p : Reader A) → begins s at ≡ true → (starts_zeros (get_or s at 0) ≡ true → Normal zeros s at → SpansAt P s w at p) → (starts_zeros (get_or s at 0) ≡ false → Normal fractions s at → SpansAt P s w at p) → SpansAt P s w at p
  by_first P w at p b hz hf = go (starts_zeros (get_or s at 0)) refl (tidied_side s h at b)
    where
      go : (t : Bool) → starts_zeros (get_or s at 0) ≡ t → Normal (pick t zeros fractions) s at → SpansAt P s w at p
      go true e n = hz e n
      go false e n = hf e n

  stamp_spans : {A : Type 0} {w : ℕ} {p : Reader A} → Trims fractions w p → NoZeroStart p → (at : ℕ) → begins s at ≡ true → SpansAt Anywhere s w at p
  stamp_spans {A} {w} {p} hp nothing at b = by_first Anywhere w at p b (λ e n. stuck_spans Anywhere w (nothing s at e)) (λ e n. anywhere (hp.within s at n at (reaches_none s at)))

  duration_spans : (at : ℕ) → begins s at ≡ true → SpansAt Anywhere s 149 at duration
  duration_spans at b = by_first Anywhere 149 at duration b (λ e n. anywhere (duration_trims.within s at n at (reaches_none s at, side_fresh s at b))) (λ e n. stuck_spans Anywhere 149 (no_duration s at (or_false (eqb (get_or s at 0) 80) (eqb (get_or s at 0) 82) e).0))

  -- "The digit run after that `R`" has ten digits at most
  repeated_spans : (at : ℕ) → begins s at ≡ true → SpansAt (λ n. begins s n ≡ true) s 12 at repeated
  unfolding repeated repeat_run lowest
  repeated_spans at b = by_first Side 12 at repeated b zero_side (λ e n. stuck_spans Side 12 (no_repetitions s at (or_false (eqb (get_or s at 0) 80) (eqb (get_or s at 0) 82) e).1))
    where
      Side : ℕ → Type 0
      Side n = begins s n ≡ true

      zero_side : starts_zeros (get_or s at 0) ≡ true → Normal zeros s at → SpansAt Side s 12 at repeated
      zero_side e clean =
          seq_spans Side s (Proper zeros s at) 1 11 at (lit 82) _ (lit_spans zeros 82 refl s at at (reaches_none s at)) (λ _ n g.
          seq_spans Side s (Reaches s at) 10 1 n (opt repeat_run) _ (opt_spans (Reaches s at) s 10 n repeat_run g.0 (run_spans repeat_limit 10 (omega arith) (omega arith) s n (clean n g.0 g.1) at g.0)) (λ o k _.
          map_spans Side s 1 k (λ _. times_of o) (lit 47) (slash_spans s k)))

  repetitions_spans : (at : ℕ) → begins s at ≡ true → SpansAt (λ n. begins s n ≡ true) s 12 at repetitions
  unfolding repetitions
  repetitions_spans at b = map_spans (λ n. begins s n ≡ true) s 12 at or_once (opt repeated) (opt_spans (λ n. begins s n ≡ true) s 12 at repeated b (repeated_spans at b))

  -- ---- so an interval

  slashed : {A : Type 0} (w at : ℕ) (q : Reader A) → ((n : ℕ) → begins s n ≡ true → SpansAt Anywhere s w n q) → SpansAt Anywhere s (1 + w) at (seq (lit 47) (λ _. q))
  slashed w at q hq = seq_spans Anywhere s (λ n. begins s n ≡ true) 1 w at (lit 47) (λ _. q) (slash_spans s at) (λ _ n. hq n)

  module _ (c : Choices) where
    second_spans : (at : ℕ) → begins s at ≡ true → SpansAt Anywhere s 37 at (stamp c)
    unfolding stamp date_time
    second_spans = stamp_spans (tried_trims (datetime_trims c)) (no_stamp _)

    first_spans : (at : ℕ) → begins s at ≡ true → SpansAt Anywhere s 37 at (tried (followed c))
    unfolding followed
    first_spans = stamp_spans (tried_trims (followed_trims c)) (no_stamp _)

    after_start_spans : (a : DateTime) (at : ℕ) → begins s at ≡ true → SpansAt Anywhere s 149 at (after_start c a)
    unfolding after_start
    after_start_spans a at b = alt_spans Anywhere s 37 149 at _ _ (map_spans Anywhere s 37 at (range.Closed a) (stamp c) (second_spans at b)) (map_spans Anywhere s 149 at (range.ClosedStart a) duration (duration_spans at b))

    stamp_first_spans : (at : ℕ) → begins s at ≡ true → SpansAt Anywhere s 187 at (stamp_first c)
    unfolding stamp_first
    stamp_first_spans at b = seq_spans Anywhere s Anywhere 37 150 at (tried (followed c)) _ (first_spans at b) (λ a n _. slashed 149 n (after_start c a) (after_start_spans a))

    duration_first_spans : (at : ℕ) → begins s at ≡ true → SpansAt Anywhere s 187 at (duration_first c)
    unfolding duration_first after_duration
    duration_first_spans at b = seq_spans Anywhere s Anywhere 149 38 at duration _ (duration_spans at b) (λ d n _. map_spans Anywhere s 38 n (or_open d) _ (opt_spans Anywhere s 38 n _ tt (slashed 37 n (stamp c) second_spans)))

    range_spans : (at : ℕ) → begins s at ≡ true → SpansAt Anywhere s 187 at (range_once c)
    unfolding range_once
    range_spans at b = alt_spans Anywhere s 187 187 at (stamp_first c) (duration_first c) (stamp_first_spans at b) (duration_first_spans at b)

    pub interval_spans : (at : ℕ) → begins s at ≡ true → SpansAt Anywhere s 199 at (interval_once c)
    unfolding interval_once
    interval_spans at b = seq_spans Anywhere s (λ n. begins s n ≡ true) 12 187 at repetitions _ (repetitions_spans at b) (λ r n side. map_spans Anywhere s 187 n (interval_of r) (range_once c) (range_spans n side))
