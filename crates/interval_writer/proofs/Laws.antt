-- An interval is read back from its spelling: how often, and then the sides by the alternative that they are of, since those before it fail.
use Prim.Native.Nat.{ℕ, ◌+◌}
use mathlib.Core.List.{List, [], ◌∷◌, ◌++◌, append_assoc}
use mathlib.Core.Bool.{Bool, true}
use mathlib.Core.Path.{◌≡◌, refl}
use native.Mathlib.Omega.{arith}
use lib.ListN.{length}
use Rattle.std.specs.Prelude.{Some, None}
use Rattle.types.specs.declared.Choices.{Choices}
use Rattle.types.specs.declared.DateTime.{DateTime}
use Rattle.types.specs.declared.Edition.{Edition}
use Rattle.types.specs.declared.Interval.{Interval}
use Rattle.types.specs.declared.IntervalRange.{IntervalRange}
use Rattle.types.specs.declared.IntervalRange.TheVariants as range
use Rattle.types.specs.declared.Reading.{Reading}
use Rattle.parser.specs.Reading.{lit, map, and}
use Rattle.parser.specs.Answer.{recorded, Ended}
use Rattle.parser.proofs.Fields.{and_first, and_second, and_right}
use Rattle.datetime.proofs.Laws.{datetime_item}
use Rattle.duration.proofs.Laws.{duration_item_lem}
use Rattle.interval.specs.Rules.{closed, closed_end, closed_start, range_of, interval_of, interval_rule}
use Rattle.interval.specs.Once.{interval}
use Rattle.writing.specs.Spelling.{date_time_spelling, duration_spelling, repetitions_spelling, range_spelling, interval_spelling}
use Rattle.writing.specs.Writing.{Readable, measure, Measures}
use Rattle.writing.proofs.Texts.{ReadAs, Refuses, lit_refuses_end, seq_reads, map_reads, alt_first, alt_second, whole}
use Rattle.writing.proofs.Yields.{Yields, seq_yields, map_yields, alt_yields}
use Rattle.writing.proofs.Laws.{Spells, readable, read_back, measure_long, measure_none, none_measures, some_measures}
use Rattle.time_writer.specs.Ranges.{time_given}
use Rattle.datetime_writer.specs.Ranges.{date_time_given}
use Rattle.duration_writer.specs.Ranges.{duration_given}
use Rattle.duration_writer.proofs.Laws.{duration_reads_lem}
use Rattle.duration_writer.proofs.Within.{duration_yields}
use Rattle.interval_writer.specs.Ranges.{repetitions_given, range_given, interval_given}
use Rattle.interval_writer.proofs.Sides.{stamp_last, stamp_first_lem, stamp_reads, stamp_yields, no_duration, no_stamp, duration_first_lem, not_begun, sides_read, no_first, no_second, no_slash, sides_yield}
use Rattle.interval_writer.proofs.Repetitions.{repetitions_read, repetitions_yield}
use Rattle.interval_writer.proofs.Lengths.{interval_size}

both : {a b : Bool} → a ≡ true → b ≡ true → and a b ≡ true
both e f = rw (e, f)

-- ---- the sides

module _ (c : Choices) where
  range_reads : (x : IntervalRange) → range_given c x ≡ true → ReadAs (range_of c) (range_spelling x) [] x
  unfolding range_of closed closed_end closed_start range_given range_spelling
  range_reads (range.Closed a b) e =
      let last = stamp_last c b (and_second (date_time_given c a) e) in
      alt_first _ (sides_read range.Closed (stamp_reads c (stamp_first_lem c a _ (and_first (date_time_given c a) _ e))) last)
  range_reads (range.ClosedEnd d b) e =
      let first = duration_first_lem d (date_time_spelling b ++ []) (and_first (duration_given d) _ e) in
      alt_second (rw (append_assoc (duration_spelling d) (47 ∷ date_time_spelling b) []) (no_first _ _ (no_stamp c first)))
      (alt_first _ (sides_read range.ClosedEnd first (stamp_last c b (and_second (duration_given d) e))))
  range_reads (range.ClosedStart a d) e =
      let first = stamp_first_lem c a (duration_spelling d ++ []) (and_first (date_time_given c a) _ e) in
      let last = duration_reads_lem d (and_second (date_time_given c a) e) in
      let split = append_assoc (date_time_spelling a) (47 ∷ duration_spelling d) [] in
      alt_second (rw split (no_second _ (stamp_reads c first) (no_stamp c last)))
      (alt_second (rw split (no_first _ _ (no_duration c first)))
      (alt_first _ (sides_read range.ClosedStart (stamp_reads c first) last)))
  range_reads (range.Open d) e =
      let alone = duration_reads_lem d e in
      alt_second (no_first _ _ (no_stamp c alone))
      (alt_second (no_slash _ _ alone (lit_refuses_end 47))
      (alt_second (no_first _ _ (no_stamp c alone)) (map_reads range.Open alone)))

  -- neither side begins with `R`, and so no range does
  stamp_no_r : (a : DateTime) (u : List ℕ) → date_time_given c a ≡ true → Refuses (lit 82) ((date_time_spelling a ++ 47 ∷ u) ++ [])
  stamp_no_r a u e = rw (append_assoc (date_time_spelling a) (47 ∷ u) []) (not_begun (datetime_item c) 82 refl (stamp_first_lem c a (u ++ []) e))

  no_r : (x : IntervalRange) → range_given c x ≡ true → Refuses (lit 82) (range_spelling x ++ [])
  unfolding range_given range_spelling
  no_r (range.Closed a b) e = stamp_no_r a _ (and_first (date_time_given c a) _ e)
  no_r (range.ClosedEnd d b) e = rw (append_assoc (duration_spelling d) (47 ∷ date_time_spelling b) []) (not_begun duration_item_lem 82 refl (duration_first_lem d _ (and_first (duration_given d) _ e)))
  no_r (range.ClosedStart a d) e = stamp_no_r a _ (and_first (date_time_given c a) _ e)
  no_r (range.Open d) e = not_begun duration_item_lem 82 refl (duration_reads_lem d e)

  range_yields : Yields (λ x. range_given c x ≡ true) (range_of c)
  unfolding range_of closed closed_end closed_start range_given
  range_yields =
      alt_yields (sides_yield range.Closed (λ _ _. both) (stamp_yields c) (stamp_yields c))
      (alt_yields (sides_yield range.ClosedEnd (λ _ _. both) duration_yields (stamp_yields c))
      (alt_yields (sides_yield range.ClosedStart (λ _ _. both) (stamp_yields c) duration_yields)
      (map_yields range.Open (λ d e. e) duration_yields)))

-- ---- all of it

module _ (c : Choices) (x : Interval) where
  pub repetitions_given_lem : interval_given c x ≡ true → repetitions_given x.repetitions ≡ true
  unfolding interval_given
  repetitions_given_lem e = and_first (repetitions_given x.repetitions) (range_given c x.range) e

  pub range_given_lem : interval_given c x ≡ true → range_given c x.range ≡ true
  unfolding interval_given
  range_given_lem e = and_second (repetitions_given x.repetitions) e

  pub both_given_lem : repetitions_given x.repetitions ≡ true → range_given c x.range ≡ true → interval_given c x ≡ true
  unfolding interval_given
  both_given_lem e f = both e f

  interval_reads_lem : interval_given c x ≡ true → ReadAs (interval c) (interval_spelling x) [] x
  unfolding interval interval_rule interval_spelling
  interval_reads_lem e = record {
    reads =
        (seq_reads (λ r. map (interval_of r) (range_of c)) (repetitions_read x.repetitions (repetitions_given_lem e) (no_r c x.range (range_given_lem e)))
        (map_reads _ (range_reads c x.range (range_given_lem e)))).reads;
  }

interval_yields : (c : Choices) → Yields (λ x. interval_given c x ≡ true) (interval c)
unfolding interval interval_rule
interval_yields c = record { fact = (seq_yields _ repetitions_yield (λ r e. map_yields {F = λ x. interval_given c x ≡ true} (interval_of r) (λ x f. both_given_lem c (interval_of r x) e f) (range_yields c))).fact }

pub interval_spells : (c : Choices) → Spells (interval c) interval_spelling (interval_given c)
interval_spells c = record { back = λ x e. whole (interval_reads_lem c x e); ranges = λ x r. (interval_yields c).fact r.bytes 0 x r.count r.reads }

-- ---- what is measured, by the parts

module _ (c : Choices) (x : Interval) where
  pub no_range_measures : measure (range_given c x.range) (length (range_spelling x.range)) ≡ None → Measures (interval c) x (interval_spelling x) None
  unfolding interval_given
  no_range_measures e = none_measures (interval_spells c) x (and_right (repetitions_given x.repetitions) (measure_none (range_given c x.range) _ e))

  pub parts_measure : {f n : ℕ} → repetitions_given x.repetitions ≡ true → f ≡ length (repetitions_spelling x.repetitions) → measure (range_given c x.range) (length (range_spelling x.range)) ≡ Some n
      → Measures (interval c) x (interval_spelling x) (Some (f + n))
  parts_measure e g h =
      let range = measure_long (range_given c x.range) h in
      some_measures (interval_spells c) x (both_given_lem c x e range.0) (omega (arith, interval_size x, g, range.1))

-- ---- the reading does not matter to what is written

abbrev under : Edition → Reading → Choices
under e r = record { edition = e; reading = r }

either_range : (e : Edition) (r q : Reading) (x : IntervalRange) → range_given (under e r) x ≡ true → range_given (under e q) x ≡ true
unfolding range_given date_time_given time_given
either_range e r q (range.Closed a b) g = g
either_range e r q (range.ClosedEnd d b) g = g
either_range e r q (range.ClosedStart a d) g = g
either_range e r q (range.Open d) g = g

-- what a standard reading gives is read back by the old reading and the standard one as the same record; so is what the old one gives
pub either_reading : (e : Edition) (r q : Reading) (x : Interval) → Readable (interval (under e r)) x → Ended (interval (under e q)) (interval_spelling x) (recorded x (length (interval_spelling x)))
either_reading e r q x h =
    let g = (interval_spells (under e r)).ranges x h in
    let back = interval_spells (under e q) in
    read_back back x (readable back x (both_given_lem _ x (repetitions_given_lem _ x g) (either_range e r q x.range (range_given_lem _ x g))))
