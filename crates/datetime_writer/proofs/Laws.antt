-- A date-time is read back from its spelling: the date whatever follows, then the `T`, then the time to the end.
use Prim.Native.Nat.{ℕ, ◌+◌, ◌≤◌}
use mathlib.Core.List.{List, [], ◌∷◌}
use mathlib.Core.Bool.{true}
use mathlib.Core.Path.{◌≡◌, refl, ◌∙◌}
use native.Mathlib.Omega.{arith}
use lib.ListN.{length, length-append, drop, length-drop}
use Rattle.types.specs.declared.Choices.{Choices}
use Rattle.types.specs.declared.Date.{Date}
use Rattle.types.specs.declared.DateTime.{DateTime}
use Rattle.types.specs.declared.Time.{Time}
use Rattle.std.specs.Prelude.{Some, None}
use Rattle.parser.specs.Reading.{lit}
use Rattle.parser.proofs.Fields.{and_first, and_second, and_right}
use Rattle.date.specs.Rules.{date}
use Rattle.time.specs.Rules.{time}
use Rattle.datetime.specs.Rules.{stamp, time_of, after_date, date_time}
use Rattle.writing.specs.Spelling.{date_spelling, time_spelling, date_time_spelling}
use Rattle.writing.specs.Writing.{Measures, over}
use Rattle.writing.proofs.Texts.{ReadAs, lit_reads, seq_reads, map_reads, whole}
use Rattle.writing.proofs.Yields.{Yields, seq_yields, map_yields, anything}
use Rattle.writing.proofs.Laws.{Spells, measured_none, measured_long, none_measures, some_measures}
use Rattle.date_writer.specs.Ranges.{date_given}
use Rattle.date_writer.proofs.Laws.{date_reads_lem, date_yields, date_spells}
use Rattle.date_writer.proofs.Lengths.{date_short}
use Rattle.time_writer.specs.Ranges.{time_given}
use Rattle.time_writer.proofs.Yields.{base_yields}
use Rattle.time_writer.proofs.Laws.{base_reads, time_spells}
use Rattle.time_writer.proofs.Lengths.{time_short}
use Rattle.datetime_writer.specs.Ranges.{date_time_given}

module _ (c : Choices) (x : DateTime) where
  pub date_given_lem : date_time_given c x ≡ true → date_given x.date ≡ true
  unfolding date_time_given
  date_given_lem e = and_first (date_given x.date) (time_given c x.time) e

  pub time_given_lem : date_time_given c x ≡ true → time_given c x.time ≡ true
  unfolding date_time_given
  time_given_lem e = and_second (date_given x.date) e

  pub both_given_lem : date_given x.date ≡ true → time_given c x.time ≡ true → date_time_given c x ≡ true
  unfolding date_time_given
  both_given_lem e f = rw (e, f)

  pub date_time_reads_lem : date_time_given c x ≡ true → ReadAs (date_time c) (date_time_spelling x) [] x
  unfolding date_time after_date time_of date_time_spelling
  date_time_reads_lem e = seq_reads _ (date_reads_lem x.date _ (date_given_lem e)) (seq_reads _ (lit_reads 84 _) (map_reads _ (base_reads c x.time (time_given_lem e))))

pub date_time_yields : (c : Choices) → Yields (λ x. date_time_given c x ≡ true) (date_time c)
unfolding date_time after_date time_of
date_time_yields c = seq_yields _ date_yields (λ d e. seq_yields _ (anything (lit 84)) (λ u z. map_yields _ (λ t f. both_given_lem c (stamp d t) e f) (base_yields c)))

pub date_time_spells : (c : Choices) → Spells (date_time c) date_time_spelling (date_time_given c)
date_time_spells c = record { back = λ x e. whole (date_time_reads_lem c x e); ranges = λ x r. (date_time_yields c).fact r.bytes 0 x r.count r.reads }

-- ---- what is measured, by the parts

pub size_is : (x : DateTime) → length (date_time_spelling x) ≡ length (date_spelling x.date) + 1 + length (time_spelling x.time)
unfolding date_time_spelling
size_is x = length-append (date_spelling x.date) (84 ∷ time_spelling x.time) ∙ omega arith

module _ (c : Choices) (x : DateTime) where
  pub no_date_measures : Measures date x.date (date_spelling x.date) None → Measures (date_time c) x (date_time_spelling x) None
  unfolding date_time_given
  no_date_measures h = none_measures (date_time_spells c) x (rw (measured_none date_spells h refl))

  pub no_time_measures : Measures (time c) x.time (time_spelling x.time) None → Measures (date_time c) x (date_time_spelling x) None
  unfolding date_time_given
  no_time_measures h = none_measures (date_time_spells c) x (and_right (date_given x.date) (measured_none (time_spells c) h refl))

  pub parts_measure : {d t : ℕ} → Measures date x.date (date_spelling x.date) (Some d) → Measures (time c) x.time (time_spelling x.time) (Some t) → Measures (date_time c) x (date_time_spelling x) (Some (d + 1 + t))
  parts_measure h g =
      let day = measured_long date_spells h refl in
      let clock = measured_long (time_spells c) g refl in
      some_measures (date_time_spells c) x (both_given_lem c x day.0 clock.0) (omega (arith, size_is x, day.1, clock.1))

pub date_most : (d : Date) {n : ℕ} → Measures date d (date_spelling d) (Some n) → n ≤ 11
date_most d h = omega (arith, (measured_long date_spells h refl).1, date_short d)

pub time_most : (c : Choices) (t : Time) {n : ℕ} → Measures (time c) t (time_spelling t) (Some n) → n ≤ 24
time_most c t h = omega (arith, (measured_long (time_spells c) h refl).1, time_short t)

-- what was put leaves the buffer as long as it was
pub over_size : (t l : List ℕ) → length t ≤ length l → length (over t l) ≡ length l
over_size t l h = length-append t (drop (length t) l) ∙ omega (arith, length-drop (length t) l)
