-- What holds of every spelling, once over the kind: each kind's own laws, under the name of its records.
use Prim.Native.Nat.{ℕ, ◌≤◌}
use mathlib.Core.List.{List}
use mathlib.Core.Path.{◌≡◌, refl}
use native.Mathlib.Omega.{arith}
use lib.ListN.{length}
use Rattle.types.specs.declared.Choices.{Choices}
use Rattle.types.specs.declared.Edition.{Edition}
use Rattle.types.specs.declared.Reading.{Reading}
use Rattle.parser.specs.Reading.{got}
use Rattle.parser.specs.Answer.{recorded, Ended}
use Rattle.date.specs.Rules.{date}
use Rattle.time.specs.Rules.{time}
use Rattle.offset.specs.Rules.{offset}
use Rattle.datetime.specs.Rules.{date_time}
use Rattle.duration.specs.Rules.{duration}
use Rattle.interval.specs.Once.{interval}
use Rattle.kinds.specs.declared.answer.Kind.{Kind}
use Rattle.kinds.specs.declared.answer.Kind.TheVariants as kind
use Rattle.kinds.specs.declared.answer.Record.{Record}
use Rattle.kinds.specs.declared.answer.Record.TheVariants as record_of
use Rattle.kinds.specs.Kinds.{rule_of, choices_in}
use Rattle.kinds.proofs.As.{ends_as}
use Rattle.writing.specs.Spelling.{offset_spelling, time_spelling, date_spelling, date_time_spelling, duration_spelling, interval_spelling}
use Rattle.writing.specs.Writing.{Readable}
use Rattle.writing.proofs.Yields.{Yields, map_yields, anything}
use Rattle.writing.proofs.Laws.{read_back, read_back_by}
use Rattle.offset_writer.proofs.Laws.{offset_spells}
use Rattle.offset_writer.proofs.Lengths.{offset_short}
use Rattle.time_writer.specs.Ranges.{time_given}
use Rattle.time_writer.proofs.Laws.{time_spells}
use Rattle.time_writer.proofs.Lengths.{time_short}
use Rattle.date_writer.proofs.Laws.{date_spells}
use Rattle.date_writer.proofs.Lengths.{date_short}
use Rattle.datetime_writer.specs.Ranges.{date_time_given}
use Rattle.datetime_writer.proofs.Laws.{date_time_spells}
use Rattle.datetime_writer.proofs.Longest.{longest_stamp}
use Rattle.duration_writer.proofs.Laws.{duration_spells}
use Rattle.duration_writer.proofs.Longest.{longest_duration}
use Rattle.interval_writer.proofs.Laws as interval-writer
use Rattle.interval_writer.proofs.Longest.{longest_interval}
use Rattle.writers.specs.Spellings.{kind_of, spelling}
use Rattle.writers.proofs.As.{readable_back}

-- a kind's rule gives records of that kind
of_kind : (k : Kind) → Yields (λ r. kind_of (choices_in k) r ≡ k) (rule_of k)
of_kind kind.Date = map_yields _ (λ a z. refl) (anything date)
of_kind (kind.Time c) = map_yields _ (λ a z. refl) (anything (time c))
of_kind kind.Offset = map_yields _ (λ a z. refl) (anything offset)
of_kind (kind.Stamp c) = map_yields _ (λ a z. refl) (anything (date_time c))
of_kind kind.Duration = map_yields _ (λ a z. refl) (anything duration)
of_kind (kind.Interval c) = map_yields _ (λ a z. refl) (anything (interval c))

pub kind_read : (k : Kind) (s : List ℕ) (r : Record) (n : ℕ) → (rule_of k).reads s 0 ≡ got r n → kind_of (choices_in k) r ≡ k
kind_read k s r n e = (of_kind k).fact s 0 r n e

abbrev under : Edition → Reading → Choices
under e r = record { edition = e; reading = r }

-- What a standard reading gives can be written, and is read back by the old reading and the standard one as the same record; so is what the old
-- one gives.
pub either_reading : (e : Edition) (r q : Reading) (v : Record) → Readable (rule_of (kind_of (under e r) v)) v → Ended (rule_of (kind_of (under e q) v)) (spelling v) (recorded v (length (spelling v)))
unfolding time_given date_time_given
either_reading e r q (record_of.Date v) h = ends_as record_of.Date date (date_spelling v) refl (read_back date_spells v (readable_back record_of.Date (λ a b e. cc) h))
either_reading e r q (record_of.Time v) h = ends_as record_of.Time (time (under e q)) (time_spelling v) refl (read_back_by (time_spells (under e r)) (time_spells (under e q)) v (readable_back record_of.Time (λ a b e. cc) h))
either_reading e r q (record_of.Offset v) h = ends_as record_of.Offset offset (offset_spelling v) refl (read_back offset_spells v (readable_back record_of.Offset (λ a b e. cc) h))
either_reading e r q (record_of.Stamp v) h = ends_as record_of.Stamp (date_time (under e q)) (date_time_spelling v) refl (read_back_by (date_time_spells (under e r)) (date_time_spells (under e q)) v (readable_back record_of.Stamp (λ a b e. cc) h))
either_reading e r q (record_of.Duration v) h = ends_as record_of.Duration duration (duration_spelling v) refl (read_back duration_spells v (readable_back record_of.Duration (λ a b e. cc) h))
either_reading e r q (record_of.Interval v) h = ends_as record_of.Interval (interval (under e q)) (interval_spelling v) refl (interval-writer.either_reading e r q v (readable_back record_of.Interval (λ a b e. cc) h))

-- "A whole reading of what was written gives the record back"
pub reads_back : (c : Choices) (r : Record) → Readable (rule_of (kind_of c r)) r → Ended (rule_of (kind_of c r)) (spelling r) (recorded r (length (spelling r)))
reads_back c = either_reading c.edition c.reading c.reading

-- no spelling is longer than an interval's
pub spelling_short : (c : Choices) (r : Record) → Readable (rule_of (kind_of c r)) r → length (spelling r) ≤ 198
spelling_short c (record_of.Date v) h = omega (arith, date_short v)
spelling_short c (record_of.Time v) h = omega (arith, time_short v)
spelling_short c (record_of.Offset v) h = omega (arith, offset_short v)
spelling_short c (record_of.Stamp v) h = omega (arith, longest_stamp v)
spelling_short c (record_of.Duration v) h = omega (arith, longest_duration v)
spelling_short c (record_of.Interval v) h = longest_interval c v (readable_back record_of.Interval (λ a b e. cc) h)
