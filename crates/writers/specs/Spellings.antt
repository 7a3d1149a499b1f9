-- The one spelling of a record of any kind.
use Rattle.std.specs.Prelude.{ℕ, List}
use Rattle.types.specs.declared.Choices.{Choices}
use Rattle.kinds.specs.declared.answer.Kind.{Kind}
use Rattle.kinds.specs.declared.answer.Kind.TheVariants as kind
use Rattle.kinds.specs.declared.answer.Record.{Record}
use Rattle.kinds.specs.declared.answer.Record.TheVariants as record_of
use Rattle.writing.specs.Spelling.{offset_spelling, time_spelling, date_spelling, date_time_spelling, duration_spelling, interval_spelling}

-- the kind of a record, under the choices
abbrev pub kind_of : Choices → Record → Kind
kind_of c (record_of.Date v) = kind.Date
kind_of c (record_of.Time v) = kind.Time c
kind_of c (record_of.Offset v) = kind.Offset
kind_of c (record_of.Stamp v) = kind.Stamp c
kind_of c (record_of.Duration v) = kind.Duration
kind_of c (record_of.Interval v) = kind.Interval c

abbrev pub spelling : Record → List ℕ
spelling (record_of.Date v) = date_spelling v
spelling (record_of.Time v) = time_spelling v
spelling (record_of.Offset v) = offset_spelling v
spelling (record_of.Stamp v) = date_time_spelling v
spelling (record_of.Duration v) = duration_spelling v
spelling (record_of.Interval v) = interval_spelling v
