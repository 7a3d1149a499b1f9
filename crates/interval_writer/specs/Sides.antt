-- A side of an interval: a date-time or a duration, spelled as it is alone; and the sides of a range, one or two with `/` between them.
use Rattle.std.specs.Prelude.{ℕ, Bool, List, ◌∷◌, ◌++◌, Option, None, Some}
use Rattle.types.specs.declared.Choices.{Choices}
use Rattle.parser.specs.Reading.{and}
use Rattle.writing.specs.Spelling.{date_time_spelling, duration_spelling}
use Rattle.datetime_writer.specs.Ranges.{date_time_given}
use Rattle.duration_writer.specs.Ranges.{duration_given}
use Rattle.interval_writer.specs.declared.Side.{Side}
use Rattle.interval_writer.specs.declared.Side.TheVariants.{Stamp, Span}

abbrev pub side_given : Choices → Side → Bool
side_given c (Stamp x) = date_time_given c x
side_given c (Span d) = duration_given d

abbrev pub side_spelling : Side → List ℕ
side_spelling (Stamp x) = date_time_spelling x
side_spelling (Span d) = duration_spelling d

abbrev pub sides_given : Choices → Side → Option Side → Bool
sides_given c a None = side_given c a
sides_given c a (Some b) = and (side_given c a) (side_given c b)

abbrev pub sides_spelling : Side → Option Side → List ℕ
sides_spelling a None = side_spelling a
sides_spelling a (Some b) = side_spelling a ++ 47 ∷ side_spelling b
