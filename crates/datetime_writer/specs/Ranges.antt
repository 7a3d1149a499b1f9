-- The date-times that the code writes, by the edition. `proofs/Laws.antt` shows that they are those that some reader of that edition gives,
-- no more and no fewer.
use Rattle.std.specs.Prelude.{Bool}
use Rattle.types.specs.declared.Choices.{Choices}
use Rattle.types.specs.declared.DateTime.{DateTime}
use Rattle.parser.specs.Reading.{and}
use Rattle.date_writer.specs.Ranges.{date_given}
use Rattle.time_writer.specs.Ranges.{time_given}

unfoldable pub date_time_given : Choices → DateTime → Bool
date_time_given c x = and (date_given x.date) (time_given c x.time)
