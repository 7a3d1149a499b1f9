-- Document 01's rule of date-times: a date, `T`, a time, of the edition and in the reading that the caller names.
use Rattle.types.specs.declared.Choices.{Choices}
use Rattle.types.specs.declared.Date.{Date}
use Rattle.types.specs.declared.Time.{Time}
use Rattle.types.specs.declared.DateTime.{DateTime}
use Rattle.parser.specs.Reading.{Reader, lit, seq, map}
use Rattle.date.specs.Rules.{date}
use Rattle.time.specs.Rules.{base_time}

abbrev pub stamp : Date → Time → DateTime
stamp d t = record { date = d; time = t }

unfoldable pub time_of : Choices → Date → Reader DateTime
time_of c d = map (stamp d) (base_time c)

-- "the date-time reader takes exactly one [`T`]"
unfoldable pub after_date : Choices → Date → Reader DateTime
after_date c d = seq (lit 84) (λ _. time_of c d)

unfoldable pub date_time : Choices → Reader DateTime
date_time c = seq date (after_date c)
