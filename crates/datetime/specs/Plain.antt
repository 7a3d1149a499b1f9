-- What the code reads at one go before it turns to the rule: a plain date, `T` and a plain time. `proofs/plain/Laws.antt`
-- shows that the rule reads it so too.
use Rattle.std.specs.Prelude.{ℕ, List, length, get_or, ltb, eqb}
use Rattle.parser.specs.Reading.{pick}
use Rattle.looks.specs.Date.{plain_date}
use Rattle.types.specs.declared.Date.{Date}
use Rattle.types.specs.declared.Time.{Time}
use Rattle.types.specs.declared.DateTime.{DateTime}
use Rattle.std.specs.declared.option.Option.{Option}
use Rattle.std.specs.declared.option.Option.TheVariants.{None, Some}
use Rattle.parser.specs.declared.Got.{Got}
use Rattle.time.specs.Plain.{plain_at}
use Rattle.datetime.specs.Rules.{stamp}

unfoldable pub date_of_stamp : List ℕ → Option Date
date_of_stamp s = pick (ltb (length s) 19) None (pick (eqb (get_or s 10 0) 84) (plain_date s) None)

abbrev pub stamp_of : Option (Got Time) → Option Date → Option (Got DateTime)
stamp_of (Some t) (Some d) = Some (record { value = stamp d t.value; next = t.next; more = t.more })
stamp_of (Some t) None = None
stamp_of None d = None

abbrev pub plain_stamp : List ℕ → Option (Got DateTime)
plain_stamp s = stamp_of (plain_at s 11) (date_of_stamp s)
