-- The plain form by its law, anything else by the rule.
use mathlib.Core.Path.{sym}
use Rattle.datetime.proofs.plain.Laws.{stamp_says}
use Rattle.datetime.proofs.plain.datetime_begun.Goals as goal

pub returns-in-Some : goal.returns-in-Some
returns-in-Some c = stamp_says c.args.choices c.args.s.now _ (sym c.in-Some.ensures)
