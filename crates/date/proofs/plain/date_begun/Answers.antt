-- The plain form by its law, anything else by the rule.
use mathlib.Core.Path.{sym}
use Rattle.date.proofs.plain.Laws.{plain_says}
use Rattle.date.proofs.plain.date_begun.Goals as goal

pub returns-in-Some : goal.returns-in-Some
returns-in-Some c = plain_says c.args.s.now _ (sym c.in-Some.ensures)
