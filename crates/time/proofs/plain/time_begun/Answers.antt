-- The plain forms by their law, anything else by the rule.
use mathlib.Core.Path.{sym}
use Rattle.time.proofs.plain.Laws.{plain_says}
use Rattle.time.proofs.plain.time_begun.Goals as goal

pub returns-in-Some : goal.returns-in-Some
returns-in-Some c = plain_says c.args.choices c.args.s.now _ (sym c.in-Some.ensures)
