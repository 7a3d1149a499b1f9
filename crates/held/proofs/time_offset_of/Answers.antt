-- An offset that is given.
use mathlib.Core.Path.{◌≡◌}
use borrow.Author.Rules.{rules}
use lib.IntN.{pos}
use Rattle.text.proofs.Sizes.{read}
use Rattle.held.proofs.Made.{given_made}
use Rattle.held.proofs.time_offset_of.Goals as goal

pub returns-then-given-eq1 : goal.returns-then-given-eq1
returns-then-given-eq1 c =
    let given : c.args.given ≡ pos 1 = search rules in
    given_made given (rw (read c.ranges.hours, read c.ranges.minutes) at c.offset_of.ensures)
