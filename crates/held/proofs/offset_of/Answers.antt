-- Each number fits, or is one that no reader gives.
use borrow.Author.Rules.{rules}
use mir.Syntax.{w32}
use Rattle.text.proofs.Sizes.{read}
use Rattle.held.proofs.Made.{offset_made}
use Rattle.held.proofs.offset_of.Goals as goal

pub returns : goal.returns
returns c = let hours = read {w = w32} {n = c.integer.result} (search rules) in
    let minutes = read {w = w32} {n = c.integer-2.result} (search rules) in
    rw (hours, minutes) (offset_made (rw (read c.ranges.hours) at c.integer.ensures) (rw (read c.ranges.minutes) at c.integer-2.ensures))
