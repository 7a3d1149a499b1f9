-- One of the three forms.
use mathlib.Core.Path.{◌≡◌}
use borrow.Author.Rules.{rules}
use lib.IntN.{pos}
use mir.Syntax.{w32}
use Rattle.text.proofs.Sizes.{read}
use Rattle.held.proofs.Made.{calendar_made, week_made, ordinal_made}
use Rattle.held.proofs.date_of.Goals as goal

pub returns-in-0 : goal.returns-in-0
returns-in-0 c =
    let year = read {w = w32} {n = c.integer.result} (search rules) in
    let form : c.args.form ≡ pos 0 = search rules in
    rw year (calendar_made form (rw (read c.ranges.year) at c.integer.ensures) (rw (read c.ranges.part) at c.natural.ensures) (rw (read c.ranges.day) at c.natural-in-0.ensures))

pub returns-in-1 : goal.returns-in-1
returns-in-1 c =
    let year = read {w = w32} {n = c.integer-in-1.result} (search rules) in
    let form : c.args.form ≡ pos 1 = search rules in
    rw year (week_made form (rw (read c.ranges.year) at c.integer-in-1.ensures) (rw (read c.ranges.part) at c.natural-in-1.ensures) (rw (read c.ranges.day) at c.natural-in-1-2.ensures))

pub returns-in-2 : goal.returns-in-2
returns-in-2 c =
    let year = read {w = w32} {n = c.integer-in-2.result} (search rules) in
    let form : c.args.form ≡ pos 2 = search rules in
    let part : c.args.part ≡ pos 0 = search rules in
    rw year (ordinal_made form part (rw (read c.ranges.year) at c.integer-in-2.ensures) (rw (read c.ranges.day) at c.natural-in-2.ensures))
