-- By the look, and where it tells no part, by what stands there.
use Rattle.std.proofs.Common.{sym, ◌∙◌}
use Rattle.parts.proofs.Items.{end_item}
use Rattle.duration.proofs.Looks.{look_stands, digit_open}
use Rattle.duration.proofs.is_open.Goals as goal

pub returns-then-look-ne-NONE : goal.returns-then-look-ne-NONE
returns-then-look-ne-NONE c = sym ((look_stands c.args.s.now c.args.at _ c.requires.1 c.requires.0).closed c.if-look-ne-NONE.true)

pub returns-in_default : goal.returns-in_default
returns-in_default c = rw (end_item c.args.s.now c.args.at c.in_default.ensures.lookup.3)

pub returns : goal.returns
returns c =
    let byte = c.in-Some.ensures.lookup.3 in
    c.is_ascii_digit.ensures.value ∙ rw (byte.1 0) (digit_open c.args.s.now c.args.at (rw c.if-look-ne-NONE.false at c.requires.0) byte.0)
