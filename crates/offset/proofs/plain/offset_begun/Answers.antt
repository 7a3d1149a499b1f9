-- The plain forms by their law, anything else by the rule.
use mathlib.Core.Path.{sym}
use Rattle.offset.proofs.plain.Laws.{end_says, plain_end, plain_read}
use Rattle.offset.proofs.plain.offset_begun.Goals as goal

pub returns-in-Got : goal.returns-in-Got
returns-in-Got c =
    (plain_read c.args.s.now 0 _ _ (sym (rw c.in-Got.is at c.plain_offset.ensures))).says

pub returns-in-End : goal.returns-in-End
returns-in-End c =
    let a = c.args in
    end_says a.s.now 0 (plain_end a.s.now 0 (sym (rw c.in-End.is at c.plain_offset.ensures)))
