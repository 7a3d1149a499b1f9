-- By the first three bytes.
use Rattle.std.proofs.Common.{◌+◌, arith}
use Rattle.parser.proofs.Fields.{digit_at}
use Rattle.duration.proofs.Looks.{no_letter_left}
use Rattle.duration.proofs.later_look.Goals as goal

pub returns-then-s-at : goal.returns-then-s-at
returns-then-s-at c =
    let a = c.args in
    let digit = c.if-not-is_ascii_digit.ensures.cases in
    no_letter_left a.s.now a.at (digit_at a.s.now a.at (omega arith) (omega arith) (omega arith)) (digit_at a.s.now (a.at + 1) (omega arith) (omega arith) (omega (arith, c.requires))) (omega arith)
