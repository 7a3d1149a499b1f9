-- Two digits from 00 on are open wherever the input ends, so the colon that may be missing there changes nothing.
use native.Mathlib.Omega.{arith}
use borrow.Author.Tests.{le-leb}
use Rattle.parser.specs.Digits.{field, reach, lowest, highest}
use Rattle.parser.proofs.General.{field_eager, says_past}
use Rattle.fields.proofs.after_colon.Goals as goal

pub returns : goal.returns
unfolding reach lowest highest
returns c =
    let a = c.args in
    says_past 58 (field 2 0 a.hi) (field_eager 2 0 a.hi (omega arith) (le-leb 0 a.hi (omega arith))) a.s.now a.at _ _ _ c.past.ensures c.take_digits_in_range.ensures
