-- The sign, then the hour, then what follows; the first that fails ends it.
use mathlib.Core.Bool.{false}
use mathlib.Core.Path.{sym}
use Rattle.parser.specs.Reading.{seq}
use Rattle.parser.specs.Fields.{hour, signed}
use Rattle.parser.proofs.Leaves.{field_within}
use Rattle.parser.proofs.Says.{says_seq_got}
use Rattle.offset.specs.Rules.{offset_hour, offset_minute}
use Rattle.parser.proofs.Passed.{passed_got, says_seq_missed}
use Rattle.offset.proofs.offset_hour.Goals as goal

pub returns-in_err-sign : goal.returns-in_err-sign
unfolding offset_hour
returns-in_err-sign c =
    let a = c.args in
    passed_got _ _ c.from_residual.ensures.1 (says_seq_missed signed a.s.now a.at (λ minus. seq hour (offset_minute minus)) _ c.in_err-sign.ensures)

pub returns-in_err-hour : goal.returns-in_err-hour
unfolding offset_hour
returns-in_err-hour c =
    let a = c.args in
    passed_got _ _ c.from_residual-in_err-hour.ensures.1
    (says_seq_got signed a.s.now a.at (λ minus. seq hour (offset_minute minus)) _ _ false _ _ c.in_ok-sign.ensures
    (says_seq_missed hour a.s.now _ (offset_minute _) _ c.in_err-hour.ensures))

pub offset_minute-requires : goal.offset_minute-requires
offset_minute-requires c =
    (field_within 2 0 23 _ _ _ _ (sym c.in_ok-hour.ensures.found)).1

pub returns : goal.returns
unfolding offset_hour
returns c =
    let a = c.args in
    says_seq_got signed a.s.now a.at (λ minus. seq hour (offset_minute minus)) _ _ false _ _ c.in_ok-sign.ensures
    (says_seq_got hour a.s.now _ (offset_minute _) _ _ false _ _ c.in_ok-hour.ensures c.offset_minute.ensures)
