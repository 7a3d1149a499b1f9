-- The minute, then what follows it.
use mathlib.Core.Bool.{false}
use Rattle.parser.specs.Fields.{minute, preceded_by}
use Rattle.parser.proofs.Says.{says_seq_got}
use Rattle.time.specs.Rules.{zero_if, minute_second_millisecond, second_millisecond}
use Rattle.parser.proofs.Passed.{passed_got, says_seq_missed}
use Rattle.time.proofs.Zero.{zero_within}
use Rattle.time.proofs.time_minute_second_millisecond.Goals as goal

pub returns-in_err-minute : goal.returns-in_err-minute
unfolding minute_second_millisecond
returns-in_err-minute c =
    let a = c.args in
    passed_got _ _ c.from_residual.ensures.1 (says_seq_missed (preceded_by 58 (zero_if a.zero minute)) a.s.now a.at (second_millisecond a.reading a.zero) _ c.in_err-minute.ensures)

pub time_second_millisecond-requires : goal.time_second_millisecond-requires
time_second_millisecond-requires c = zero_within c.args.zero 59 c.args.s.now c.args.at _ _ _ c.in_ok-minute.ensures

pub returns : goal.returns
unfolding minute_second_millisecond
returns c =
    let a = c.args in
    says_seq_got (preceded_by 58 (zero_if a.zero minute)) a.s.now a.at (second_millisecond a.reading a.zero) _ _ false _ _ c.in_ok-minute.ensures c.time_second_millisecond.ensures
