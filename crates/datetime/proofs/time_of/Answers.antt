-- By what the time found.
use Rattle.parser.proofs.Says.{says_map}
use Rattle.time.specs.Rules.{base_time}
use Rattle.parser.proofs.Passed.{passed_got, says_map_missed}
use Rattle.datetime.specs.Rules.{stamp, time_of}
use Rattle.datetime.proofs.time_of.Goals as goal

pub returns-in_err-time : goal.returns-in_err-time
unfolding time_of
returns-in_err-time c =
    let a = c.args in
    passed_got _ _ c.from_residual.ensures.1 (says_map_missed (base_time a.choices) a.s.now a.at (stamp a.date) _ c.in_err-time.ensures)

pub returns : goal.returns
unfolding time_of
returns c =
    let a = c.args in
    says_map (base_time a.choices) a.s.now a.at (stamp a.date) _ _ c.in_ok-time.ensures
