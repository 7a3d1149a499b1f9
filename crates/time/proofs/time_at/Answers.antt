-- An hour is open wherever the input ends, so the `T` that may be missing there changes nothing.
use Rattle.parser.proofs.General.{says_past}
use Rattle.time.specs.Rules.{time, base_time}
use Rattle.time.proofs.Laws.{base_time_eager}
use Rattle.time.proofs.time_at.Goals as goal

pub returns : goal.returns
unfolding time
returns c =
    let a = c.args in
    says_past 84 (base_time a.choices) (base_time_eager a.choices) a.s.now a.at _ _ _ c.past.ensures c.base_time.ensures
