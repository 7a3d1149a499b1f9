-- By what stands there.
use mathlib.Core.Bool.{false}
use Rattle.parser.specs.Reading.{lit}
use Rattle.parser.proofs.Says.{says_map}
use Rattle.parser.proofs.Passed.{passed_exact, says_map_missed}
use Rattle.interval.proofs.repeat_end.Goals as goal

pub returns-in_err-next : goal.returns-in_err-next
returns-in_err-next c =
    let a = c.args in
    passed_exact _ _ c.from_residual.ensures.1 (says_map_missed (lit 47) a.s.now a.at (λ _. a.value) _ c.in_err-next.ensures)

pub returns : goal.returns
returns c =
    let a = c.args in
    says_map (lit 47) a.s.now a.at (λ _. a.value) _ false c.in_ok-next.ensures
