-- By what stands at the place.
use Rattle.types.specs.Sums.{zero_offset}
use Rattle.parser.specs.Reading.{lit}
use Rattle.parser.proofs.Says.{says_map}
use Rattle.offset.specs.Rules.{offset_zulu}
use Rattle.parser.proofs.Passed.{passed_got, says_map_missed}
use Rattle.offset.proofs.offset_zulu.Goals as goal

pub returns-in_err-next : goal.returns-in_err-next
unfolding offset_zulu
returns-in_err-next c =
    let a = c.args in
    passed_got _ _ c.from_residual.ensures.1 (says_map_missed (lit 90) a.s.now a.at (λ _. zero_offset) _ c.in_err-next.ensures)

pub returns : goal.returns
unfolding offset_zulu
returns c =
    let a = c.args in
    says_map (lit 90) a.s.now a.at (λ _. zero_offset) _ _ c.in_ok-next.ensures
