-- A comma or point, and the digits behind it, which are counted by the unit.
use mathlib.Core.Bool.{Bool, false}
use Rattle.types.specs.declared.Fraction.{Fraction}
use Rattle.parser.specs.Reading.{Reader, seq}
use Rattle.parser.specs.Fields.{either}
use Rattle.parser.proofs.Says.{says_map, says_seq_got}
use Rattle.time.specs.Rules.{fraction_if, clock_of, time_fraction}
use Rattle.parser.proofs.Passed.{passed_got, says_map_missed, says_seq_missed}
use Rattle.time.proofs.time_fraction.Goals as goal

abbrev point : Bool → Reader Fraction
point z = seq (either 44 46) (λ _. fraction_if z)

pub returns-in_err-from : goal.returns-in_err-from
unfolding time_fraction
returns-in_err-from c =
    let a = c.args in
    let w = a.whole in
    passed_got _ _ c.from_residual.ensures.1 (says_map_missed (point a.zero) a.s.now a.at (clock_of w.unit w.minute w.second) _ (says_seq_missed (either 44 46) a.s.now a.at (λ _. fraction_if a.zero) _ c.in_err-from.ensures))

pub returns-in_err-fraction : goal.returns-in_err-fraction
unfolding time_fraction
returns-in_err-fraction c =
    let a = c.args in
    let w = a.whole in
    passed_got _ _ c.from_residual-in_err-fraction.ensures.1 (says_map_missed (point a.zero) a.s.now a.at (clock_of w.unit w.minute w.second) _ (says_seq_got (either 44 46) a.s.now a.at (λ _. fraction_if a.zero) tt _ false _ _ c.in_ok-from.ensures c.in_err-fraction.ensures))

pub returns : goal.returns
unfolding time_fraction
returns c =
    let a = c.args in
    let w = a.whole in
    rw c.with.ensures (says_map (point a.zero) a.s.now a.at (clock_of w.unit w.minute w.second) _ _ (says_seq_got (either 44 46) a.s.now a.at (λ _. fraction_if a.zero) tt _ false _ _ c.in_ok-from.ensures c.in_ok-fraction.ensures))
