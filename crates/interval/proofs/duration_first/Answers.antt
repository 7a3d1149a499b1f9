-- A duration, and what follows it.
use mathlib.Core.Path.{refl}
use Rattle.parser.proofs.Lawful.{open_behind}
use Rattle.parser.proofs.Says.{says_seq_on}
use Rattle.duration.specs.Rules.{duration}
use Rattle.duration.proofs.Laws.{duration_item_lem}
use Rattle.interval.specs.Once.{after_duration, duration_first}
use Rattle.parser.proofs.Passed.{passed_got, says_seq_missed}
use Rattle.interval.proofs.duration_first.Goals as goal

pub returns-in_err-length : goal.returns-in_err-length
unfolding duration_first
returns-in_err-length c =
    let a = c.args in
    passed_got _ _ c.from_residual.ensures.1 (says_seq_missed duration a.s.now a.at (after_duration a.choices) _ c.in_err-length.ensures)

pub after_duration-requires : goal.after_duration-requires
after_duration-requires c more =
    let a = c.args in
    open_behind duration_item_lem.lawful 47 refl a.s.now a.at _ _ (rw more at c.in_ok-length.ensures)

pub returns : goal.returns
unfolding duration_first
returns c =
    let a = c.args in
    says_seq_on duration (after_duration a.choices) a.s.now a.at _ _ _ _ _ c.in_ok-length.ensures c.after_duration.ensures
