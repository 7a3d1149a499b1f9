-- A date, and what follows it.
use Rattle.date.specs.Rules.{date}
use Rattle.parser.proofs.Says.{says_seq_on}
use Rattle.parser.proofs.Passed.{passed_got, says_seq_missed}
use Rattle.datetime.specs.Rules.{after_date, date_time}
use Rattle.datetime.proofs.Laws.{open_date}
use Rattle.datetime.proofs.datetime_at.Goals as goal

pub returns-in_err-date : goal.returns-in_err-date
unfolding date_time
returns-in_err-date c =
    let a = c.args in
    passed_got _ _ c.from_residual.ensures.1 (says_seq_missed date a.s.now a.at (after_date a.choices) _ c.in_err-date.ensures)

pub after_date-requires : goal.after_date-requires
after_date-requires c more =
    let a = c.args in
    open_date a.s.now a.at _ _ (rw more at c.in_ok-date.ensures)

pub returns : goal.returns
unfolding date_time
returns c =
    let a = c.args in
    says_seq_on date (after_date a.choices) a.s.now a.at _ _ _ _ _ c.in_ok-date.ensures c.after_date.ensures
