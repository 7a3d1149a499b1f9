-- A `T`, behind which the date is settled, another byte, or the end; what the date left open stays so.
use mathlib.Core.Bool.{true, false}
use mathlib.Core.Path.{refl, sym}
use Rattle.parser.specs.Reading.{lit}
use Rattle.parser.proofs.Says.{settled_before, says_on, says_seq_got, on_seq_no}
use Rattle.parser.proofs.Passed.{says_seq_missed}
use Rattle.datetime.specs.Rules.{time_of, after_date}
use Rattle.datetime.proofs.after_date.Goals as goal

pub returns-in-Ok : goal.returns-in-Ok
unfolding after_date
returns-in-Ok c =
    let a = c.args in
    let d = a.date in
    rw (settled_before d.more c.requires c.in-Ok.ensures.found)
    (says_on _ a.s.now d.next _ false _ (says_seq_got (lit 84) a.s.now d.next (λ _. time_of a.choices d.value) tt _ false _ _ c.in-Ok.ensures c.time_of.ensures))

pub returns-in-Err : goal.returns-in-Err
unfolding after_date
returns-in-Err c =
    let a = c.args in
    let d = a.date in
    rw c.if-date.true
    (on_seq_no true (lit 84) (λ _. time_of a.choices d.value) a.s.now d.next true (record { found = sym (c.requires c.if-date.true); more = refl }))

pub returns-in-Err-2 : goal.returns-in-Err-2
unfolding after_date
returns-in-Err-2 c =
    let a = c.args in
    let d = a.date in
    rw c.if-date.false
    (says_on (after_date a.choices d.value) a.s.now d.next _ false _ (says_seq_missed (lit 84) a.s.now d.next (λ _. time_of a.choices d.value) _ c.in-Err.ensures))
