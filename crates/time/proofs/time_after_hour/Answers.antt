-- Minute, second and fraction are there, or left out, or stop the reading; the offset is read on from there.
use Rattle.parser.specs.Reading.{opt}
use Rattle.parser.proofs.Says.{says_seq_on}
use Rattle.time.specs.Rules.{whole_clock, or_whole, behind_hour, time_offset, after_hour}
use Rattle.parser.proofs.Passed.{passed_got, says_seq_missed, says_opt_missed, says_opt_got}
use Rattle.time.proofs.LeftOut.{or_whole_lem}
use Rattle.time.proofs.time_after_hour.Goals as goal

pub returns-in_err-clock : goal.returns-in_err-clock
unfolding after_hour
returns-in_err-clock c =
    let a = c.args in
    let p = behind_hour a.reading a.zero in
    passed_got _ _ c.from_residual.ensures.1
    (says_seq_missed (opt p) a.s.now a.at (λ k. time_offset a.hour (or_whole 0 0 k)) _ (says_opt_missed p a.s.now a.at (whole_clock 0 0) _ _ c.time_behind_hour-found.ensures _ c.in_err-clock.ensures.found c.in_err-clock.ensures.more))

pub returns : goal.returns
unfolding after_hour
returns c =
    let a = c.args in
    let p = behind_hour a.reading a.zero in
    let t = says_opt_got p a.s.now a.at (whole_clock 0 0) _ _ c.time_behind_hour-found.ensures _ _ _ c.in_ok-clock.ensures.found c.in_ok-clock.ensures.more in
    says_seq_on (opt p) (λ k. time_offset a.hour (or_whole 0 0 k)) a.s.now a.at t.item _ _ _ _ t.says (rw (or_whole_lem 0 0 t.item, t.value) c.time_offset.ensures)
