-- By the first byte: one of the two is out.
use Rattle.std.proofs.Common.{rules, ◌≤◌}
use mathlib.Core.Bool.{true, false}
use mathlib.Core.Path.{◌≡◌, sym}
use lib.Dec.{ltb, eqb}
use lib.ListN.{length, get_or}
use Rattle.parser.specs.Reading.{lit, seq}
use Rattle.parser.proofs.Says.{says_seq_no, says_alt_no}
use Rattle.duration.specs.Rules.{duration}
use Rattle.interval.specs.Rules.{tried}
use Rattle.interval.specs.Followed.{followed}
use Rattle.interval.specs.Once.{after_start, stamp_first, after_duration, duration_first, range_once}
use Rattle.interval.proofs.Apart.{says_alt_out, tried_out, followed_out, duration_out}
use Rattle.interval.proofs.Laws.{range_item}
use Rattle.interval.proofs.range_at.Goals as goal

pub returns-in-Some-eq80 : goal.returns-in-Some-eq80
unfolding range_once stamp_first
returns-in-Some-eq80 c =
    let a = c.args in
    let inside : ltb a.at (length a.s.now) ≡ true = search rules in
    let p : get_or a.s.now a.at 0 ≡ 80 = search rules in
    says_alt_no (stamp_first a.choices) a.s.now a.at (duration_first a.choices) false _ _ (says_seq_no (tried (followed a.choices)) a.s.now a.at (λ x. seq (lit 47) (λ _. after_start a.choices x)) false (tried_out (followed_out a.s.now a.at inside (rw p) a.choices))) c.duration_first.ensures

pub returns-in-Some : goal.returns-in-Some
unfolding range_once duration_first
returns-in-Some c =
    let a = c.args in
    let inside : ltb a.at (length a.s.now) ≡ true = search rules in
    let other : eqb (get_or a.s.now a.at 0) 80 ≡ false = search rules in
    says_alt_out (stamp_first a.choices) (duration_first a.choices) a.s.now a.at _ _ c.stamp_first.ensures (says_seq_no duration a.s.now a.at (after_duration a.choices) false (duration_out a.s.now a.at inside other))

pub returns-in-None : goal.returns-in-None
returns-in-None c =
    let a = c.args in
    let past : length a.s.now ≤ a.at = search rules in
    record { found = sym ((range_item a.choices).fails a.s.now a.at past); more = sym ((range_item a.choices).eager a.s.now a.at past) }
