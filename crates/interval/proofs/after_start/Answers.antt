-- By the first byte: one of the two is out.
use Rattle.std.proofs.Common.{rules, ◌≤◌}
use mathlib.Core.Bool.{true, false}
use mathlib.Core.Path.{◌≡◌, sym}
use lib.Dec.{ltb, eqb}
use lib.ListN.{length, get_or}
use Rattle.types.specs.declared.IntervalRange.TheVariants.{Closed, ClosedStart}
use Rattle.parser.specs.Reading.{no, map}
use Rattle.parser.proofs.Says.{says_map, says_alt_no}
use Rattle.duration.specs.Rules.{duration}
use Rattle.interval.specs.Rules.{stamp}
use Rattle.interval.specs.Once.{after_start}
use Rattle.interval.proofs.Apart.{says_alt_out, tried_out, stamp_out, duration_out}
use Rattle.interval.proofs.Laws.{after_start_item}
use Rattle.interval.proofs.after_start.Goals as goal

pub returns-in-Some-eq80 : goal.returns-in-Some-eq80
unfolding after_start stamp
returns-in-Some-eq80 c =
    let a = c.args in
    let inside : ltb a.at (length a.s.now) ≡ true = search rules in
    let p : get_or a.s.now a.at 0 ≡ 80 = search rules in
    says_alt_no (map (Closed a.start) (stamp a.choices)) a.s.now a.at (map (ClosedStart a.start) duration) false _ _ (says_map (stamp a.choices) a.s.now a.at (Closed a.start) no false (tried_out (stamp_out a.s.now a.at inside (rw p) a.choices))) c.second_duration.ensures

pub returns-in-Some : goal.returns-in-Some
unfolding after_start
returns-in-Some c =
    let a = c.args in
    let inside : ltb a.at (length a.s.now) ≡ true = search rules in
    let other : eqb (get_or a.s.now a.at 0) 80 ≡ false = search rules in
    says_alt_out (map (Closed a.start) (stamp a.choices)) (map (ClosedStart a.start) duration) a.s.now a.at _ _ c.second_stamp.ensures (says_map duration a.s.now a.at (ClosedStart a.start) no false (duration_out a.s.now a.at inside other))

pub returns-in-None : goal.returns-in-None
returns-in-None c =
    let a = c.args in
    let past : length a.s.now ≤ a.at = search rules in
    record { found = sym ((after_start_item a.choices a.start).fails a.s.now a.at past); more = sym ((after_start_item a.choices a.start).eager a.s.now a.at past) }
