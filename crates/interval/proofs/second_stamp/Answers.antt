-- By what the date-time is found as.
use Rattle.std.proofs.Common.{rules}
use Rattle.types.specs.declared.IntervalRange.TheVariants.{Closed}
use Rattle.interval.specs.Rules.{stamp}
use Rattle.parser.proofs.Passed.{says_made}
use Rattle.interval.proofs.second_stamp.Goals as goal

pub returns : goal.returns
returns c =
    let a = c.args in
    says_made (stamp a.choices) a.s.now a.at (Closed a.start) c.stamp_at.result c.map.result (λ x y k. search rules) c.map.ensures.cases c.stamp_at.ensures.read
