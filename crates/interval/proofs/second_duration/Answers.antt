-- By what the duration is found as.
use Rattle.std.proofs.Common.{rules}
use Rattle.types.specs.declared.IntervalRange.TheVariants.{ClosedStart}
use Rattle.duration.specs.Rules.{duration}
use Rattle.parser.proofs.Passed.{says_made}
use Rattle.interval.proofs.second_duration.Goals as goal

pub returns : goal.returns
returns c =
    let a = c.args in
    says_made duration a.s.now a.at (ClosedStart a.start) c.duration_at.result c.map.result (λ x y k. search rules) c.map.ensures.cases c.duration_at.ensures
