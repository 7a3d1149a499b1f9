-- By what the sides are found as.
use Rattle.std.proofs.Common.{rules}
use Rattle.interval.specs.Rules.{interval_of}
use Rattle.interval.specs.Once.{range_once}
use Rattle.parser.proofs.Passed.{says_made}
use Rattle.interval.proofs.with_range.Goals as goal

pub returns : goal.returns
returns c =
    let a = c.args in
    says_made (range_once a.choices) a.s.now a.at (interval_of a.repetitions) c.range_at.result c.map.result (λ x y k. search rules) c.map.ensures.cases c.range_at.ensures
