-- Number by number.
use mathlib.Core.Path.{◌∙◌}
use borrow.Author.Rules.{rules}
use Rattle.text.proofs.Sizes.{read}
use Rattle.held.proofs.Durations.{duration_made}
use Rattle.held.proofs.duration_of.Goals as goal

pub returns : goal.returns
returns c =
    duration_made
    (record { is = c.number_of.ensures ∙ read c.ranges.years; fits = search rules })
    (record { is = c.number_of-2.ensures ∙ read c.ranges.months; fits = search rules })
    (record { is = c.number_of-3.ensures ∙ read c.ranges.weeks; fits = search rules })
    (record { is = c.number_of-4.ensures ∙ read c.ranges.days; fits = search rules })
    (record { is = c.number_of-5.ensures ∙ read c.ranges.hours; fits = search rules })
    (record { is = c.number_of-6.ensures ∙ read c.ranges.minutes; fits = search rules })
    (record { is = c.number_of-7.ensures ∙ read c.ranges.seconds; fits = search rules })
