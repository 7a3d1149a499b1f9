-- A date-time that is tried.
use Rattle.std.proofs.Common.{◌∙◌}
use Rattle.datetime.specs.Rules.{date_time}
use Rattle.interval.specs.Rules.{stamp}
use Rattle.parser.proofs.Passed.{stopped_settled}
use Rattle.interval.proofs.Telling.{says_tried}
use Rattle.interval.proofs.stamp_at.Goals as goal

pub returns : goal.returns
unfolding stamp
returns c =
    let a = c.args in
    let e = c.no_form_fails.ensures in
    let h = c.datetime_at.ensures in
    record {
      read = rw (e.found, e.more) (says_tried (date_time a.choices) a.s.now a.at _ _ h);
      no_form = λ i. e.more ∙ stopped_settled c.datetime_at.result 1 (h.found ∙ i);
    }
