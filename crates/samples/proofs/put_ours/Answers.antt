-- A question that the buffer clips is too long to be known.
use mathlib.Core.Path.{refl, sym}
use lib.Seq.{length-take-le}
use Rattle.text.proofs.Laws.{puts_within}
use Rattle.samples.proofs.Laws.{told_in}
use Rattle.samples.proofs.put_ours.Goals as goal

pub slice_bounds-question-end : goal.slice_bounds-question-end
slice_bounds-question-end c = puts_within c.put_question-n.ensures

pub slice_bounds-answer-end : goal.slice_bounds-answer-end
slice_bounds-answer-end c = sym (length-take-le _ _ (puts_within c.put_question-n.ensures))

pub returns : goal.returns
returns c = let given = c.answer.ensures in
    record { text = given.text; answer = told_in c.args.line.now c.args.tab given.text refl c.put_question-n.ensures given.answer; puts = given.puts }
