-- What the two readers tell, in words.
use mathlib.Core.Path.{refl}
use Rattle.reply.proofs.Answers.{answered}
use Rattle.reply.proofs.answer_text.Goals as goal

pub returns : goal.returns
returns c =
    answered _ _ _ c.read-read.result.answer c.parse-whole.result c.read-read.result.verdict c.read-read.ensures c.parse-whole.ensures
    c.number-2.ensures c.count.ensures c.number.ensures c.count-2.ensures
    c.head-head.ensures refl c.put_decimal-next.ensures c.put_words-next.ensures c.put_told.ensures
