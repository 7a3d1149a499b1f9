-- One more word is put behind those so far.
use Rattle.words.proofs.Laws.{words_more}
use Rattle.words.proofs.rows.put_words.Goals as goal

pub loop-word-preserved : goal.loop-word-preserved
loop-word-preserved c = words_more _ _ _ c.loop-word-test.true c.loop-word.invariant c.put_word-next.ensures
