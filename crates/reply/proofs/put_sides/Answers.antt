-- Where a duration stands first, its words and those of the other side behind them.
use mathlib.Core.List.{append-nil}
use Rattle.text.proofs.Laws.{then_puts}
use Rattle.words.specs.Words.{word_text}
use Rattle.words.specs.Records.{duration_words}
use Rattle.words.specs.declared.word.Name.TheVariants.{Dash}
use Rattle.words.specs.declared.word.Word.TheVariants.{Name as Named}
use Rattle.words.proofs.Laws.{text_append}
use Rattle.reply.proofs.put_sides.Goals as goal

pub returns-in-ClosedEnd : goal.returns-in-ClosedEnd
returns-in-ClosedEnd c = rw (c.in-ClosedEnd.is, text_append (duration_words _)) (then_puts (rw c.duration.ensures at c.put_words-next.ensures) c.put_stamp-in-ClosedEnd.ensures)

pub returns-in-Open : goal.returns-in-Open
returns-in-Open c = rw (c.in-Open.is, text_append, append-nil (word_text (Named Dash))) (then_puts (rw c.duration-in-Open.ensures at c.put_words-next-in-Open.ensures) c.put_word.ensures)
