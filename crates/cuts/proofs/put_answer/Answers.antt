-- The number, the words and the bar.
use mathlib.Core.Path.{refl}
use Rattle.parser.specs.Told.{told}
use Rattle.text.proofs.Laws.{then_puts}
use Rattle.cuts.specs.Cuts.{begun_text}
use Rattle.cuts.proofs.put_answer.Goals as goal

pub returns : goal.returns
returns c =
    let read = c.answer-read.result in
    record {
      text = begun_text (told read.answer) read.verdict;
      answer = record { read = read; answers = c.answer-read.ensures; says = refl };
      puts = then_puts (rw c.number.ensures at c.put_decimal-next.ensures)
          (then_puts (rw (c.count.ensures, c.verdict_word.ensures) at c.put_words-next.ensures) c.put.ensures);
    }
