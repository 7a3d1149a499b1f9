-- The whole reader's number and count, and the record of the last answer.
use mathlib.Core.List.{[], ◌∷◌, append-nil}
use mathlib.Core.Path.{refl}
use Rattle.parser.specs.Told.{told}
use Rattle.text.proofs.Laws.{then_puts}
use Rattle.words.specs.declared.word.Word.TheVariants.{Number}
use Rattle.words.specs.Words.{word_text, text_of}
use Rattle.cuts.specs.Cuts.{end_text}
use Rattle.cuts.proofs.put_end.Goals as goal

pub returns : goal.returns
returns c =
    let word = Number (told c.end-whole.result).count in
    record {
      text = end_text (told c.end-whole.result) (told c.answer-last.result.answer);
      answer = record { whole = c.end-whole.result; ends = c.end-whole.ensures; last = c.answer-last.result; answers = c.answer-last.ensures; says = refl };
      puts = then_puts (rw c.number.ensures at c.put_decimal-next.ensures)
          (then_puts {a = text_of (word ∷ [])} (rw (append-nil (word_text word), ← c.count.ensures) c.put_word-next.ensures) c.put_told.ensures);
    }
