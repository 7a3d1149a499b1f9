-- The words so far are put.
use Rattle.std.proofs.Common.{take}
use Rattle.text.specs.Text.{Puts}
use Rattle.words.specs.Words.{text_of}
use Rattle.words.proofs.rows.put_words.Given as goal

abbrev pub invariant-loop-word : goal.invariant-loop-word
invariant-loop-word l = Puts (text_of (take l.word-index l.words)) l.initial.out l.at l.out l.next
