-- The words of the repetitions and those of the shape stand in one row.
use Rattle.std.proofs.Common.{◌++◌, ap, List, ℕ, [], ◌∷◌}
use Rattle.words.specs.Words.{word_text}
use Rattle.words.specs.Records.{repeat_words, shape_words}
use Rattle.words.specs.declared.word.Name.TheVariants.{Interval}
use Rattle.words.specs.declared.word.Word.TheVariants.{Name as Named}
use Rattle.words.proofs.Laws.{texts_append}
use Rattle.words.proofs.records.interval.Goals as goal

pub returns : goal.returns
returns c =
    let v = c.args.v in
    let how = c.repeat-repeat.result in
    let shape = c.shape-side.result in
    ap (λ (t : List ℕ). word_text (Named Interval) ++ t) (texts_append (how.0 ∷ how.1 ∷ []) (shape.0 ∷ shape.1 ∷ shape.2 ∷ []) (repeat_words v.repetitions) (shape_words v.range) c.repeat-repeat.ensures c.shape-side.ensures)
