-- What is said, and the byte that ends it.
use mathlib.Core.List.{[], ◌∷◌, ◌++◌}
use mathlib.Core.Path.{refl}
use Rattle.text.proofs.Laws.{then_puts}
use Rattle.cuts.proofs.pieces_line.Goals as goal

pub returns : goal.returns
returns c = let line = c.say-next.ensures in
    record { text = line.text ++ 10 ∷ []; answer = record { said = line.text; says = line.answer; ends = refl }; puts = then_puts line.puts c.put_byte.ensures }
