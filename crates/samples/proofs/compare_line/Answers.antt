-- The response, and the byte that ends it.
use mathlib.Core.List.{[], ◌∷◌, ◌++◌}
use mathlib.Core.Path.{refl}
use Rattle.text.proofs.Laws.{then_puts}
use Rattle.samples.proofs.compare_line.Goals as goal

pub returns : goal.returns
returns c = let line = c.compare-next.ensures in
    record { text = line.text ++ 10 ∷ []; answer = record { answer = line.text; compares = line.answer; ends = refl }; puts = then_puts line.puts c.put_byte.ensures }
