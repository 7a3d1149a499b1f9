-- What is said, and the byte that ends it.
use mathlib.Core.Path.{refl}
use Rattle.text.proofs.Laws.{then_puts}
use Rattle.distances.proofs.apart_line.Goals as goal

pub returns : goal.returns
returns c =
    let given = c.say-next.ensures in
    record { text = _; answer = record { said = given.text; away = given.answer; ends = refl }; puts = then_puts given.puts c.put_byte.ensures }
