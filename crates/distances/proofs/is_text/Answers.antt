-- By the test on its length, and by whether it has a space.
use Rattle.distances.proofs.Parts.{text_told}
use Rattle.distances.proofs.is_text.Goals as goal

pub returns-then-s-le-LONGEST : goal.returns-then-s-le-LONGEST
returns-then-s-le-LONGEST c = rw c.contains.ensures.value (text_told c.args.s.now c.if-s-le-LONGEST.true)
