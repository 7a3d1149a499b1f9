-- The letter, the digits and the `/` one behind the other.
use Rattle.text.proofs.Laws.{then_puts}
use Rattle.writing.specs.Spelling.{repetitions_spelling}
use Rattle.interval_writer.proofs.put_repetitions.Goals as goal

pub returns-in-Times : goal.returns-in-Times
unfolding repetitions_spelling
returns-in-Times c =
    rw c.in-Times.is (then_puts c.put_byte-letter.ensures (then_puts c.put_decimal-digits.ensures c.put_byte.ensures))
