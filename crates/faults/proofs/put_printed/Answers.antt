-- Each turn puts the next byte as it prints.
use Rattle.std.proofs.lemmas.List.{map_more}
use Rattle.text.proofs.Laws.{then_puts}
use Rattle.faults.specs.Faults.{printed_of}
use Rattle.faults.proofs.put_printed.Goals as goal

pub loop-byte-preserved : goal.loop-byte-preserved
loop-byte-preserved c =
    rw (map_more printed_of c.args.s.now c.loop-byte.byte-index 0 c.loop-byte-test.true) (then_puts c.loop-byte.invariant (rw c.shown_as.ensures at c.put_byte-next.ensures))
