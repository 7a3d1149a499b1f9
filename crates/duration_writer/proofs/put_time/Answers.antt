-- The `T` and the three parts one behind the other.
use Rattle.text.proofs.Laws.{then_puts}
use Rattle.writing.specs.Spelling.{time_parts}
use Rattle.duration_writer.proofs.Sizes.{behind_t_lem}
use Rattle.duration_writer.proofs.put_time.Goals as goal

pub returns : goal.returns
unfolding time_parts
returns c =
    rw (behind_t_lem c.args.d, ← c.is_timeless.ensures, c.if-is_timeless.false)
    (then_puts c.put_byte-next.ensures (then_puts (then_puts c.put_part-next.ensures c.put_part-next-2.ensures) c.put_part.ensures))
