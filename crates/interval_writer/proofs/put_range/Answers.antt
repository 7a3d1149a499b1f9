-- The first side, `/` and the second are put one behind the other.
use native.Mathlib.Omega.{arith}
use Rattle.text.proofs.Laws.{then_puts, puts_clips}
use Rattle.interval_writer.proofs.put_range.Goals as goal

pub put_side-requires : goal.put_side-requires
put_side-requires c =
    let front = puts_clips (then_puts c.put_side-next.ensures c.put_byte-next.ensures) c.requires in
    omega (arith, front.place, front.size)

pub returns-in-Some : goal.returns-in-Some
returns-in-Some c = rw (← c.sides_of-first.ensures.spelled, c.in-Some.is) (then_puts c.put_side-next.ensures (then_puts c.put_byte-next.ensures c.put_side.ensures))
