-- The date, the `T`, and the time in what is lent.
use native.Mathlib.Omega.{arith}
use Rattle.text.proofs.Laws.{then_puts, puts_lent, puts_within}
use Rattle.writing.specs.Spelling.{date_time_spelling}
use Rattle.datetime_writer.proofs.put_datetime.Goals as goal

pub returns : goal.returns
unfolding date_time_spelling
returns c =
    let inside = puts_within (then_puts c.put_date-next.ensures c.put_byte-next.ensures) in
    then_puts c.put_date-next.ensures (then_puts c.put_byte-next.ensures (puts_lent _ _ inside c.put_time.ensures))

pub slice_bounds-put_time-count : goal.slice_bounds-put_time-count
slice_bounds-put_time-count c = puts_within (then_puts c.put_date-next.ensures c.put_byte-next.ensures)

pub slice_bounds-put_time-start : goal.slice_bounds-put_time-start
slice_bounds-put_time-start c = puts_within (then_puts c.put_date-next.ensures c.put_byte-next.ensures)

pub overflow_add-result : goal.overflow_add-result
overflow_add-result c =
    let inside = puts_within (then_puts c.put_date-next.ensures c.put_byte-next.ensures) in
    let time = puts_within c.put_time.ensures in
    record { fits = omega (arith, inside, time) }
