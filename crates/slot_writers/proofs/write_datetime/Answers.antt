-- The date-time that the slots hold is written, and told.
use mathlib.Core.Path.{refl}
use lib.Dec.{lit<}
use Rattle.datetime_writer.proofs.Laws.{date_time_spells}
use Rattle.held.proofs.Made.{made_of, datetime_made}
use Rattle.slot_writers.proofs.Laws.{date_time_length, slot, wrote}
use Rattle.slot_writers.proofs.write_datetime.Goals as goal

pub returns : goal.returns
returns c =
    let args = c.args in
    let l = args.slots.now in
    let k = args.choices in
    let room = c.if-slots-lt14.false in
    let held =
    (slot l room 2 11 (lit< tt) c.date_of-arg-1.given
    (slot l room 3 10 (lit< tt) c.date_of-arg-2-1.given
    (slot l room 4 9 (lit< tt) c.date_of-arg-3-1.given
    (slot l room 5 8 (lit< tt) c.date_of-arg-4-1.given
    (slot l room 6 7 (lit< tt) c.time_of-arg-1.given
    (slot l room 7 6 (lit< tt) c.time_of-arg-2-1.given
    (slot l room 8 5 (lit< tt) c.time_of-arg-3-1.given
    (slot l room 9 4 (lit< tt) c.time_of-arg-4-1.given
    (slot l room 10 3 (lit< tt) c.time_of-arg-5-1.given
    (slot l room 11 2 (lit< tt) c.time_of-arg-6-1.given
    (slot l room 12 1 (lit< tt) c.time_of-arg-7-1.given
    (slot l room 13 0 (lit< tt) c.time_of-arg-8-1.given refl)))))))))))) in
    wrote (date_time_spells k) date_time_length room (made_of held (datetime_made k c.date_of-date.ensures (c.time_of-time.ensures k))) c.write_datetime-written.ensures c.tell.ensures
