-- The time that the slots hold is written, and told.
use mathlib.Core.Path.{refl}
use lib.Dec.{lit<}
use Rattle.slots.proofs.Laws.{time_length_lem}
use Rattle.time_writer.proofs.Laws.{time_spells}
use Rattle.held.proofs.Made.{made_of}
use Rattle.slot_writers.proofs.Laws.{slot, wrote}
use Rattle.slot_writers.proofs.write_time.Goals as goal

pub returns : goal.returns
returns c =
    let args = c.args in
    let l = args.slots.now in
    let k = args.choices in
    let room = c.if-slots-lt10.false in
    let held =
    (slot l room 2 7 (lit< tt) c.time_of-arg-1.given
    (slot l room 3 6 (lit< tt) c.time_of-arg-2-1.given
    (slot l room 4 5 (lit< tt) c.time_of-arg-3-1.given
    (slot l room 5 4 (lit< tt) c.time_of-arg-4-1.given
    (slot l room 6 3 (lit< tt) c.time_of-arg-5-1.given
    (slot l room 7 2 (lit< tt) c.time_of-arg-6-1.given
    (slot l room 8 1 (lit< tt) c.time_of-arg-7-1.given
    (slot l room 9 0 (lit< tt) c.time_of-arg-8-1.given refl)))))))) in
    wrote (time_spells k) time_length_lem room (made_of held (c.time_of-held.ensures k)) c.write_time-written.ensures c.tell.ensures
