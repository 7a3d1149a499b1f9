-- The date that the slots hold is written, and told.
use mathlib.Core.Path.{refl}
use lib.Dec.{lit<}
use Rattle.slots.proofs.Laws.{date_length_lem}
use Rattle.date_writer.proofs.Laws.{date_spells}
use Rattle.held.proofs.Made.{made_of}
use Rattle.slot_writers.proofs.Laws.{slot, wrote}
use Rattle.slot_writers.proofs.write_date.Goals as goal

pub returns : goal.returns
returns c =
    let l = c.args.slots.now in
    let room = c.if-slots-lt6.false in
    let held =
    (slot l room 2 3 (lit< tt) c.date_of-arg-1.given
    (slot l room 3 2 (lit< tt) c.date_of-arg-2-1.given
    (slot l room 4 1 (lit< tt) c.date_of-arg-3-1.given
    (slot l room 5 0 (lit< tt) c.date_of-arg-4-1.given refl)))) in
    wrote date_spells date_length_lem room (made_of held c.date_of-held.ensures) c.write_date-written.ensures c.tell.ensures
