-- The offset that the slots hold is written, and told.
use mathlib.Core.Path.{refl}
use lib.Dec.{lit<}
use Rattle.offset_writer.proofs.Laws.{offset_spells}
use Rattle.held.proofs.Made.{made_of}
use Rattle.slot_writers.proofs.Laws.{slot, wrote}
use Rattle.slot_writers.proofs.write_offset.Goals as goal

pub returns : goal.returns
returns c =
    let l = c.args.slots.now in
    let room = c.if-slots-lt4.false in
    let held =
    (slot l room 2 1 (lit< tt) c.offset_of-arg-1.given
    (slot l room 3 0 (lit< tt) c.offset_of-arg-2-1.given refl)) in
    wrote offset_spells (λ o. refl) room (made_of held c.offset_of-held.ensures) c.write_offset-written.ensures c.tell.ensures
