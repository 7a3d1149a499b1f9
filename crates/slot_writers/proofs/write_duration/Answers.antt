-- The duration that the slots hold is written, and told.
use mathlib.Core.Path.{refl}
use lib.Dec.{lit<}
use Rattle.duration_writer.proofs.Laws.{duration_spells}
use Rattle.held.proofs.Made.{made_of}
use Rattle.slot_writers.proofs.Laws.{slot, wrote}
use Rattle.slot_writers.proofs.write_duration.Goals as goal

pub returns : goal.returns
returns c =
    let l = c.args.slots.now in
    let room = c.if-slots-lt9.false in
    let held =
    (slot l room 2 6 (lit< tt) c.duration_of-arg-1.given
    (slot l room 3 5 (lit< tt) c.duration_of-arg-2-1.given
    (slot l room 4 4 (lit< tt) c.duration_of-arg-3-1.given
    (slot l room 5 3 (lit< tt) c.duration_of-arg-4-1.given
    (slot l room 6 2 (lit< tt) c.duration_of-arg-5-1.given
    (slot l room 7 1 (lit< tt) c.duration_of-arg-6-1.given
    (slot l room 8 0 (lit< tt) c.duration_of-arg-7-1.given refl))))))) in
    wrote duration_spells (λ d. refl) room (made_of held c.duration_of-held.ensures) c.write_duration-written.ensures c.tell.ensures
