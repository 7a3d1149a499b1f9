-- By the second byte, where it tells enough.
use Rattle.std.proofs.Common.{arith}
use Rattle.duration.proofs.Looks.{no_room}
use Rattle.duration.proofs.look_at.Goals as goal

pub returns-then-s-at : goal.returns-then-s-at
returns-then-s-at c =
    let a = c.args in
    no_room a.s.now a.at (omega arith)
