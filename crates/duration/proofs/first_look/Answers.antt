-- An input of a byte has no room for a part.
use Rattle.std.proofs.Common.{arith}
use Rattle.duration.proofs.Looks.{no_room}
use Rattle.duration.proofs.first_look.Goals as goal

pub returns-then-s-lt2 : goal.returns-then-s-lt2
returns-then-s-lt2 c =
    let a = c.args in
    no_room a.s.now a.at (omega arith)
