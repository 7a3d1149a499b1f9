-- The text of a line that names a kind is short.
use mathlib.Core.Path.{sym}
use native.Mathlib.Omega.{arith}
use lib.ListN.{length-take}
use Rattle.reply.proofs.Asked.{names_short}
use Rattle.cuts.proofs.say.Goals as goal

pub say_pieces-requires : goal.say_pieces-requires
say_pieces-requires c = rw c.head_of.ensures (simp length-take (omega (arith, names_short _ _ (sym c.in-Some.ensures))))
