-- Where no record of all bytes is read, the verdict tells.
use mathlib.Core.Path.{sym, ◌∙◌}
use Rattle.breaks.proofs.Laws.{open_unfinished}
use Rattle.breaks.proofs.standing_of.Goals as goal

pub returns-in-Open : goal.returns-in-Open
returns-in-Open c = open_unfinished _ _ c.read-read.result (rw c.by_2019.ensures at c.read-read.ensures) (sym c.is_whole.ensures ∙ c.if-is_whole.false) c.in-Open.is
