-- By the space that parts the two texts, and by each of them.
use mathlib.Core.Path.{sym, ◌∙◌}
use Rattle.parser.proofs.Lent.{all_lent}
use Rattle.distances.proofs.Search.{no_space, no_first, no_second, finds}
use Rattle.distances.proofs.texts_from.Goals.{else-is_text-via-then-is_text+else-is_text-2, else-is_text-via-else-is_text}
use Rattle.distances.proofs.texts_from.Goals as goal

pub returns-in_err-space : goal.returns-in_err-space
returns-in_err-space c = rw c.from_residual.ensures (no_space c.requires (sym c.place_of.ensures ∙ c.in_err-space.was))

pub returns-then-is_text-2 : goal.returns-then-is_text-2
returns-then-is_text-2 c =
    rw all_lent (finds c.requires (sym c.place_of.ensures ∙ c.in_ok-space.was) c.if-is_text.ensures (rw all_lent at c.if-is_text-2.ensures))

pub returns-else-is_text : goal.returns-else-is_text
returns-else-is_text c =
    let place = sym c.place_of.ensures ∙ c.in_ok-space.was in
    elim c.else-is_text.branch [
      | else-is_text-via-then-is_text+else-is_text-2 w ↦ no_second c.requires place (rw (w.if-is_text-2.false, all_lent) at w.is_text-then-is_text.ensures)
      | else-is_text-via-else-is_text w ↦ no_first c.requires place (rw w.if-is_text.false at c.is_text.ensures)
    ]
