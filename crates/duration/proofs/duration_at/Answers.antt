-- `P` and the parts behind it.
use Rattle.std.proofs.lemmas.Result.{err_from_is_err_and}
use Rattle.duration.proofs.Whole.{with_p, missed_p}
use Rattle.duration.proofs.duration_at.Goals as goal

pub returns-in_err-next : goal.returns-in_err-next
returns-in_err-next c =
    let p = err_from_is_err_and c.from_residual.result c.from_residual.ensures.1 in
    rw (p.1, p.2) (missed_p _ _ _ c.in_err-next.ensures)

pub returns : goal.returns
returns c = with_p _ _ _ tt _ _ c.in_ok-next.ensures c.duration_parts.ensures
