-- The item is made of what the run is said to be, and the byte behind a run that ends inside the input is there.
use Rattle.std.proofs.Common.{sym, ◌∙◌, arith}
use Rattle.std.proofs.lemmas.Result.{err_from_is_err_and}
use Rattle.parts.proofs.Items.{missed_item, got_item, run_inside}
use Rattle.parts.proofs.duration_item.Goals as goal

pub returns-in_err-run : goal.returns-in_err-run
returns-in_err-run c =
    let p = err_from_is_err_and c.from_residual.result c.from_residual.ensures.1 in
    rw (p.1, p.2) (sym (missed_item _ _ _ c.in_err-run.ensures))

pub returns-then-run : goal.returns-then-run
returns-then-run c = rw (got_item _ _ _ _ _ c.in_ok-run.ensures, c.if-run.true)

pub bounds-s-run : goal.bounds-s-run
bounds-s-run c = let h = c.in_ok-run.ensures in run_inside _ _ _ _ (sym h.found) (sym h.more ∙ c.if-run.false)

pub overflow_add-result : goal.overflow_add-result
overflow_add-result c =
    let h = c.in_ok-run.ensures in
    omega (arith, run_inside _ _ _ _ (sym h.found) (sym h.more ∙ c.if-run.false))

pub returns : goal.returns
returns c = rw (got_item _ _ _ _ _ c.in_ok-run.ensures, c.if-run.false)
