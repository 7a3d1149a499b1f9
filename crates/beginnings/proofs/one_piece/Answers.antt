-- One step from a start: the state stands for everything accepted.
use mathlib.Core.List.{[]}
use mathlib.Core.Path.{refl, ◌∙◌}
use Rattle.arriving.specs.Keeping.{started}
use Rattle.arriving.proofs.Stands.{start_stands}
use Rattle.beginnings.proofs.Counts.{Holds, counted, holds_step}
use Rattle.beginnings.proofs.one_piece.Goals as goal

pub returns : goal.returns
returns c =
    let a = c.args in
    let h : Holds a.kind [] (started a.kind) = record { stands = start_stands a.kind; kind = refl } in
    let all = holds_step a.kind [] a.s.now (started a.kind) h in
    c.count.ensures ∙ counted a.kind _ _ (rw (c.step.ensures.state, c.start-state.ensures) all) _ c.answer.ensures
