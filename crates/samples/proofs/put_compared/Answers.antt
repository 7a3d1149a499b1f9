-- Where they differ, our answer is told.
use mathlib.Core.List.{◌++◌}
use mathlib.Core.Logic.{inr}
use mathlib.Core.Path.{refl, sym, ◌∙◌}
use Rattle.std.proofs.lemmas.Slice.Eq.{slice_eq-Decides}
use Rattle.std.proofs.lemmas.Bool.{false≢true}
use Rattle.std.proofs.lemmas.Bool.Decides.{Decides-eqb}
use Rattle.text.proofs.Laws.{then_puts}
use Rattle.samples.specs.Samples.{differs}
use Rattle.samples.proofs.put_compared.Goals as goal

pub returns : goal.returns
returns c =
    let same = slice_eq-Decides Decides-eqb c.args.ours.now c.args.theirs.now c.eq.result c.eq.ensures in
    record { text = differs ++ c.args.ours.now; answer = inr (λ e. false≢true (sym c.if-eq.false ∙ same.1 e), refl); puts = then_puts c.put-next.ensures c.put-2.ensures }
