-- All of our answer stands in its buffer.
use mathlib.Core.Path.{refl, sym}
use lib.Seq.{length-take-le}
use Rattle.text.proofs.Laws.{puts_within}
use Rattle.samples.proofs.Laws.{compared_in}
use Rattle.samples.proofs.put_sampled.Goals as goal

pub slice_bounds-ours-end : goal.slice_bounds-ours-end
slice_bounds-ours-end c = puts_within c.put_ours-n.ensures.puts

pub slice_bounds-put_compared-end : goal.slice_bounds-put_compared-end
slice_bounds-put_compared-end c = sym (length-take-le _ _ (puts_within c.put_ours-n.ensures.puts))

pub returns : goal.returns
returns c = compared_in c.args.line.now c.args.tab refl c.put_ours-n.ensures c.put_compared.ensures
