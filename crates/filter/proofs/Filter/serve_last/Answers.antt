-- What is put ends within the output.
use Rattle.std.proofs.Common.{arith}
use Rattle.text.proofs.Laws.{puts_within}
use Rattle.filter.proofs.Filter.serve_last.Goals as goal

pub shared_ref_as_front-write : goal.shared_ref_as_front-write
shared_ref_as_front-write g c = omega (arith, puts_within c.finish-n.ensures.puts, c.finish-n.auto.out)
