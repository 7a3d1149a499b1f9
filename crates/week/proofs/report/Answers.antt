-- What is put ends within the output.
use Rattle.std.proofs.Common.{sym, length-take-le}
use Rattle.text.proofs.Laws.{puts_within}
use Rattle.week.proofs.report.Goals as goal

pub slice_bounds-out-end : goal.slice_bounds-out-end
slice_bounds-out-end g c = puts_within c.finish-n.ensures.puts

pub slice_bounds-write_all-end : goal.slice_bounds-write_all-end
slice_bounds-write_all-end g c = sym (length-take-le _ _ (puts_within c.finish-n.ensures.puts))
