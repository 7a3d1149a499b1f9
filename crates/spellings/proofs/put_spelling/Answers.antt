-- The buffer has room for the longest spelling, so that the record is written, and its text is put.
use mathlib.Core.Path.{◌≡◌, ◌∙◌}
use lib.ListN.{length, take, drop}
use lib.Seq.{take-append_seam}
use Rattle.writers.specs.Spellings.{spelling}
use Rattle.writers.proofs.Laws.{spelling_short}
use Rattle.spellings.proofs.put_spelling.Goals as goal

pub returns : goal.returns
returns c =
    let t = spelling c.args.value in
    let leaves = c.write.ensures.fits c.requires (spelling_short c.args.choices c.args.value c.requires) in
    let count : c.count-count.result ≡ length t = c.count-count.ensures ∙ leaves.count in
    let front : take c.count-count.result c.write.new.buffer ≡ t = rw (count, leaves.buffer) (take-append_seam t (drop (length t) _)) in
    rw front at c.put.ensures
