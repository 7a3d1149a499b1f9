-- A short buffer stays as it was; with room, the text is put at the front.
use mathlib.Core.Path.{sym, ◌∙◌}
use native.Mathlib.Omega.{arith}
use borrow.Author.Rules.{rules}
use Rattle.writing.proofs.Laws.{refused_writes, put_writes}
use Rattle.duration_writer.proofs.Laws.{duration_measures}
use Rattle.duration_writer.proofs.write_duration.Goals as goal

pub returns-in_err-count : goal.returns-in_err-count
returns-in_err-count c =
    let measures = duration_measures c.args.d (search rules) c.duration_length.ensures in
    grind (arith, refused_writes)

pub returns : goal.returns
returns c = put_writes _ (duration_measures c.args.d (search rules) c.duration_length.ensures) (sym c.room_for.ensures ∙ c.in_ok-count.was) c.put_duration.ensures
