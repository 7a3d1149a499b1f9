-- A sign decides for the first alternative, so that an hour that is cut short leaves no `Z` to try.
use mathlib.Core.Bool.{false}
use Rattle.std.proofs.Common.{rules}
use Rattle.std.specs.declared.result.Result.TheVariants.{Err}
use Rattle.parser.proofs.Says.{says_alt_no}
use Rattle.offset.specs.Rules.{offset, offset_hour, offset_zulu}
use Rattle.offset.proofs.Laws.{hour_kept}
use Rattle.offset.proofs.offset_at.Goals as goal

pub returns-in-Err-Wrong : goal.returns-in-Err-Wrong
unfolding offset
returns-in-Err-Wrong c =
    let a = c.args in
    says_alt_no offset_hour a.s.now a.at offset_zulu false _ _ (rw c.in-Err-Wrong.field-0-is at c.in-Err-Wrong.ensures) c.offset_zulu.ensures

pub returns-in_default : goal.returns-in_default
returns-in_default c = hour_kept c.args.s.now c.args.at (Err _) (search rules) c.in_default.ensures

pub returns-in_default-2 : goal.returns-in_default-2
returns-in_default-2 c = hour_kept c.args.s.now c.args.at c.offset_hour.result (search rules) c.offset_hour.ensures
