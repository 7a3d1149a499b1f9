-- Both tests of `reach`, in its order.
use Rattle.std.proofs.Common.{rules}
use Rattle.parser.specs.Digits.{reach}
use Rattle.fields.proofs.cut_field.Goals as goal

pub returns-then-can_be_at_most : goal.returns-then-can_be_at_most
unfolding reach
returns-then-can_be_at_most c = search rules

pub returns-else-can_be_at_least : goal.returns-else-can_be_at_least
unfolding reach
returns-else-can_be_at_least c = search rules
