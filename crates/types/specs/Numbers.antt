-- The paper's number for each refusal.
use Rattle.std.specs.Prelude.{ℕ}
use Rattle.types.specs.declared.Refusal.{Refusal}
use Rattle.types.specs.declared.Refusal.TheVariants.{NoForm, TooBig, LeftOver}
use Rattle.std.specs.declared.option.Option.{Option}
use Rattle.std.specs.declared.option.Option.TheVariants.{None, Some}

-- 1, no form; 2, number too big; 3, bytes left over
abbrev pub number_of : Refusal → ℕ
number_of NoForm = 1
number_of TooBig = 2
number_of LeftOver = 3

-- request W9: "7, from the sum only"
abbrev pub sum_number : Option ℕ → ℕ
sum_number (Some n) = 0
sum_number None = 7
