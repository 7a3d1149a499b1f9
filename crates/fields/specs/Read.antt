-- The code's answers as what `Reading` speaks of.
use Rattle.std.specs.Prelude.{ℕ, Bool, true, false}
use Rattle.std.proofs.Math.Option.{Option, some, none}
use Rattle.std.specs.declared.result.Result.{Result}
use Rattle.std.specs.declared.result.Result.TheVariants.{Ok, Err}
use Rattle.parser.specs.declared.Miss.{Miss}
use Rattle.parser.specs.declared.Miss.TheVariants as miss
use Rattle.parser.specs.declared.Exact.{Exact}

-- an optional number: it, or nothing where it is left out
abbrev pub number_read : Result (Exact ℕ) Miss → Option ℕ
number_read (Ok x) = some x.value
number_read (Err m) = none

-- an input that ends inside a field
abbrev pub cut_field : Bool → Miss
cut_field true = miss.Cut
cut_field false = miss.Wrong
