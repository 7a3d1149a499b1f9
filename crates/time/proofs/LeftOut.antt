-- What stands for a clock that is left out, as code has it and as the rule does.
use Prim.Native.Nat.{ℕ}
use mathlib.Core.Option.{Option, some, none}
use mathlib.Core.Path.{◌≡◌, refl}
use Rattle.parser.specs.Read.{or_value}
use Rattle.time.specs.declared.Clock.{Clock}
use Rattle.time.specs.Rules.{whole_clock, or_whole}

pub or_whole_lem : (mi se : ℕ) (o : Option Clock) → or_whole mi se o ≡ or_value (whole_clock mi se) o
or_whole_lem mi se none = refl
or_whole_lem mi se (some k) = refl
