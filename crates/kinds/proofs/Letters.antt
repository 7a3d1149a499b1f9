-- What is named where intervals have no letter is named, and is one of the five kinds.
use Prim.Native.Nat.{ℕ}
use mathlib.Core.Path.{◌≡◌}
use native.Mathlib.Omega.{arith}
use Rattle.kinds.specs.declared.answer.Kind.{Kind}
use Rattle.kinds.specs.declared.answer.Kind.TheVariants as kind
use Rattle.std.specs.declared.option.Option.{Option}
use Rattle.std.specs.declared.option.Option.TheVariants.{None, Some}
use Rattle.kinds.specs.Kinds.{among_five}
use Rattle.kinds.specs.Far.{OfFive}

pub among_named : (q : Option Kind) (k : Kind) → among_five q ≡ Some k → q ≡ Some k
among_named (Some kind.Date) k e = e
among_named (Some (kind.Time c)) k e = e
among_named (Some kind.Offset) k e = e
among_named (Some (kind.Stamp c)) k e = e
among_named (Some kind.Duration) k e = e
among_named (Some (kind.Interval c)) k e = let z : ◌≡◌ {A = ℕ} 0 1 = cc in absurd (omega arith)
among_named None k e = e

abbrev pub FiveOr : Option Kind → Type 0
FiveOr (Some k) = OfFive k
FiveOr None = Unit

pub among_five_lem : (q : Option Kind) → FiveOr (among_five q)
among_five_lem (Some kind.Date) = tt
among_five_lem (Some (kind.Time c)) = tt
among_five_lem (Some kind.Offset) = tt
among_five_lem (Some (kind.Stamp c)) = tt
among_five_lem (Some kind.Duration) = tt
among_five_lem (Some (kind.Interval c)) = tt
among_five_lem None = tt
