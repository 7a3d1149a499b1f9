-- Where nothing was read, both readers refuse, by what was missed.
use mathlib.Core.Path.{◌≡◌, refl}
use Prim.Native.Nat.{ℕ}
use Rattle.types.specs.Numbers.{number_of}
use Rattle.parser.specs.Answer.{refused, begun, ended}
use Rattle.parser.specs.Read.{missed}
use Rattle.parser.specs.Told.{refusal_of}
use Rattle.parser.specs.declared.Miss.{Miss}
use Rattle.parser.specs.declared.Miss.TheVariants as miss

pub begun_missed : {A : Type 0} (m : Miss) → refused {A = A} (number_of (refusal_of m)) 0 ≡ begun (missed m)
begun_missed (miss.Stopped why) = refl
begun_missed miss.Wrong = refl
begun_missed miss.Cut = refl

pub ended_missed : {A : Type 0} (all : ℕ) (m : Miss) → refused {A = A} (number_of (refusal_of m)) 0 ≡ ended all (missed m)
ended_missed all (miss.Stopped why) = refl
ended_missed all miss.Wrong = refl
ended_missed all miss.Cut = refl
