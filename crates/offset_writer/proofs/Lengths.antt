-- How long an offset's spelling is: one byte or six.
use Prim.Native.Nat.{ℕ, ◌≤◌}
use mathlib.Core.List.{[], ◌∷◌, ◌++◌}
use mathlib.Core.Bool.{Bool, true, false}
use mathlib.Core.Path.{◌≡◌, refl}
use native.Mathlib.Omega.{arith}
use lib.IntN.{nat_abs}
use lib.ListN.{length}
use Rattle.types.specs.declared.Offset.{Offset}
use Rattle.parser.specs.Reading.{pick}
use Rattle.writing.specs.Spelling.{padded, sign_byte, is_minus, is_zulu, shift_spelling, offset_spelling}

pub offset_size : (o : Offset) → length (offset_spelling o) ≡ pick (is_zulu o) 1 6
unfolding offset_spelling shift_spelling padded
offset_size o = go (is_zulu o)
  where
    go : (t : Bool) → length (pick t (90 ∷ []) (sign_byte (is_minus o) ∷ (padded 2 (nat_abs o.hours) ++ 58 ∷ padded 2 (nat_abs o.minutes)))) ≡ pick t 1 6
    go true = refl
    go false = refl

pub offset_short : (o : Offset) → length (offset_spelling o) ≤ 6
offset_short o = rw (offset_size o) (go (is_zulu o))
  where
    go : (t : Bool) → ◌≤◌ (pick {A = ℕ} t 1 6) 6
    go true = omega arith
    go false = omega arith
