-- Seconds and nanoseconds as differences of natural numbers.
use Prim.Native.Nat.{ℕ, ◌+◌, ◌*◌, ◌-◌, ◌<◌}
use mathlib.Core.Path.{◌≡◌, sym, ap, ap₂, ◌∙◌}
use native.Mathlib.Omega.{arith}
use lib.IntN.{ℤ, pos, ◌+ℤ◌, ◌-ℤ◌, ◌*ℤ◌}
use Rattle.types.specs.Sums.{minutes_in_all}
use Rattle.types.specs.declared.Offset.{Offset}
use Rattle.types.specs.declared.Time.{Time}
use Rattle.calendar.specs.Far.{far_day}
use Rattle.calendar.proofs.Integers.{◌⊖◌, minus, same, times, add_pos}
use Rattle.calendar.proofs.Lifted.{let_down}
use Rattle.moments.specs.Moments.{seconds_in, seconds_of, in_nanoseconds}
use Rattle.moments.specs.Far.{far_second, counted}

-- the seconds of a time on a day
pub seconds_parted : (a b c d : ℕ) (t : Time) (o : Offset) → minutes_in_all o ≡ c ⊖ d → seconds_of (a ⊖ b) t o ≡ (a * 86400 + seconds_in t + d * 60) ⊖ (b * 86400 + c * 60)
seconds_parted a b c d t o e =
    ap (λ (z : ℤ). (a ⊖ b) *ℤ pos 86400 +ℤ pos (seconds_in t) -ℤ z *ℤ pos 60) e
    ∙ ap₂ (λ (x y : ℤ). x +ℤ pos (seconds_in t) -ℤ y) (times a b 86400) (times c d 60)
    ∙ ap (λ (x : ℤ). x -ℤ ((c * 60) ⊖ (d * 60))) (add_pos (a * 86400) (b * 86400) (seconds_in t))
    ∙ minus (a * 86400 + seconds_in t) (b * 86400) (c * 60) (d * 60)

-- the same in the code's numbers
pub seconds_from : (day up : ℕ) (t : Time) (o : Offset) → pos up ≡ minutes_in_all o +ℤ pos 1000000000000 → up < 2000000000000 → seconds_of (day ⊖ far_day) t o ≡ counted (day * 86400 + t.hour * 3600 + t.minute * 60 + t.second + 120000000000000 - up * 60)
seconds_from day up t o e h =
    seconds_parted day far_day up 1000000000000 t o (let_down (minutes_in_all o) 1000000000000 up (sym e))
    ∙ same (day * 86400 + seconds_in t + 60000000000000) (far_day * 86400 + up * 60) (day * 86400 + t.hour * 3600 + t.minute * 60 + t.second + 120000000000000 - up * 60) far_second (omega arith)

pub nanoseconds_from : (a b n : ℕ) → in_nanoseconds (a ⊖ b) n ≡ (a * 1000000000 + n) ⊖ (b * 1000000000)
nanoseconds_from a b n = ap (λ (z : ℤ). z +ℤ pos n) (times a b 1000000000) ∙ add_pos (a * 1000000000) (b * 1000000000) n
