-- What is counted is exact: the minute, the second and the nanosecond make up what was counted, the second below 60 and the nanosecond
-- below ten to the ninth.
use Prim.Native.Nat.{ℕ, ◌+◌, ◌*◌, ◌≤◌}
use mathlib.Core.Path.{◌≡◌}
use native.Mathlib.Omega.{arith}
use Rattle.time.specs.declared.Clock.{Clock}
use Rattle.time.specs.Rules.{sum_of}

pub record Exact (mi n : ℕ) (c : Clock) : Type 0 where
  pub sum : 60000000000 * c.minute + (1000000000 * c.second + c.fraction.nanosecond) ≡ 60000000000 * mi + n
  pub second : c.second ≤ 59
  pub nanosecond : c.fraction.nanosecond ≤ 999999999

-- so many nanoseconds past a minute
pub sum_exact : (mi n : ℕ) → Exact mi n (sum_of mi n)
unfolding sum_of
sum_exact mi n = record { sum = omega arith; second = omega arith; nanosecond = omega arith }
