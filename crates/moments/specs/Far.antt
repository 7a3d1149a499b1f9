-- How the code counts seconds, in natural numbers alone: from a second far back.
use Rattle.std.specs.Prelude.{ℕ, ◌<◌, ◌≡◌, ℤ, pos, ◌-ℤ◌, Result}
use Rattle.std.specs.declared.result.Result.TheVariants.{Ok, Err}
use Rattle.moments.specs.declared.Instant.{Instant}
use Rattle.moments.specs.declared.Fault.{Fault}
use Rattle.moments.specs.declared.Fault.TheVariants.{Text, NoDay, NoOffset}
use Rattle.moments.specs.Moments.{Moment, no_day, no_offset, at}

-- calendar's first day, and before it a thousand billion minutes, more than any offset has
abbrev pub far_second : ℕ
far_second = 67828049508768000

abbrev pub counted : ℕ → ℤ
counted s = pos s -ℤ pos far_second

-- no number is too large for a difference
abbrev pub Near : Instant → Type 0
Near i = i.seconds < 150000000000000000

-- all that is promised of the instant that is told: it is the moment, or says why there is none
abbrev pub InstantOf : Moment → Result Instant Fault → Type 0
InstantOf m (Ok i) = (m ≡ at (counted i.seconds) i.nanosecond) × Near i
InstantOf m (Err NoDay) = m ≡ no_day
InstantOf m (Err NoOffset) = m ≡ no_offset
InstantOf m (Err (Text why)) = ⊥
