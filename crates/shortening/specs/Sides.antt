-- The sides of an interval. Leading zeros have no limit in a duration and behind `R`, fraction digits none in a date-time, on either side of the
-- `/`: so a side goes by its first byte, `P` or `R` or any other.
use Rattle.std.specs.Prelude.{ℕ, Bool, true, false, eqb}
use Rattle.parser.specs.Reading.{or}
use Rattle.kinds.specs.declared.answer.Kind.{Kind}
use Rattle.kinds.specs.declared.answer.Kind.TheVariants as kind

abbrev pub starts_zeros : ℕ → Bool
starts_zeros b = or (eqb b 80) (eqb b 82)

-- a `/` begins a side in these alone
abbrev pub has_sides : Kind → Bool
has_sides kind.Date = false
has_sides (kind.Time c) = false
has_sides kind.Offset = false
has_sides (kind.Stamp c) = false
has_sides kind.Duration = false
has_sides (kind.Interval c) = true
