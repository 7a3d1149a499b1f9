-- A clock with its milliseconds and what stands behind them: the end of the input, or a plain offset. `proofs/plain/Laws.antt` shows
-- that the rule reads it so too.
use Rattle.std.specs.Prelude.{ℕ, ◌+◌, ◌*◌, List, true, false}
use Rattle.std.specs.Option.{option_or}
use Rattle.std.specs.declared.option.Option.{Option}
use Rattle.std.specs.declared.option.Option.TheVariants.{None, Some}
use Rattle.types.specs.declared.Fraction.{Fraction}
use Rattle.types.specs.declared.Offset.{Offset}
use Rattle.types.specs.declared.Time.{Time}
use Rattle.parser.specs.declared.Got.{Got}
use Rattle.looks.specs.Clock.{plain_clock, plain_millisecond}
use Rattle.looks.specs.Offset.{plain_offset}
use Rattle.looks.specs.declared.PlainClock.{PlainClock}
use Rattle.looks.specs.declared.PlainOffset.{PlainOffset}
use Rattle.looks.specs.declared.PlainOffset.TheVariants as offset
use Rattle.time.specs.Rules.{no_fraction}

abbrev pub time_with : ℕ → ℕ → ℕ → Fraction → Option Offset → Time
time_with h m x f o = record { hour = h; minute = m; second = x; nanosecond = f.nanosecond; digits = f.digits; offset = o }

abbrev pub with_offset : ℕ → ℕ → ℕ → Fraction → ℕ → PlainOffset → Option (Got Time)
with_offset h m x f at offset.End = Some (record { value = time_with h m x f None; next = at; more = true })
with_offset h m x f at (offset.Got o next) = Some (record { value = time_with h m x f (Some o); next = next; more = false })
with_offset h m x f at offset.Other = None

-- a clock with a fraction that ends at a place
abbrev pub plain_time : List ℕ → ℕ → PlainClock → Fraction → Option (Got Time)
plain_time s at c f = with_offset c.hour c.minute c.second f at (plain_offset s at)

-- so many milliseconds, written with three digits
abbrev pub with_millisecond : List ℕ → ℕ → PlainClock → Option ℕ → Option (Got Time)
with_millisecond s at c None = None
with_millisecond s at c (Some ms) = plain_time s at c (record { nanosecond = ms * 1000000; digits = 3 })

-- with milliseconds, or without
abbrev pub with_clock : List ℕ → ℕ → Option PlainClock → Option (Got Time)
with_clock s at None = None
with_clock s at (Some c) = option_or (with_millisecond s (at + 12) c (plain_millisecond s (at + 8))) (plain_time s (at + 8) c no_fraction)

-- the plain time that starts at a place
abbrev pub plain_at : List ℕ → ℕ → Option (Got Time)
plain_at s at = with_clock s at (plain_clock s at)
