-- A date-time that something must follow. Behind hour 24 a minute or second that is not 0 makes the date-time no form; and where one is left
-- unread, no `/` can follow. So 00 alone is read as one here, and nothing is open that could only become no form. `proofs/Beside.antt` holds it
-- beside the rule of date-times.
use Rattle.std.specs.Prelude.{ℕ, ◌+◌, List, Bool, true, false, get_or, eqb}
use Rattle.types.specs.declared.Choices.{Choices}
use Rattle.types.specs.declared.DateTime.{DateTime}
use Rattle.types.specs.declared.Offset.{Offset}
use Rattle.types.specs.declared.Reading.{Reading}
use Rattle.types.specs.declared.Reading.TheVariants.{Old, Standard}
use Rattle.types.specs.declared.Time.{Time}
use Rattle.std.specs.declared.option.Option.{Option}
use Rattle.std.specs.declared.option.Option.TheVariants.{None, Some}
use Rattle.parser.specs.Reading.{Reader, lit, seq, opt, alt, map, pick, and, within}
use Rattle.parser.specs.Digits.{field}
use Rattle.parser.specs.Fields.{preceded_by, or_zero}
use Rattle.time.specs.declared.Clock.{Clock}
use Rattle.time.specs.declared.TimeUnit.TheVariants.{Hour}
use Rattle.time.specs.Rules.{hour_of, ends_day, or_whole, unit_of, time_fraction, millisecond, time_offset, after_hour}
use Rattle.date.specs.Rules.{date}
use Rattle.datetime.specs.Rules.{stamp}

-- a minute or second of two zeros, and an optional colon in front
abbrev pub zeros : Reader ℕ
zeros = preceded_by 58 (field 2 0 0)

unfoldable pub zero_minute : Reading → Reader Clock
zero_minute r = seq zeros (λ mi. seq (opt zeros) (λ se. millisecond (unit_of r se) true mi (or_zero se)))

unfoldable pub zero_behind : Reading → Reader Clock
zero_behind Old = zero_minute Old
zero_behind Standard = alt (zero_minute Standard) (time_fraction Hour true 0 0)

unfoldable pub zero_tail : Reading → ℕ → Reader Time
zero_tail r h = seq (opt (zero_behind r)) (λ c. time_offset h (or_whole 0 0 c))

unfoldable pub tail_of : Reading → Bool → ℕ → Reader Time
tail_of r false h = after_hour r false h
tail_of r true h = zero_tail r h

unfoldable pub followed_time : Choices → Reader Time
followed_time c = seq (hour_of c.edition) (λ h. tail_of c.reading (ends_day c.edition h) h)

unfoldable pub followed : Choices → Reader DateTime
followed c = seq date (λ d. seq (lit 84) (λ _. map (stamp d) (followed_time c)))

-- what stands behind an hour that ends the day: a digit that is not 0, or a colon and such a digit
abbrev pub not_zero : List ℕ → ℕ → Bool
not_zero s n = within 49 57 (get_or s n 0)

abbrev pub held_at : List ℕ → ℕ → Bool
held_at s n = pick (eqb (get_or s n 0) 58) (not_zero s (n + 1)) (not_zero s n)

-- a time of that hour, with no offset, that ends where these stand: nothing can follow it. Behind an offset they may be its minutes.
abbrev pub is_absent : Option Offset → Bool
is_absent None = true
is_absent (Some o) = false

abbrev pub held_time : List ℕ → Time → ℕ → Bool
held_time s t n = and (eqb t.hour 24) (and (is_absent t.offset) (held_at s n))

abbrev pub held_by : List ℕ → DateTime → ℕ → Bool
held_by s d n = held_time s d.time n
