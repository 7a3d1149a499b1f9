-- Document 01's rule of offsets.
use Rattle.std.specs.Prelude.{ℕ, Bool, not, eqb}
use Rattle.types.specs.declared.Offset.{Offset}
use Rattle.types.specs.Sums.{signed_offset, zero_offset}
use Rattle.parser.specs.Reading.{Reader, and, lit, seq, opt, alt, verify, map}
use Rattle.parser.specs.Fields.{hour, minute, signed, preceded_by, or_zero}

-- "Minus with hour 0 and minute 0 or absent is refused."
abbrev pub allowed : Bool → ℕ → ℕ → Bool
allowed minus h m = not (and minus (and (eqb h 0) (eqb m 0)))

-- "then optionally an optional colon with minute 00 to 59"; "hours and minutes carry the same sign, or are zero"
unfoldable pub offset_minute : Bool → ℕ → Reader Offset
offset_minute minus h = map (λ m. signed_offset minus h (or_zero m)) (verify (λ m. allowed minus h (or_zero m)) (opt (preceded_by 58 minute)))

-- "A sign `+` or `-`, hour 00 to 23"
unfoldable pub offset_hour : Reader Offset
offset_hour = seq signed (λ minus. seq hour (offset_minute minus))

-- "or `Z`"
unfoldable pub offset_zulu : Reader Offset
offset_zulu = map (λ _. zero_offset) (lit 90)

unfoldable pub offset : Reader Offset
offset = alt offset_hour offset_zulu
