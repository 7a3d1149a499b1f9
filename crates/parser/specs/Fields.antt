-- The fields by their names in the paper, and the sign.
use Rattle.std.specs.Prelude.{ℕ, Bool, true, false}
use Rattle.std.proofs.Math.Option.{Option, some, none}
use Rattle.parser.specs.Reading.{Reader, lit, seq, opt, alt, map}
use Rattle.parser.specs.Digits.{field}

abbrev pub month : Reader ℕ
month = field 2 1 12

abbrev pub day : Reader ℕ
day = field 2 1 31

abbrev pub hour : Reader ℕ
hour = field 2 0 23

abbrev pub minute : Reader ℕ
minute = field 2 0 59

abbrev pub second : Reader ℕ
second = field 2 0 60

-- `-` or `+`: true for minus
abbrev pub signed : Reader Bool
signed = alt (map (λ _. true) (lit 45)) (map (λ _. false) (lit 43))

-- either of two bytes
abbrev pub either : ℕ → ℕ → Reader Unit
either c d = alt (lit c) (lit d)

-- a reader with an optional byte c in front
abbrev pub preceded_by : {A : Type 0} → ℕ → Reader A → Reader A
preceded_by c p = seq (opt (lit c)) (λ _. p)

-- "Absent fields are 0."
abbrev pub or_zero : Option ℕ → ℕ
or_zero none = 0
or_zero (some n) = n
