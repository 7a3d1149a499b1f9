-- Document 01's "Cases to prove", row by row, with request W9's in the place of the last: the reader, under document 01's choices, the bytes, and what it tells of them.
use Rattle.std.specs.Prelude.{ℕ, List, [], ◌∷◌, ℤ, pos, neg_ℤ}
use Rattle.std.proofs.Math.Option.{Option, some, none}
use Rattle.types.specs.Editions.{document01}
use Rattle.types.specs.declared.Verdict.{Verdict}
use Rattle.types.specs.declared.Verdict.TheVariants.{Settled, Open}
use Rattle.types.specs.declared.Date.TheVariants.{YMD, Week, Ordinal}
use Rattle.std.specs.declared.option.Option.TheVariants.{None}
use Rattle.types.specs.declared.Time.{Time}
use Rattle.types.specs.declared.Duration.{Duration}
use Rattle.parser.specs.Answer.{Told, recorded, refused}
use Rattle.kinds.specs.declared.answer.Kind.{Kind}
use Rattle.kinds.specs.declared.answer.Kind.TheVariants as kind
use Rattle.kinds.specs.declared.answer.Record.{Record}
use Rattle.kinds.specs.declared.answer.Record.TheVariants as record_of

pub record Row : Type 0 where
  pub kind : Kind
  pub bytes : List ℕ
  pub told : Told Record
  pub verdict : Verdict
  pub whole : Option (Told Record)
  pub minutes : Option ℤ

-- the beginning reader's answer and verdict, where the paper says nothing of the whole and of minutes in all
abbrev pub begins : Kind → List ℕ → Told Record → Verdict → Row
begins k s t v = record { kind = k; bytes = s; told = t; verdict = v; whole = none; minutes = none }

abbrev pub seconds : ℕ → Duration
seconds n = record { years = 0; months = 0; weeks = 0; days = 0; hours = 0; minutes = 0; seconds = n }

abbrev pub clock : ℕ → ℕ → ℕ → ℕ → ℕ → Time
clock h m s n d = record { hour = h; minute = m; second = s; nanosecond = n; digits = d; offset = None }

unfoldable pub table : List Row
table =
    -- (no bytes)
    begins kind.Offset ([]) (refused 1 0) Open ∷
    -- -00
    begins kind.Offset (45 ∷ 48 ∷ 48 ∷ []) (refused 1 0) Open ∷
    -- -00:30
    begins kind.Offset (45 ∷ 48 ∷ 48 ∷ 58 ∷ 51 ∷ 48 ∷ []) (recorded (record_of.Offset (record { hours = pos 0; minutes = neg_ℤ (pos 30) })) 6) Settled ∷
    -- +23:59
    record { kind = kind.Offset; bytes = 43 ∷ 50 ∷ 51 ∷ 58 ∷ 53 ∷ 57 ∷ []; told = recorded (record_of.Offset (record { hours = pos 23; minutes = pos 59 })) 6; verdict = Settled; whole = none; minutes = some (pos 1439) } ∷
    -- 2015-11-02
    begins kind.Date (50 ∷ 48 ∷ 49 ∷ 53 ∷ 45 ∷ 49 ∷ 49 ∷ 45 ∷ 48 ∷ 50 ∷ []) (recorded (record_of.Date (YMD (pos 2015) 11 2)) 10) Settled ∷
    -- 2015-1102
    record { kind = kind.Date; bytes = 50 ∷ 48 ∷ 49 ∷ 53 ∷ 45 ∷ 49 ∷ 49 ∷ 48 ∷ 50 ∷ []; told = recorded (record_of.Date (Ordinal (pos 2015) 110)) 8; verdict = Settled; whole = some (refused 3 8); minutes = none } ∷
    -- 2015-11-32
    begins kind.Date (50 ∷ 48 ∷ 49 ∷ 53 ∷ 45 ∷ 49 ∷ 49 ∷ 45 ∷ 51 ∷ 50 ∷ []) (recorded (record_of.Date (YMD (pos 2015) 11 1)) 7) Settled ∷
    -- 2015-W45
    begins kind.Date (50 ∷ 48 ∷ 49 ∷ 53 ∷ 45 ∷ 87 ∷ 52 ∷ 53 ∷ []) (recorded (record_of.Date (Week (pos 2015) 45 1)) 8) Open ∷
    -- 2015-W458
    begins kind.Date (50 ∷ 48 ∷ 49 ∷ 53 ∷ 45 ∷ 87 ∷ 52 ∷ 53 ∷ 56 ∷ []) (refused 1 0) Settled ∷
    -- 2015113
    begins kind.Date (50 ∷ 48 ∷ 49 ∷ 53 ∷ 49 ∷ 49 ∷ 51 ∷ []) (recorded (record_of.Date (Ordinal (pos 2015) 113)) 7) Open ∷
    -- 2015114
    begins kind.Date (50 ∷ 48 ∷ 49 ∷ 53 ∷ 49 ∷ 49 ∷ 52 ∷ []) (recorded (record_of.Date (Ordinal (pos 2015) 114)) 7) Settled ∷
    -- 21:56:42.1234567891
    begins (kind.Time document01) (50 ∷ 49 ∷ 58 ∷ 53 ∷ 54 ∷ 58 ∷ 52 ∷ 50 ∷ 46 ∷ 49 ∷ 50 ∷ 51 ∷ 52 ∷ 53 ∷ 54 ∷ 55 ∷ 56 ∷ 57 ∷ 49 ∷ []) (recorded (record_of.Time (clock 21 56 42 123456789 9)) 19) Open ∷
    -- 24:00
    begins (kind.Time document01) (50 ∷ 52 ∷ 58 ∷ 48 ∷ 48 ∷ []) (refused 1 0) Settled ∷
    -- 2015-11-02T21:56:4
    begins (kind.Stamp document01) (50 ∷ 48 ∷ 49 ∷ 53 ∷ 45 ∷ 49 ∷ 49 ∷ 45 ∷ 48 ∷ 50 ∷ 84 ∷ 50 ∷ 49 ∷ 58 ∷ 53 ∷ 54 ∷ 58 ∷ 52 ∷ []) (recorded (record_of.Stamp (record { date = YMD (pos 2015) 11 2; time = clock 21 56 0 0 0 })) 16) Open ∷
    -- P4294967295S
    begins kind.Duration (80 ∷ 52 ∷ 50 ∷ 57 ∷ 52 ∷ 57 ∷ 54 ∷ 55 ∷ 50 ∷ 57 ∷ 53 ∷ 83 ∷ []) (recorded (record_of.Duration (seconds 4294967295)) 12) Settled ∷
    -- request W9: "Document 01's last proved case becomes a record, count 12; `P18446744073709551616S` replaces it."
    begins kind.Duration (80 ∷ 49 ∷ 56 ∷ 52 ∷ 52 ∷ 54 ∷ 55 ∷ 52 ∷ 52 ∷ 48 ∷ 55 ∷ 51 ∷ 55 ∷ 48 ∷ 57 ∷ 53 ∷ 53 ∷ 49 ∷ 54 ∷ 49 ∷ 54 ∷ 83 ∷ []) (refused 2 0) Settled ∷
    []
