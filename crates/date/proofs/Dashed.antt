-- Rule 4 with month and day and no dash between them is never come to: a month and one digit more are 010 to 129, all of them ordinal
-- days, so that rule 3 has taken such bytes. Where it fails, no digit stands behind the month, and the day needs its dash.
use Prim.Native.Nat.{ℕ}
use mathlib.Core.List.{List}
use mathlib.Core.Bool.{Bool, false}
use mathlib.Core.Option.{Option, some, none}
use mathlib.Core.Path.{◌≡◌, refl, sym}
use native.Mathlib.Omega.{arith}
use lib.IntN.{ℤ}
use Rattle.types.specs.declared.Date.{Date}
use Rattle.parser.specs.Reading.{Found, no, got, stop, Reader, seq, opt, lack, alt, map, map_found, or, Says}
use Rattle.parser.specs.Digits.{digit}
use Rattle.parser.specs.Fields.{month}
use Rattle.parser.specs.Read.{or_value}
use Rattle.parser.proofs.Places.{map_no}
use Rattle.parser.proofs.Alike.{same_says, alt_same, AlikeAt, Alike, alike_refl, seq_alike, map_alike, opt_alike}
use Rattle.parser.proofs.General.{preceded_alike, field_behind}
use Rattle.parser.proofs.Stops.{lit_stops, field_stops, map_stops, opt_stops, seq_stops}
use Rattle.parser.proofs.Unstopped.{Unstopped}
use Rattle.parser.proofs.Says.{says_map, says_opt, says_alt_no}
use Rattle.date.specs.Rules.{year, dash, ywd, ymd_numeric, ordinal, yddd, or_first, day_of_month, month_and_day, date}
use Rattle.date.specs.Answer.{dashed_day, dashed_day_of_month, month_and_dashed_day}

-- ---- the date's rule, with rule 4 as "year, `-`, month, then optionally {`-`, day}"

abbrev pub md_dashed : ℤ → Reader Date
md_dashed y = seq dash (λ _. month_and_dashed_day y)

abbrev pub date_dashed : Reader Date
date_dashed = alt ywd (alt ymd_numeric (alt yddd (seq year md_dashed)))

-- ---- the law

day_alike : (s : List ℕ) (at : ℕ) → digit s at ≡ false → AlikeAt day_of_month dashed_day_of_month s at
unfolding day_of_month dashed_day_of_month
day_alike s at h = map_alike _ s at or_first _ (opt_alike _ s at _ (preceded_alike 45 2 1 31 (omega arith) s at h))

-- where no ordinal day stands
pub month_alike : (y : ℤ) (s : List ℕ) (at : ℕ) → (ordinal y).reads s at ≡ no → AlikeAt (month_and_day y) (month_and_dashed_day y) s at
unfolding ordinal map month_and_day month_and_dashed_day
month_alike y s at h = seq_alike month s at _ _ (λ m n e. map_alike _ s n _ _ (day_alike s n (field_behind 2 1 12 1 366 s at m n (omega arith) (omega arith) e (map_no _ _ h))))

-- for every input and every place: both read the same and are open at the same inputs
pub date_dashed_lem : Alike date date_dashed
unfolding date seq opt
date_dashed_lem s at =
    alt_same (alike_refl ywd s at) (λ _. alt_same (alike_refl ymd_numeric s at) (λ _. alt_same (alike_refl yddd s at) (λ none.
    seq_alike year s at _ _ (λ y n e. seq_alike dash s n _ _ (λ _ m d. month_alike y s m (rw (e, d) at none))))))

-- ---- none of it stops the reading

pub ordinal_unstopped : (y : ℤ) → Unstopped (ordinal y)
unfolding ordinal
ordinal_unstopped y = map_stops _ (field_stops 3 1 366)

pub month_unstopped : (y : ℤ) → Unstopped (month_and_dashed_day y)
unfolding month_and_dashed_day dashed_day_of_month
month_unstopped y = seq_stops (field_stops 2 1 12) (λ m. map_stops _ (map_stops _ (opt_stops (seq_stops (lit_stops 45) (λ _. field_stops 2 1 31)))))

-- ---- what the code says by it

-- "No day means day 1", as the code has it
first_day : (f : Found (Option ℕ)) → map_found or_first f ≡ map_found (or_value 1) f
first_day no = refl
first_day (stop r) = refl
first_day (got none n) = refl
first_day (got (some d) n) = refl

pub says_first : (p : Reader (Option ℕ)) (s : List ℕ) (at : ℕ) (f : Found (Option ℕ)) (m : Bool) (g : Found ℕ) (l : Bool) → Says p s at f m → g ≡ map_found (or_value 1) f → l ≡ m → Says (map or_first p) s at g l
says_first p s at f m g l h e k = rw (e, k, ← first_day f) (says_map p s at or_first f m h)

pub of_day : (s : List ℕ) (at : ℕ) (f : Found ℕ) (m : Bool) → Says dashed_day s at f m → Says dashed_day_of_month s at (map_found or_first (lack at f)) m
unfolding dashed_day_of_month
of_day s at f m h = says_map (opt dashed_day) s at or_first _ m (says_opt dashed_day s at f m h)

-- alternative 4 where 3 has found nothing
pub says_month : (y : ℤ) (s : List ℕ) (at : ℕ) (t : Bool) (f : Found Date) (m : Bool) → Says (ordinal y) s at no t → Says (month_and_dashed_day y) s at f m → Says (alt (ordinal y) (month_and_day y)) s at f (or t m)
says_month y s at t f m h k = says_alt_no (ordinal y) s at (month_and_day y) t f m h (same_says (month_alike y s at (sym h.found)) k)
