-- What code says of what may stand behind an hour, by what it says of minutes: in the standard reading a fraction is looked for where no
-- minute stands, and where one is still open none does.
use Prim.Native.Nat.{ℕ}
use mathlib.Core.List.{List}
use mathlib.Core.Bool.{Bool, true, false}
use mathlib.Core.Option.{some}
use mathlib.Core.Path.{◌≡◌, refl, sym}
use Rattle.std.specs.declared.result.Result.{Result}
use Rattle.std.specs.declared.result.Result.TheVariants.{Ok, Err}
use Rattle.types.specs.declared.Reading.{Reading}
use Rattle.types.specs.declared.Reading.TheVariants.{Old, Standard}
use Rattle.parser.specs.Reading.{Found, no, failed, Says}
use Rattle.parser.specs.Read.{got_found, got_more}
use Rattle.parser.specs.declared.Got.{Got}
use Rattle.parser.specs.declared.Miss.{Miss}
use Rattle.parser.specs.declared.Miss.TheVariants as miss
use Rattle.parser.proofs.Says.{says_alt_no, says_alt_first}
use Rattle.time.specs.declared.Clock.{Clock}
use Rattle.time.specs.declared.TimeUnit.TheVariants.{Hour, Second}
use Rattle.time.specs.Rules.{unit_of, time_fraction, minute_second_millisecond, behind_hour}
use Rattle.time.proofs.Unmarked.{no_fraction, minute_no_mark}

-- after a second nothing differs from the old reading
pub of_second : (r : Reading) (se : ℕ) → unit_of r (some se) ≡ Second
of_second Old se = refl
of_second Standard se = refl

module _ (z : Bool) (s : List ℕ) (at : ℕ) where
  -- whatever is no failure is kept
  pub behind_first : (r : Reading) (f : Found Clock) (m : Bool) → failed f ≡ false → Says (minute_second_millisecond r z) s at f m → Says (behind_hour r z) s at f m
  unfolding behind_hour
  behind_first Old f m e h = h
  behind_first Standard f m e h = says_alt_first (minute_second_millisecond Standard z) s at (time_fraction Hour z 0 0) f m e h

  -- and so is whatever is still open
  pub behind_kept : (r : Reading) (x : Result (Got Clock) Miss) → (r ≡ Standard → x ≡ Err miss.Wrong → ⊥) → Says (minute_second_millisecond r z) s at (got_found x) (got_more x) → Says (behind_hour r z) s at (got_found x) (got_more x)
  unfolding behind_hour
  behind_kept Old x n h = h
  behind_kept Standard (Ok g) n h = says_alt_first (minute_second_millisecond Standard z) s at (time_fraction Hour z 0 0) _ _ refl h
  behind_kept Standard (Err (miss.Stopped why)) n h = says_alt_first (minute_second_millisecond Standard z) s at (time_fraction Hour z 0 0) _ _ refl h
  behind_kept Standard (Err miss.Wrong) n h = absurd (n refl refl)
  behind_kept Standard (Err miss.Cut) n h =
      let none = no_fraction Hour z 0 0 s at (minute_no_mark Standard z s at (sym h.more) (sym h.found)) in
      says_alt_no (minute_second_millisecond Standard z) s at (time_fraction Hour z 0 0) true no _ h (record { found = sym none; more = refl })

  pub behind_fraction : (r : Reading) (x : Result (Got Clock) Miss) (f : Found Clock) (m : Bool) → r ≡ Standard → x ≡ Err miss.Wrong → Says (minute_second_millisecond r z) s at (got_found x) (got_more x) → Says (time_fraction Hour z 0 0) s at f m → Says (behind_hour r z) s at f m
  unfolding behind_hour
  behind_fraction r x f m e d h k = rw e (says_alt_no (minute_second_millisecond Standard z) s at (time_fraction Hour z 0 0) false f m (rw (e, d) at h) k)
