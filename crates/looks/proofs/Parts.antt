-- What is known of the numbers that a plain form was made of.
use Prim.Native.Nat.{ℕ, ◌+◌, ◌*◌}
use mathlib.Core.Bool.{Bool}
use mathlib.Core.Path.{◌≡◌, refl}
use native.Mathlib.Omega.{arith}
use lib.IntN.{pos}
use Rattle.std.specs.declared.option.Option.{Option}
use Rattle.std.specs.declared.option.Option.TheVariants.{None, Some}
use Rattle.std.proofs.lemmas.Option.{none-some}
use Rattle.types.specs.declared.Date.{Date}
use Rattle.types.specs.declared.Date.TheVariants.{YMD}
use Rattle.types.specs.declared.Offset.{Offset}
use Rattle.looks.specs.Date.{ymd_of}
use Rattle.looks.specs.Clock.{clock_from, thousandths}
use Rattle.looks.specs.Offset.{plain_shift, shift_of}
use Rattle.looks.specs.declared.PlainClock.{PlainClock}
use Rattle.looks.specs.declared.PlainOffset.TheVariants.{Got, Other}

pub record YmdIs (c y m d : Option ℕ) (v : Date) : Type 0 where
  pub century : ℕ
  pub rest : ℕ
  pub month : ℕ
  pub day : ℕ
  pub century-is : c ≡ Some century
  pub rest-is : y ≡ Some rest
  pub month-is : m ≡ Some month
  pub day-is : d ≡ Some day
  pub value : YMD (pos (century * 100 + rest)) month day ≡ v

pub ymd_is : (c y m d : Option ℕ) (v : Date) → ymd_of c y m d ≡ Some v → YmdIs c y m d v
ymd_is (Some c) (Some y) (Some m) (Some d) v e = record { century = c; rest = y; month = m; day = d; century-is = refl; rest-is = refl; month-is = refl; day-is = refl; value = cc }
ymd_is (Some c) (Some y) (Some m) None v e = absurd (none-some v e)
ymd_is (Some c) (Some y) None d v e = absurd (none-some v e)
ymd_is (Some c) None m d v e = absurd (none-some v e)
ymd_is None y m d v e = absurd (none-some v e)

pub record ClockIs (h m x : Option ℕ) (v : PlainClock) : Type 0 where
  pub hour-is : h ≡ Some v.hour
  pub minute-is : m ≡ Some v.minute
  pub second-is : x ≡ Some v.second

pub clock_is : (h m x : Option ℕ) (v : PlainClock) → clock_from h m x ≡ Some v → ClockIs h m x v
clock_is (Some h) (Some m) (Some x) v e = record { hour-is = cc; minute-is = cc; second-is = cc }
clock_is (Some h) (Some m) None v e = absurd (none-some v e)
clock_is (Some h) None x v e = absurd (none-some v e)
clock_is None m x v e = absurd (none-some v e)

pub record ThousandthsAre (a b : Option ℕ) (v : ℕ) : Type 0 where
  pub tenths : ℕ
  pub rest : ℕ
  pub tenths-is : a ≡ Some tenths
  pub rest-is : b ≡ Some rest
  pub value : tenths * 100 + rest ≡ v

pub thousandths_are : (a b : Option ℕ) (v : ℕ) → thousandths a b ≡ Some v → ThousandthsAre a b v
thousandths_are (Some a) (Some b) v e = record { tenths = a; rest = b; tenths-is = refl; rest-is = refl; value = cc }
thousandths_are (Some a) None v e = absurd (none-some v e)
thousandths_are None b v e = absurd (none-some v e)

pub record ShiftIs (minus : Bool) (h m : Option ℕ) (next : ℕ) (v : Offset) (n : ℕ) : Type 0 where
  pub hour : ℕ
  pub minute : ℕ
  pub hour-is : h ≡ Some hour
  pub minute-is : m ≡ Some minute
  pub shift : plain_shift minus hour minute next ≡ Got v n

pub other_got : {v : Offset} {n : ℕ} → Other ≡ Got v n → ⊥
other_got e = let z : ◌≡◌ {A = ℕ} 0 1 = cc in omega arith

pub shift_is : (minus : Bool) (h m : Option ℕ) (next : ℕ) (v : Offset) (n : ℕ) → shift_of minus h m next ≡ Got v n → ShiftIs minus h m next v n
shift_is minus (Some h) (Some m) next v n e = record { hour = h; minute = m; hour-is = refl; minute-is = refl; shift = e }
shift_is minus (Some h) None next v n e = absurd (other_got e)
shift_is minus None m next v n e = absurd (other_got e)
