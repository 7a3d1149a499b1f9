-- What is lent of a list from a place on is all that lies there, and nothing lies behind it.
use Prim.Native.Nat.{ℕ, ◌-◌}
use mathlib.Core.List.{List, []}
use mathlib.Core.Path.{◌≡◌}
use native.Mathlib.Omega.{arith}
use lib.ListN.{length, take, drop, length-drop, drop_of_length-le}
use lib.Seq.{take_all}

module _ {A : Type 0} (a : ℕ) (l : List A) where
  pub all_lent : take (length l - a) (drop a l) ≡ drop a l
  all_lent = take_all (length l - a) (drop a l) (omega (arith, length-drop a l))

  pub none_behind : drop (length l - a) (drop a l) ≡ []
  none_behind = drop_of_length-le (drop a l) {i = length l - a} (omega (arith, length-drop a l))
