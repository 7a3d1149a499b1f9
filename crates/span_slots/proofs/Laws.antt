-- How many slots a side has, and what its record leaves of the fourteen.
use Prim.Native.Nat.{ℕ, ◌-◌, ◌≤◌}
use mathlib.Core.Path.{◌≡◌, ap, ◌∙◌}
use native.Mathlib.Omega.{arith}
use lib.IntN.{pos}
use lib.ListN.{length, length-append, drop, replicate}
use Rattle.std.proofs.lemmas.List.{drop-replicate}
use Rattle.types.specs.declared.DateTime.{DateTime}
use Rattle.slots.specs.Slots.{date_slots, time_slots, stamp_side}
use Rattle.slots.proofs.Laws.{date_length_lem, time_length_lem}

pub stamp_length : (x : DateTime) → length (stamp_side x) ≡ 14
stamp_length x = omega (arith, length-append (date_slots x.date) (time_slots x.time), date_length_lem x.date, time_length_lem x.time)

pub zeros_left : (n : ℕ) → 2 ≤ n → drop (n - 2) (replicate 12 (pos 0)) ≡ replicate (14 - n) (pos 0)
zeros_left n h = drop-replicate (n - 2) 12 (pos 0) ∙ ap (λ (k : ℕ). replicate k (pos 0)) (omega arith)
