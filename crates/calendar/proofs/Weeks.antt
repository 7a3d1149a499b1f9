-- The days of the week, seven by seven.
use Prim.Native.Nat.{ℕ, zero, suc, ◌+◌, ◌*◌, ◌%◌, ◌<◌}
use mathlib.Core.Path.{◌≡◌, refl, sym, ap, ◌∙◌}
use native.Mathlib.Omega.{arith}
use native.Mathlib.Nat.{mod-lt, mod-eq_of_lt, mod-add-mod, add-mod_right, add-mul-mod_self_left, add-zero}
use lib.IntN.{ℤ, pos, negsuc, suc_ℤ, ◌+ℤ◌, +ℤ-suc_ℤ, +ℤ_idr, -ℤ-+ℤ_cancel}
use Rattle.calendar.specs.Calendar.{weekday}
use Rattle.calendar.proofs.Integers.{◌⊖◌, plus, same, of_pos}

pub weekday_below : (z : ℤ) → weekday z < 7
unfolding weekday
weekday_below (pos zero) = omega arith
weekday_below (pos (suc n)) = mod-lt (weekday (pos n) + 1) (omega arith)
weekday_below (negsuc zero) = omega arith
weekday_below (negsuc (suc n)) = mod-lt (weekday (negsuc n) + 6) (omega arith)

weekday_next : (z : ℤ) → weekday (suc_ℤ z) ≡ (weekday z + 1) % 7
unfolding weekday
weekday_next (pos n) = refl
weekday_next (negsuc zero) = refl
weekday_next (negsuc (suc n)) =
    let w = weekday (negsuc n) in
    let e : w + 6 + 1 ≡ w + 7 = omega arith in
    sym (mod-add-mod (w + 6) 7 1 ∙ ap (λ (x : ℕ). x % 7) e ∙ add-mod_right w 7 ∙ mod-eq_of_lt (weekday_below (negsuc n)))

pub weekday_later : (z : ℤ) (m : ℕ) → weekday (z +ℤ pos m) ≡ (weekday z + m) % 7
weekday_later z zero = ap weekday (+ℤ_idr z) ∙ sym (ap (λ (x : ℕ). x % 7) (add-zero (weekday z)) ∙ mod-eq_of_lt (weekday_below z))
weekday_later z (suc m) =
    let e : weekday z + m + 1 ≡ weekday z + suc m = omega arith in
    ap weekday (+ℤ-suc_ℤ z (pos m)) ∙ weekday_next (z +ℤ pos m) ∙ ap (λ (x : ℕ). (x + 1) % 7) (weekday_later z m) ∙ mod-add-mod (weekday z + m) 7 1 ∙ ap (λ (x : ℕ). x % 7) e

-- whole weeks before 1 January of year 0 is a Saturday too
weeks_back : (t : ℕ) → weekday (0 ⊖ (7 * t)) ≡ 5
unfolding weekday
weeks_back t =
    let z = 0 ⊖ (7 * t) in
    let again : weekday (z +ℤ pos (7 * t)) ≡ 5 = ap weekday (-ℤ-+ℤ_cancel (pos 0) (pos (7 * t))) in
    sym (mod-eq_of_lt (weekday_below z)) ∙ sym (add-mul-mod_self_left (weekday z) 7 t) ∙ sym (weekday_later z (7 * t)) ∙ again

pub weekday_shifted : (t n : ℕ) → weekday (n ⊖ (7 * t)) ≡ (n + 5) % 7
weekday_shifted t n =
    let apart : n ⊖ (7 * t) ≡ (0 ⊖ (7 * t)) +ℤ pos n = same n (7 * t) (0 + n) (7 * t + 0) (omega arith) ∙ sym (plus 0 (7 * t) n 0) ∙ ap (λ (x : ℤ). (0 ⊖ (7 * t)) +ℤ x) (sym (of_pos n)) in
    let turned : weekday (0 ⊖ (7 * t)) + n ≡ n + 5 = omega (arith, weeks_back t) in
    ap weekday apart ∙ weekday_later (0 ⊖ (7 * t)) n ∙ ap (λ (x : ℕ). x % 7) turned
