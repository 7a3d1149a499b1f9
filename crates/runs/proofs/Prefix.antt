-- How many bytes a chain takes from the front of what is left: the digits of a run, or its zeros.
use Rattle.std.proofs.Common.{◌≡◌, ℕ, zero, suc, ◌+◌, ◌-◌, ◌*◌, ◌<◌, ◌≤◌, ◌≢◌, Bool, true, false, leb, eqb, List, [], ◌∷◌, length, get_or, drop, sym, refl, ◌∙◌, arith, cond, add-zero}
use Rattle.std.specs.Char.{is_ascii_digit}
use Rattle.std.specs.List.{prefix_len}
use Rattle.std.proofs.lemmas.Bool.{eqb-true, eqb-false}
use Rattle.std.proofs.lemmas.List.{get_or-drop, length-drop}
use Rattle.std.proofs.lemmas.List.Sums.{prefix_len_passes, prefix_len_stops, prefix_len-le-length}
use Rattle.parser.specs.Reading.{pick}
use Rattle.parser.specs.Digits.{is_digit, digits}
use Rattle.parser.proofs.Fields.{digit_at}
use Rattle.runs.proofs.Along.{Along, along_start, along_step}

same_test : (b : ℕ) → is_ascii_digit b ≡ is_digit b
same_test b = go (leb 48 b) refl
  where
    go : (t : Bool) → leb 48 b ≡ t → is_ascii_digit b ≡ is_digit b
    go true e = rw e
    go false e = rw e

pub prefix_digits : (l : List ℕ) → prefix_len is_ascii_digit l ≡ length (digits l)
unfolding digits
prefix_digits [] = refl
prefix_digits (b ∷ l) = rw (same_test b) (go (is_digit b) (prefix_digits l))
  where
    go : (t : Bool) → prefix_len is_ascii_digit l ≡ length (digits l) → cond t (1 + prefix_len is_ascii_digit l) 0 ≡ length (pick t (b ∷ digits l) [])
    go true e = omega arith
    go false e = refl

-- ---- zeros, which leave the number 0

abbrev pub is_zero : ℕ → Bool
is_zero b = eqb b 48

along_zeros_to : (s : List ℕ) (at k : ℕ) → k ≤ prefix_len is_zero (drop at s) → Along s at 0 (at + k)
along_zeros_to s at zero h = rw (add-zero at) (along_start s at)
along_zeros_to s at (suc k) h =
    let inside : at + k < length s = omega (arith, prefix_len-le-length is_zero (drop at s), length-drop at s) in
    let e : get_or s (at + k) 0 ≡ 48 = sym (get_or-drop at s k 0) ∙ eqb-true (get_or (drop at s) k 0) 48 (prefix_len_passes is_zero (drop at s) k 0 (omega arith)) in
    let zero : 0 * 10 + (get_or s (at + k) 0 - 48) ≡ 0 = omega arith in
    let then : at + suc k ≡ at + k + 1 = omega arith in
    rw then (rw zero at (along_step s at 0 (at + k) (along_zeros_to s at k (omega arith)) (digit_at s (at + k) inside (omega arith) (omega arith))))

pub along_zeros : (s : List ℕ) (at end : ℕ) → end ≡ at + prefix_len is_zero (drop at s) → Along s at 0 end
along_zeros s at end e = rw e (along_zeros_to s at (prefix_len is_zero (drop at s)) (omega arith))

-- what stands behind them is no zero
pub zeros_stop : (s : List ℕ) (at end : ℕ) → end ≡ at + prefix_len is_zero (drop at s) → end < length s → get_or s end 0 ≢ 48
zeros_stop s at end e h =
    let n = prefix_len is_zero (drop at s) in
    let stops = prefix_len_stops is_zero (drop at s) 0 (omega (arith, length-drop at s)) in
    rw (e, ← get_or-drop at s n 0) (eqb-false (get_or (drop at s) n 0) 48 stops)
