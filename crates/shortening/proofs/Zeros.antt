-- A digit run without its leading zeros is the same number, and has at most as many digits as the greatest number that it may have.
use Prim.Native.Nat.{ℕ, zero, suc, ◌+◌, ◌*◌, ◌-◌, ◌<◌, ◌≤◌}
use mathlib.Core.List.{List, [], ◌∷◌, ◌++◌}
use mathlib.Core.Bool.{Bool, true, false}
use mathlib.Core.Logic.{inl, inr}
use mathlib.Core.Path.{◌≡◌, refl, sym}
use native.Mathlib.Omega.{arith}
use lib.ListN.{length, get_or, drop, length-append, length-drop}
use lib.Seq.{drop-append-le, drop-append_seam, get_or-drop}
use lib.Dec.{ltb, leb}
use borrow.Author.Tests.{ltb-true, ltb-false, leb-true, leb-false, not-true}
use Rattle.parser.specs.Reading.{got, stop, Reader, lit, map, pick, and}
use Rattle.parser.specs.Digits.{is_digit, digits, number, number_from, lowest, run_at, at_the_end, at_most, limit, run_as, run}
use Rattle.parser.proofs.Fields.{true≢false, and_first}
use Rattle.parser.proofs.Runs.{digits_inside, number_grows}
use Rattle.parser.proofs.Places.{run_bounded, run_found_lem, run_foreign}
use Rattle.duration.specs.Rules.{part}
use Rattle.shortening.proofs.Cuts.{behind, Carried, SameAt, Simulates, seq_simulates, map_simulates}
use Rattle.shortening.proofs.Local.{run_local, lit_local, seq_local, map_local}
use Rattle.shortening.proofs.Spans.{SpansAt, seq_spans, map_spans}
use Rattle.shortening.proofs.Families.{Family, zeros, fractions, ZeroCut, own, CutOf, cut, apart, fresh, Reaches, reaches_run, Proper}
use Rattle.shortening.proofs.Trims.{Trims, simulates_by, read_before, foreign_simulates, lit_spans, lit_trims}
use Rattle.shortening.proofs.Fields.{apart_no_digit}

-- ---- the same number

-- bytes that end in no digit are not all digits
ends_other : (l : List ℕ) (k : ℕ) → length l ≡ suc k → is_digit (get_or l k 0) ≡ false → length (digits l) < length l
unfolding digits
ends_other [] k e h = absurd (omega arith)
ends_other (b ∷ []) zero e h = rw h (omega arith)
ends_other (b ∷ []) (suc k) e h = absurd (omega arith)
ends_other (b ∷ c ∷ l) zero e h = absurd (omega arith)
ends_other (b ∷ c ∷ l) (suc k) e h = go (is_digit b) (ends_other (c ∷ l) k (omega arith) h)
  where
    go : (t : Bool) → length (digits (c ∷ l)) < length (c ∷ l) → length (pick t (b ∷ digits (c ∷ l)) []) < suc (length (c ∷ l))
    go true ih = omega arith
    go false ih = omega arith

-- so a run that begins before the cut ends there
run_before : (u : List ℕ) → fresh u (length u) ≡ true → (n : ℕ) → n < length u → (y : List ℕ) → run_at (u ++ y) n ≡ run_at u n
run_before u h n lt y = go (length u) refl h
  where
    go : (k : ℕ) → length u ≡ k → fresh u k ≡ true → run_at (u ++ y) n ≡ run_at u n
    go zero e h = absurd (omega arith)
    go (suc k) e h =
        let place : n + (k - n) ≡ k = omega arith in
        let last : is_digit (get_or (drop n u) (k - n) 0) ≡ false = rw (get_or-drop n u (k - n) 0, place) (not-true (is_digit (get_or u k 0)) h) in
        rw (drop-append-le n u y (omega arith)) (digits_inside (drop n u) y (ends_other (drop n u) (k - n) (omega (arith, length-drop n u)) last))

-- a run of numbers up to a greatest one
abbrev run_to : ℕ → Reader ℕ
run_to m = run_as number (at_most m) 2

run_reads_before : (m : ℕ) (u : List ℕ) → fresh u (length u) ≡ true → (n : ℕ) → n < length u → (y : List ℕ) → (run_to m).reads (u ++ y) n ≡ (run_to m).reads u n
unfolding run_as
run_reads_before m u h n lt y = rw (run_before u h n lt y)

-- at the cut a zero more makes the same number
module _ (m : ℕ) (z : ZeroCut) where
  run_at_cut : SameAt (own zeros z) (length z.before) (length z.before) (run_to m)
  unfolding run_as digits number_from
  run_at_cut = rw (drop-append_seam z.before (48 ∷ z.digit ∷ z.rest), drop-append_seam z.before (z.digit ∷ z.rest), z.is) (go (leb (number (z.digit ∷ digits z.rest)) m))
    where
      go : (t : Bool) → Carried (own zeros z) (pick t (got (number (z.digit ∷ digits z.rest)) (length z.before + length (48 ∷ z.digit ∷ digits z.rest))) (stop 2)) (pick t (got (number (z.digit ∷ digits z.rest)) (length z.before + length (z.digit ∷ digits z.rest))) (stop 2))
      go true = record {
        place = length z.before + length (48 ∷ z.digit ∷ digits z.rest);
        found = refl;
        same = behind (length (digits z.rest)) (omega (arith, length-append z.before (48 ∷ z.digit ∷ []))) (omega (arith, length-append z.before (z.digit ∷ [])));
      }
      go false = refl

  run_own : Simulates (own zeros z) (run_to m)
  run_own = simulates_by (own zeros z) (run_to m) (run_local number (at_most m) 2) (λ n le. go n le (ltb n (length z.before)) refl)
    where
      go : (n : ℕ) → n ≤ length z.before → (t : Bool) → ltb n (length z.before) ≡ t → SameAt (own zeros z) n n (run_to m)
      go n le true e = read_before (own zeros z) (run_to m) (run_bounded number (at_most m) 2) n le (run_reads_before m z.before z.starts n (ltb-true n (length z.before) e))
      go n le false e = let here : n ≡ length z.before = omega (arith, ltb-false n (length z.before) e) in rw here run_at_cut

-- what stands first where a text is cut otherwise is no digit
run_apart : (m : ℕ) (z : CutOf fractions) → Simulates (cut fractions z) (run_to m)
run_apart m = foreign_simulates fractions (run_to m) (run_local number (at_most m) 2) (run_bounded number (at_most m) 2) (run_foreign number (at_most m) 2 (λ b. apart fractions b ≡ true) apart_no_digit)

pub run_simulates : (f : Family) (m : ℕ) (z : CutOf f) → Simulates (cut f z) (run_to m)
run_simulates zeros m (inl z) = run_own m z
run_simulates zeros m (inr z) = run_apart m (inr z)
run_simulates fractions m z = run_apart m z

-- ---- few digits

lowest_grows : (n v w : ℕ) → v ≤ w → lowest n v ≤ lowest n w
unfolding lowest
lowest_grows zero v w h = h
lowest_grows (suc n) v w h = lowest_grows n (v * 10) (w * 10) (omega arith)

-- so many digits make a number at least so great
number_least : (d : List ℕ) (n v : ℕ) → n ≤ length d → lowest n v ≤ number_from v d
unfolding lowest number_from
number_least d zero v h = number_grows d v
number_least [] (suc n) v h = absurd (omega arith)
number_least (b ∷ d) (suc n) v h = let x = lowest_grows n (v * 10) (v * 10 + (b - 48)) (omega arith) in let y = number_least d n (v * 10 + (b - 48)) (omega arith) in omega (arith, x, y)

digits_first : (l : List ℕ) (b : ℕ) (d : List ℕ) → digits l ≡ b ∷ d → is_digit b ≡ true
unfolding digits
digits_first [] b d e = absurd (let z : ◌≡◌ {A = ℕ} 0 1 = cc in omega arith)
digits_first (c ∷ l) b d e = go (is_digit c) refl e
  where
    go : (t : Bool) → is_digit c ≡ t → pick t (c ∷ digits l) [] ≡ b ∷ d → is_digit b ≡ true
    go true is e = let same : c ≡ b = cc in rw (← same) is
    go false is e = absurd (let z : ◌≡◌ {A = ℕ} 0 1 = cc in omega arith)

-- more digits than `few`, the first not 0, make a number above the greatest
module _ (m few : ℕ) (some : 1 ≤ few) (beyond : m < lowest few 1) where
  most_digits : (b : ℕ) (d : List ℕ) → is_digit b ≡ true → (b ≡ 48 → ⊥) → leb (number (b ∷ d)) m ≡ true → suc (length d) ≤ few
  unfolding number_from
  most_digits b d is other h = go (leb (suc (length d)) few) refl
    where
      first : 1 ≤ 0 + (b - 48)
      first = omega (arith, leb-true 48 b (and_first (leb 48 b) (leb b 57) is), other)

      go : (t : Bool) → leb (suc (length d)) few ≡ t → suc (length d) ≤ few
      go true e = leb-true (suc (length d)) few e
      go false e = absurd (omega (arith, beyond, lowest_grows few 1 (0 + (b - 48)) first, number_least d few (0 + (b - 48)) (omega (arith, leb-false (suc (length d)) few e)), leb-true (number (b ∷ d)) m h))

  -- a run of which no zero can be left out
  module _ (s : List ℕ) (at : ℕ) (h : (b : ℕ) (e : List ℕ) → run_at s at ≡ 48 ∷ b ∷ e → ⊥) where
    run_few : (d : List ℕ) → run_at s at ≡ d → leb (number d) m ≡ true → length d ≤ few
    run_few [] e l = omega arith
    run_few (b ∷ []) e l = omega (arith, some)
    run_few (b ∷ c ∷ d) e l = most_digits b (c ∷ d) (digits_first (drop at s) b (c ∷ d) e) (λ zero. h c d (rw (← zero) e)) l

    pub run_spans : (from : ℕ) → Reaches s from at → SpansAt (Reaches s from) s few at (run_to m)
    unfolding run_as
    run_spans from g = record { opens = λ o. opened (at_the_end s at) refl o; ends = λ a n e. let r = run_found_lem number (at_most m) 2 s at a n e in (omega (arith, r.place, run_few (run_at s at) refl r.may_be), rw (← r.place) (reaches_run g)) }
      where
        opened : (t : Bool) → at_the_end s at ≡ t → and t (leb (number (run_at s at)) m) ≡ true → length s ≤ at + few
        opened true e l = omega (arith, ltb-false (at + length (run_at s at)) (length s) (not-true (ltb (at + length (run_at s at)) (length s)) e), run_few (run_at s at) refl l)
        opened false e l = absurd (true≢false (sym l))

pub part_trims : (letter : ℕ) → apart zeros letter ≡ false → Trims zeros 21 (part letter)
unfolding part lowest
part_trims letter other = record {
  local = seq_local run (λ v. map (λ _. v) (lit letter)) (run_local number (at_most limit) 2) (λ v. map_local (λ _. v) (lit letter) (lit_local letter));
  simulates = λ z. seq_simulates (cut zeros z) run (λ v. map (λ _. v) (lit letter)) (run_simulates zeros limit z) (λ v. map_simulates (cut zeros z) (λ _. v) (lit letter) ((lit_trims zeros letter other).simulates z));
  within = λ s from h at g. seq_spans (Proper zeros s from) s (Reaches s from) 20 1 at run _ (run_spans limit 20 (omega arith) (omega arith) s at (h at g.0 g.1) from g.0) (λ v n r. map_spans (Proper zeros s from) s 1 n (λ _. v) (lit letter) (lit_spans zeros letter other s from n r));
}
