-- Where leading zeros are dropped: what the mark tells of the last bytes, and that of tidy bytes no zero more can be left out.
use Prim.Native.Nat.{ℕ, zero, suc, ◌<◌}
use mathlib.Core.List.{List, [], ◌∷◌, ◌++◌}
use mathlib.Core.Bool.{Bool, true, false, not}
use mathlib.Core.Path.{◌≡◌, refl, sym, ap, ◌∙◌}
use native.Mathlib.Omega.{arith}
use lib.ListN.{length, get_or, take, drop}
use lib.Dec.{ltb, eqb}
use borrow.Author.Tests.{ltb-true, ltb-false, eqb-true, not-true}
use Rattle.parser.specs.Reading.{pick, or, and, within}
use Rattle.parser.specs.Digits.{is_digit, digits, run_at}
use Rattle.parser.proofs.Fields.{true≢false, and_first}
use Rattle.parser.proofs.Runs.{run_end}
use Rattle.shortening.specs.Points.{is_point}
use Rattle.shortening.proofs.Families.{zeros, fresh, Clean}
use Rattle.shortening.proofs.Sides.{family_in, zeros≢fractions}
use Rattle.arriving.specs.Keeping.{drops_zeros, next_mark, joinable}
use Rattle.arriving.proofs.Tidy.{marked, tidy, marked_snoc, tidy_last, tidy_from, marked_take, last_of, zero_by, point_by, next_mark_lem, point_most, side_of}

-- a mark of 17 stands behind no digit
no_digit : (sides : Bool) (m b : ℕ) → next_mark sides m b ≡ 17 → is_digit b ≡ false
no_digit sides m b e = go (and sides (eqb b 47)) (drops_zeros m b) (sym (next_mark_lem sides m b) ∙ e)
  where
    other : (d o v : Bool) → zero_by d o v ≡ 17 → d ≡ false
    other false o v e = refl
    other true true true e = absurd (omega arith)
    other true true false e = absurd (omega arith)
    other true false v e = absurd (omega arith)

    go : (q z : Bool) → pick q 32 (pick z (zero_by (is_digit b) (or (eqb m 17) (eqb m 27)) (eqb b 48)) (point_by m (is_digit b) (within 1 11 m) (ltb m 11) (is_point b))) ≡ 17 → is_digit b ≡ false
    go true z e = absurd (omega arith)
    go false true e = other (is_digit b) (or (eqb m 17) (eqb m 27)) (eqb b 48) e
    go false false e = absurd (omega (arith, point_most m (is_digit b) (within 1 11 m) (ltb m 11) (is_point b) refl))

pub fresh_mark : (sides : Bool) (m : ℕ) (t : List ℕ) → marked sides m t ≡ 17 → fresh t (length t) ≡ true
fresh_mark sides m t h = go (length t) refl
  where
    go : (k : ℕ) → length t ≡ k → fresh t k ≡ true
    go zero e = refl
    go (suc k) e =
        let before = marked sides m (take k t) in
        rw (no_digit sides before (get_or t k 0) (sym (marked_snoc sides (take k t) (get_or t k 0) m) ∙ ap (marked sides m) (sym (last_of t k e)) ∙ h))

-- a mark of 27 stands behind a zero that no digit stands before
lone_zero : (sides : Bool) (m c : ℕ) → next_mark sides m c ≡ 27 → and (joinable m) (is_digit c) ≡ false → (m ≡ 17) × (c ≡ 48)
lone_zero sides m c e h = go (and sides (eqb c 47)) (drops_zeros m c) (sym (next_mark_lem sides m c) ∙ e)
  where
    zero : (d o v : Bool) → is_digit c ≡ d → or (eqb m 17) (eqb m 27) ≡ o → eqb c 48 ≡ v → zero_by d o v ≡ 27 → (m ≡ 17) × (c ≡ 48)
    zero true true true ed eo ev e = (behind (eqb m 17) (eqb m 27) refl refl eo, eqb-true c 48 ev)
      where
        behind : (t u : Bool) → eqb m 17 ≡ t → eqb m 27 ≡ u → or t u ≡ true → m ≡ 17
        behind true u et eu x = eqb-true m 17 et
        behind false true et eu x = let last : m ≡ 27 = eqb-true m 27 eu in absurd (true≢false (rw (last, ed) at h))
        behind false false et eu x = absurd (true≢false (sym x))
    zero true true false ed eo ev e = absurd (omega arith)
    zero true false v ed eo ev e = absurd (omega arith)
    zero false o v ed eo ev e = absurd (omega arith)

    go : (q z : Bool) → pick q 32 (pick z (zero_by (is_digit c) (or (eqb m 17) (eqb m 27)) (eqb c 48)) (point_by m (is_digit c) (within 1 11 m) (ltb m 11) (is_point c))) ≡ 27 → (m ≡ 17) × (c ≡ 48)
    go true z e = absurd (omega arith)
    go false true e = zero (is_digit c) (or (eqb m 17) (eqb m 27)) (eqb c 48) refl refl refl e
    go false false e = absurd (omega (arith, point_most m (is_digit c) (within 1 11 m) (ltb m 11) (is_point c) refl))

pub zero_last : (sides : Bool) (m : ℕ) (t : List ℕ) (c : ℕ) → tidy sides m (t ++ c ∷ []) ≡ true → marked sides m (t ++ c ∷ []) ≡ 27 → (marked sides m t ≡ 17) × (c ≡ 48)
zero_last sides m t c h e = lone_zero sides (marked sides m t) c (sym (marked_snoc sides t c m) ∙ e) (tidy_last sides t c m h).1

-- ---- no zero more can be left out

-- a run of two digits does not begin with 0
zero_alone : (sides : Bool) (c : ℕ) (u : List ℕ) → tidy sides 17 (48 ∷ c ∷ u) ≡ true → is_digit c ≡ true → ⊥
unfolding tidy next_mark
zero_alone true c u h e = true≢false (sym (and_first (not (is_digit c)) _ h) ∙ rw e)
zero_alone false c u h e = true≢false (sym (and_first (not (is_digit c)) _ h) ∙ rw e)

no_zero : (sides : Bool) (u : List ℕ) → tidy sides 17 u ≡ true → (b : ℕ) (d : List ℕ) → digits u ≡ 48 ∷ b ∷ d → ⊥
unfolding digits
no_zero sides [] h b d e = let z : ◌≡◌ {A = ℕ} 0 1 = cc in omega arith
no_zero sides (a ∷ []) h b d e = go (is_digit a) (ap length e)
  where
    go : (t : Bool) → length (pick t (a ∷ []) []) ≡ suc (suc (length d)) → ⊥
    go true e = omega arith
    go false e = omega arith
no_zero sides (a ∷ c ∷ u) h b d e = go (is_digit a) (is_digit c) refl e
  where
    go : (t v : Bool) → is_digit c ≡ v → pick t (a ∷ pick v (c ∷ digits u) []) [] ≡ 48 ∷ b ∷ d → ⊥
    go false v ev e = let z : ◌≡◌ {A = ℕ} 0 1 = cc in omega arith
    go true false ev e = let l = ap length e in omega arith
    go true true ev e = let same : a ≡ 48 = cc in zero_alone sides c u (rw same at h) ev

-- behind no digit the mark is 17
fresh_side : (sides : Bool) (m b : ℕ) → is_digit b ≡ false → family_in (side_of (next_mark sides m b)) ≡ zeros → next_mark sides m b ≡ 17
fresh_side sides m b e side = next_mark_lem sides m b ∙ rw e (go (and sides (eqb b 47)) (drops_zeros m b) (is_point b) (rw (next_mark_lem sides m b, e) at side))
  where
    go : (q z p : Bool) → family_in (side_of (pick q 32 (pick z 17 (pick p 1 0)))) ≡ zeros → ◌≡◌ {A = ℕ} (pick q 32 (pick z 17 (pick p 1 0))) 17
    go true z p h = absurd (zeros≢fractions (sym h))
    go false true p h = refl
    go false false true h = absurd (zeros≢fractions (sym h))
    go false false false h = absurd (zeros≢fractions (sym h))

pub tidy_zeros : (sides : Bool) (m : ℕ) (s : List ℕ) → tidy sides m s ≡ true → (family_in (side_of m) ≡ zeros → m ≡ 17) → (at : ℕ) → family_in (side_of (marked sides m (take at s))) ≡ zeros → Clean zeros s at
unfolding marked
tidy_zeros sides m s h first at side f b d e = no_zero sides (drop at s) (rw (start at side f e) at (tidy_from sides m at s h)) b d e
  where
    -- a place behind which a run begins lies within
    inside : (n : ℕ) → run_at s (suc n) ≡ 48 ∷ b ∷ d → (t : Bool) → ltb n (length s) ≡ t → n < length s
    inside n e true x = ltb-true n (length s) x
    inside n e false x = let empty = run_end s (suc n) (omega (arith, ltb-false n (length s) x)) in absurd (let l = ap length (sym e ∙ empty) in omega arith)

    start : (n : ℕ) → family_in (side_of (marked sides m (take n s))) ≡ zeros → fresh s n ≡ true → run_at s n ≡ 48 ∷ b ∷ d → marked sides m (take n s) ≡ 17
    start zero side f e = first side
    start (suc n) side f e =
        let last = marked_take sides m n s (inside n e (ltb n (length s)) refl) in
        last ∙ fresh_side sides (marked sides m (take n s)) (get_or s n 0) (not-true (is_digit (get_or s n 0)) f) (rw last at side)
