-- Where fraction digits are dropped: behind a comma or point the mark is 1 and as many as there are digits, and of tidy bytes no digit more can
-- be left out.
use Prim.Native.Nat.{ℕ, zero, suc, ◌+◌, ◌<◌, ◌≤◌}
use mathlib.Core.List.{List, [], ◌∷◌, ◌++◌, append_assoc}
use mathlib.Core.Bool.{Bool, true, false, not}
use mathlib.Core.Option.{some, none}
use mathlib.Core.Path.{◌≡◌, refl, sym, ap, ◌∙◌}
use mathlib.Core.Logic.{◌⊎◌, inl, inr}
use native.Mathlib.Numerals.{add-one}
use native.Mathlib.Omega.{arith}
use lib.ListN.{length, get_or, take, drop, length-append, get_or-eq_default}
use lib.Dec.{ltb, leb, eqb}
use borrow.Author.Tests.{ltb-true, ltb-false, leb-true, lt-ltb, le-leb, lt-leb, ne_eqb, not-true}
use Rattle.parser.specs.Reading.{pick, or, and, within}
use Rattle.parser.specs.Digits.{is_digit, digits}
use Rattle.parser.proofs.Fields.{true≢false, and_first, and_second}
use Rattle.shortening.specs.Points.{is_point}
use Rattle.shortening.specs.Sides.{starts_zeros}
use Rattle.shortening.proofs.Families.{zeros, fractions, by_point, all_digits, digit_no_slash, Clean}
use Rattle.shortening.proofs.Fields.{point_no_digit}
use Rattle.shortening.proofs.Sides.{family_in, zeros≢fractions}
use Rattle.arriving.specs.Keeping.{drops_zeros, next_mark, joinable}
use Rattle.arriving.proofs.Tidy.{marked, tidy, marked_snoc, tidy_last, tidy_from, marked_take, last_of, zero_by, point_by, next_mark_lem, side_of}

pub record PointTail (k : ℕ) (t : List ℕ) : Type 0 where
  pub before : List ℕ
  pub point : ℕ
  pub digits : List ℕ
  pub points : is_point point ≡ true
  pub size : length digits ≡ k
  pub all : all_digits digits ≡ true
  pub is : t ≡ before ++ point ∷ digits

all_snoc : (d : List ℕ) (b : ℕ) → all_digits d ≡ true → is_digit b ≡ true → all_digits (d ++ b ∷ []) ≡ true
all_snoc [] b h e = rw e
all_snoc (c ∷ d) b h e = rw (and_first (is_digit c) (all_digits d) h, all_snoc d b (and_second (is_digit c) h) e)

-- a `/` inside a text with sides, and no digit or comma or point
apart_slash : (sides : Bool) (b : ℕ) → eqb b 47 ≡ false → and sides (eqb b 47) ≡ false
apart_slash true b e = e
apart_slash false b e = refl

-- where the mark is one of a fraction the last byte is a digit, behind one digit fewer, or the comma or point itself
abbrev LastPoint : ℕ → ℕ → ℕ → Type 0
LastPoint m c k = ((is_digit c ≡ true) × ((m ≡ k) × (0 < k))) ⊎ ((is_point c ≡ true) × (k ≡ 0))

last_point : (sides : Bool) (m c k : ℕ) → k ≤ 10 → next_mark sides m c ≡ suc k → and (joinable m) (is_digit c) ≡ false → LastPoint m c k
last_point sides m c k few e h = go (and sides (eqb c 47)) (drops_zeros m c) (sym (next_mark_lem sides m c) ∙ e)
  where
    point : (d w f p : Bool) → is_digit c ≡ d → within 1 11 m ≡ w → ltb m 11 ≡ f → is_point c ≡ p → point_by m d w f p ≡ suc k → LastPoint m c k
    point true true true p ed ew ef ep e = inl (ed, (omega arith, omega (arith, leb-true 1 m (and_first (leb 1 m) (leb m 11) ew))))
    point true true false p ed ew ef ep e = let last : m ≡ 11 = omega (arith, ltb-false m 11 ef, leb-true m 11 (and_second (leb 1 m) ew)) in absurd (true≢false (rw (last, ed) at h))
    point true false f p ed ew ef ep e = absurd (omega arith)
    point false w f true ed ew ef ep e = inr (ep, omega arith)
    point false w f false ed ew ef ep e = absurd (omega arith)

    zero : (d o v : Bool) → zero_by d o v ≡ suc k → LastPoint m c k
    zero true true true e = absurd (omega arith)
    zero true true false e = absurd (omega arith)
    zero true false v e = absurd (omega arith)
    zero false o v e = absurd (omega arith)

    go : (q z : Bool) → pick q 32 (pick z (zero_by (is_digit c) (or (eqb m 17) (eqb m 27)) (eqb c 48)) (point_by m (is_digit c) (within 1 11 m) (ltb m 11) (is_point c))) ≡ suc k → LastPoint m c k
    go true z e = absurd (omega arith)
    go false true e = zero (is_digit c) (or (eqb m 17) (eqb m 27)) (eqb c 48) e
    go false false e = point (is_digit c) (within 1 11 m) (ltb m 11) (is_point c) refl refl refl refl e

-- from a mark that is none of a fraction
module _ (sides : Bool) (m : ℕ) (first : (k : ℕ) → k ≤ 10 → m ≡ suc k → ⊥) where
  some_bytes : (k : ℕ) (t : List ℕ) → k ≤ 10 → marked sides m t ≡ suc k → (n : ℕ) × (length t ≡ suc n)
  unfolding marked
  some_bytes k [] few e = absurd (first k few e)
  some_bytes k (b ∷ t) few e = (length t, refl)

  -- by the last byte: the comma or point itself, or a digit
  by_last : (k : ℕ) (t u : List ℕ) (c : ℕ) → k ≤ 10 → t ≡ u ++ c ∷ [] → tidy sides m t ≡ true → marked sides m t ≡ suc k → (tidy sides m u ≡ true → marked sides m u ≡ k → 0 < k → is_digit c ≡ true → PointTail k t) → PointTail k t
  by_last k t u c few is h e digit = go (last_point sides (marked sides m u) c k few (sym (marked_snoc sides u c m) ∙ ap (marked sides m) (sym is) ∙ e) last.1)
    where
      last : (tidy sides m u ≡ true) × (and (joinable (marked sides m u)) (is_digit c) ≡ false)
      last = tidy_last sides u c m (ap (tidy sides m) (sym is) ∙ h)

      go : LastPoint (marked sides m u) c k → PointTail k t
      go (inl x) = digit last.0 x.1.0 x.1.1 x.0
      go (inr x) = record { before = u; point = c; digits = []; points = x.0; size = sym x.1; all = refl; is = is }

  pub point_tail : (k : ℕ) (t : List ℕ) → k ≤ 10 → tidy sides m t ≡ true → marked sides m t ≡ suc k → PointTail k t
  point_tail zero t few h e =
      let n = some_bytes zero t few e in
      by_last zero t (take n.0 t) (get_or t n.0 0) few (last_of t n.0 n.1) h e (λ a b pos d. absurd (omega arith))
  point_tail (suc k) t few h e =
      let n = some_bytes (suc k) t few e in
      let is = last_of t n.0 n.1 in
      let c = get_or t n.0 0 in
      by_last (suc k) t (take n.0 t) c few is h e (λ a b pos d.
      let p = point_tail k (take n.0 t) (omega arith) a b in
      record {
        before = p.before;
        point = p.point;
        digits = p.digits ++ c ∷ [];
        points = p.points;
        size = omega (arith, p.size, length-append p.digits (c ∷ []));
        all = all_snoc p.digits c p.all d;
        is = is ∙ ap (λ (l : List ℕ). l ++ c ∷ []) p.is ∙ append_assoc p.before (p.point ∷ p.digits) (c ∷ []);
      })

-- a mark of 11 stands behind ten digits
pub point_last : (sides : Bool) (m : ℕ) (t : List ℕ) (c : ℕ) → tidy sides m (t ++ c ∷ []) ≡ true → marked sides m (t ++ c ∷ []) ≡ 11 → (is_digit c ≡ true) × (marked sides m t ≡ 10)
point_last sides m t c h e = go (last_point sides (marked sides m t) c 10 (omega arith) (sym (marked_snoc sides t c m) ∙ e) (tidy_last sides t c m h).1)
  where
    go : LastPoint (marked sides m t) c 10 → (is_digit c ≡ true) × (marked sides m t ≡ 10)
    go (inl x) = (x.0, x.1.0)
    go (inr x) = absurd (omega (arith, x.1))

-- ---- no digit more can be left out

-- behind a comma or point the mark is 1
point_first : (sides : Bool) (m b : ℕ) → is_point b ≡ true → family_in (side_of m) ≡ fractions → next_mark sides m b ≡ 1
point_first sides m b p side = next_mark_lem sides m b ∙ rw (point_no_digit b p, p, apart_slash sides b (by_point (λ c. eqb c 47 ≡ false) refl refl b p)) (go (eqb m 32) side)
  where
    no_start : starts_zeros b ≡ false
    no_start = by_point (λ c. starts_zeros c ≡ false) refl refl b p

    later : (u : Bool) → pick u zeros fractions ≡ fractions → ◌≡◌ {A = ℕ} (pick u 17 1) 1
    later true h = absurd (zeros≢fractions h)
    later false h = refl

    go : (t : Bool) → family_in (pick t none (some (pick (leb 16 m) zeros fractions))) ≡ fractions → ◌≡◌ {A = ℕ} (pick (pick t (starts_zeros b) (leb 16 m)) 17 1) 1
    go true h = rw no_start
    go false h = later (leb 16 m) h

-- and behind each digit one more
point_next : (sides : Bool) (m b : ℕ) → is_digit b ≡ true → 1 ≤ m → m < 11 → next_mark sides m b ≡ m + 1
point_next sides m b d lo hi = next_mark_lem sides m b ∙ rw (d, apart_slash sides b (digit_no_slash b d), ne_eqb m 32 (λ e. omega arith), lt-leb 16 m (omega arith), le-leb 1 m lo, le-leb m 11 (omega arith), lt-ltb m 11 hi)

-- at most so many digits
few_digits : (sides : Bool) (u : List ℕ) (m : ℕ) → 1 ≤ m → m ≤ 11 → tidy sides m u ≡ true → length (digits u) + m ≤ 11
unfolding tidy digits
few_digits sides [] m lo hi h = omega arith
few_digits sides (b ∷ u) m lo hi h = go (is_digit b) refl h (few_digits sides u (m + 1))
  where
    below : and (joinable m) true ≡ false → m < 11
    below e = under (ltb m 11) refl
      where
        under : (t : Bool) → ltb m 11 ≡ t → m < 11
        under true x = ltb-true m 11 x
        under false x = let last : m ≡ 11 = omega (arith, ltb-false m 11 x) in absurd (true≢false (rw last at e))

    go : (t : Bool) → is_digit b ≡ t → and (not (and (joinable m) t)) (tidy sides (next_mark sides m b) u) ≡ true → (1 ≤ m + 1 → m + 1 ≤ 11 → tidy sides (m + 1) u ≡ true → length (digits u) + (m + 1) ≤ 11) → length (pick t (b ∷ digits u) []) + m ≤ 11
    go false e h ih = omega arith
    go true e h ih =
        let lt = below (not-true (and (joinable m) true) (and_first _ (tidy sides (next_mark sides m b) u) h)) in
        omega (arith, ih (omega arith) (omega arith) (rw (point_next sides m b e lo lt) at (and_second (not (and (joinable m) true)) h)))

pub tidy_fractions : (sides : Bool) (m : ℕ) (s : List ℕ) → tidy sides m s ≡ true → (at : ℕ) → family_in (side_of (marked sides m (take at s))) ≡ fractions → Clean fractions s at
tidy_fractions sides m s h at side p =
    let lt = inside (ltb at (length s)) refl in
    let mark : marked sides m (take (suc at) s) ≡ 1 = marked_take sides m at s lt ∙ point_first sides (marked sides m (take at s)) (get_or s at 0) p side in
    let on : tidy sides 1 (drop (suc at) s) ≡ true = rw mark at (tidy_from sides m (suc at) s h) in
    rw (add-one at) (omega (arith, few_digits sides (drop (suc at) s) 1 (omega arith) (omega arith) on))
  where
    inside : (t : Bool) → ltb at (length s) ≡ t → at < length s
    inside true x = ltb-true at (length s) x
    inside false x = absurd (true≢false (sym p ∙ rw (get_or-eq_default s 0 (ltb-false at (length s) x))))
