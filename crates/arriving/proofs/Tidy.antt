-- The mark behind some bytes, what it says of the side that they end in, and bytes of which no digit could be joined to the one before it.
use Prim.Native.Nat.{ℕ, suc, ◌+◌, ◌<◌, ◌≤◌}
use mathlib.Core.List.{List, [], ◌∷◌, ◌++◌}
use mathlib.Core.Bool.{Bool, true, false, not}
use mathlib.Core.Option.{Option, some, none}
use mathlib.Core.Path.{◌≡◌, refl, sym, ◌∙◌}
use native.Mathlib.Omega.{arith}
use lib.ListN.{length, get_or, take, drop, take-append-drop}
use lib.Seq.{take-suc, take-length}
use lib.Dec.{ltb, leb, eqb}
use borrow.Author.Tests.{ltb-true, lt-leb, ne_eqb, not-true}
use Rattle.parser.specs.Reading.{pick, or, and, within}
use Rattle.parser.specs.Digits.{is_digit}
use Rattle.parser.proofs.Fields.{and_first, and_second}
use Rattle.shortening.specs.Points.{is_point}
use Rattle.shortening.specs.Sides.{starts_zeros}
use Rattle.shortening.proofs.Families.{Family, zeros, fractions}
use Rattle.shortening.proofs.Sides.{or_opens, next_side, side_from}
use Rattle.arriving.specs.Keeping.{drops_zeros, next_mark, joinable}

-- the mark behind some bytes, and whether no digit among them could be joined to the one before it
unfoldable pub marked : Bool → ℕ → List ℕ → ℕ
marked sides m [] = m
marked sides m (b ∷ t) = marked sides (next_mark sides m b) t

unfoldable pub tidy : Bool → ℕ → List ℕ → Bool
tidy sides m [] = true
tidy sides m (b ∷ t) = and (not (and (joinable m) (is_digit b))) (tidy sides (next_mark sides m b) t)

-- ---- one byte more, and a part of the bytes

module _ (sides : Bool) where
  pub marked_append : (t u : List ℕ) (m : ℕ) → marked sides m (t ++ u) ≡ marked sides (marked sides m t) u
  unfolding marked
  marked_append [] u m = refl
  marked_append (b ∷ t) u m = marked_append t u (next_mark sides m b)

  pub tidy_append : (t u : List ℕ) (m : ℕ) → tidy sides m (t ++ u) ≡ and (tidy sides m t) (tidy sides (marked sides m t) u)
  unfolding marked tidy
  tidy_append [] u m = refl
  tidy_append (b ∷ t) u m = rw (tidy_append t u (next_mark sides m b)) (and_assoc (not (and (joinable m) (is_digit b))) (tidy sides (next_mark sides m b) t) (tidy sides (marked sides (next_mark sides m b) t) u))
    where
      and_assoc : (p q r : Bool) → and p (and q r) ≡ and (and p q) r
      and_assoc true q r = refl
      and_assoc false q r = refl

  pub marked_snoc : (t : List ℕ) (b m : ℕ) → marked sides m (t ++ b ∷ []) ≡ next_mark sides (marked sides m t) b
  unfolding marked
  marked_snoc t b m = marked_append t (b ∷ []) m

  -- one byte behind tidy ones
  pub tidy_snoc : (m : ℕ) (t : List ℕ) (b : ℕ) → tidy sides m t ≡ true → and (joinable (marked sides m t)) (is_digit b) ≡ false → tidy sides m (t ++ b ∷ []) ≡ true
  unfolding tidy
  tidy_snoc m t b h e = tidy_append t (b ∷ []) m ∙ rw (h, e)

  -- what the last byte's test says of tidy bytes
  pub tidy_last : (u : List ℕ) (c m : ℕ) → tidy sides m (u ++ c ∷ []) ≡ true → (tidy sides m u ≡ true) × (and (joinable (marked sides m u)) (is_digit c) ≡ false)
  unfolding tidy
  tidy_last u c m h =
      let both : and (tidy sides m u) (and (not (and (joinable (marked sides m u)) (is_digit c))) true) ≡ true = sym (tidy_append u (c ∷ []) m) ∙ h in
      (and_first (tidy sides m u) _ both, not-true (and (joinable (marked sides m u)) (is_digit c)) (and_first _ true (and_second (tidy sides m u) both)))

  -- behind each place they go on tidily
  pub tidy_from : (m at : ℕ) (s : List ℕ) → tidy sides m s ≡ true → tidy sides (marked sides m (take at s)) (drop at s) ≡ true
  tidy_from m at s h = and_second (tidy sides m (take at s)) (sym (tidy_append (take at s) (drop at s) m) ∙ rw (take-append-drop at s) h)

  pub marked_take : (m n : ℕ) (s : List ℕ) → n < length s → marked sides m (take (suc n) s) ≡ next_mark sides (marked sides m (take n s)) (get_or s n 0)
  marked_take m n s lt = rw (take-suc s n 0 lt) (marked_snoc (take n s) (get_or s n 0) m)

-- the last byte and those before it
pub last_of : (t : List ℕ) (k : ℕ) → length t ≡ suc k → t ≡ take k t ++ get_or t k 0 ∷ []
last_of t k e = sym (take-length t) ∙ rw e (take-suc t k 0 (omega arith))

-- ---- by what was tested: a `/` that begins a side; zeros to drop; a digit, behind a mark that it counts with, a zero; a digit, behind digits of
-- a fraction, below ten; a comma or point

abbrev pub zero_by : Bool → Bool → Bool → ℕ
zero_by d o v = pick d (pick o (pick v 27 16) 16) 17

abbrev pub point_by : ℕ → Bool → Bool → Bool → Bool → ℕ
point_by m d w f p = pick d (pick w (pick f (m + 1) 11) 0) (pick p 1 0)

pub next_mark_lem : (sides : Bool) (m b : ℕ) → next_mark sides m b ≡ pick (and sides (eqb b 47)) 32 (pick (drops_zeros m b) (zero_by (is_digit b) (or (eqb m 17) (eqb m 27)) (eqb b 48)) (point_by m (is_digit b) (within 1 11 m) (ltb m 11) (is_point b)))
unfolding next_mark
next_mark_lem sides m b = refl

-- what a mark of a fraction can be
pub point_most : (m : ℕ) (d w f p : Bool) → ltb m 11 ≡ f → point_by m d w f p ≤ 11
point_most m true true true p e = omega (arith, ltb-true m 11 e)
point_most m true true false p e = omega arith
point_most m true false f p e = omega arith
point_most m false w f true e = omega arith
point_most m false w f false e = omega arith

-- ---- the mark tells the side

abbrev pub side_of : ℕ → Option Family
side_of m = pick (eqb m 32) none (some (pick (leb 16 m) zeros fractions))

zero_side : (d o v : Bool) → side_of (zero_by d o v) ≡ some zeros
zero_side true true true = refl
zero_side true true false = refl
zero_side true false v = refl
zero_side false o v = refl

point_side : (m : ℕ) → m ≤ 11 → side_of m ≡ some fractions
point_side m h = rw (ne_eqb m 32 (λ e. omega arith), lt-leb 16 m (omega arith))

drops_side : (m b : ℕ) → or_opens (side_of m) b ≡ pick (drops_zeros m b) zeros fractions
drops_side m b = go (eqb m 32)
  where
    go : (t : Bool) → or_opens (pick t none (some (pick (leb 16 m) zeros fractions))) b ≡ pick (pick t (starts_zeros b) (leb 16 m)) zeros fractions
    go true = refl
    go false = refl

pub next_side_lem : (sides : Bool) (m b : ℕ) → side_of (next_mark sides m b) ≡ next_side sides (side_of m) b
next_side_lem sides m b = rw (next_mark_lem sides m b, drops_side m b) (go (and sides (eqb b 47)) (drops_zeros m b))
  where
    go : (q z : Bool) → side_of (pick q 32 (pick z (zero_by (is_digit b) (or (eqb m 17) (eqb m 27)) (eqb b 48)) (point_by m (is_digit b) (within 1 11 m) (ltb m 11) (is_point b)))) ≡ pick q none (some (pick z zeros fractions))
    go true z = refl
    go false true = zero_side (is_digit b) (or (eqb m 17) (eqb m 27)) (eqb b 48)
    go false false = point_side _ (point_most m (is_digit b) (within 1 11 m) (ltb m 11) (is_point b) refl)

pub marked_side : (sides : Bool) (t : List ℕ) (m : ℕ) → side_of (marked sides m t) ≡ side_from sides (side_of m) t
unfolding marked side_from
marked_side sides [] m = refl
marked_side sides (b ∷ t) m = marked_side sides t (next_mark sides m b) ∙ rw (next_side_lem sides m b)
