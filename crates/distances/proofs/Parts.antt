-- Bytes are parted at their first byte c in one way, which `place_of` finds.
use Prim.Native.Nat.{ℕ, suc, ◌+◌, ◌-◌, ◌≤◌, ◌<◌}
use mathlib.Core.Bool.{Bool, true, false, not, ◌||◌}
use mathlib.Core.List.{List, [], ◌∷◌, ◌++◌}
use mathlib.Core.Path.{◌≡◌, refl, sym, ap, ◌∙◌}
use native.Mathlib.Omega.{arith}
use lib.Dec.{eqb}
use lib.ListN.{length, take, drop, get_or, length-drop}
use lib.Seq.{drop-drop}
use borrow.Author.Tests.{eqb-true, eqb-false}
use Rattle.std.specs.List.{list_any}
use Rattle.std.specs.declared.option.Option.TheVariants.{None, Some}
use Rattle.lines.specs.Lines.{joined_with, FreeOf, place_of, between}
use Rattle.distances.specs.Distances.{IsText}
use Rattle.distances.specs.Found.{Decides}
use Rattle.lines.proofs.Laws.{joined_by, free_by, end_from_ends, end_from_open}

pub parted_once : (c : ℕ) (a a' b b' : List ℕ) → FreeOf c a → FreeOf c a' → a ++ c ∷ b ≡ a' ++ c ∷ b' → (a ≡ a') × (b ≡ b')
parted_once c [] [] b b' f g e = (refl, ap (drop 1) e)
parted_once c [] (x ∷ a') b b' f g e = absurd (g.0 (sym (ap (λ (l : List ℕ). get_or l 0 0) e)))
parted_once c (x ∷ a) [] b b' f g e = absurd (f.0 (ap (λ (l : List ℕ). get_or l 0 0) e))
parted_once c (x ∷ a) (y ∷ a') b b' f g e =
    let o = parted_once c a a' b b' f.1 g.1 (ap (drop 1) e) in
    let same : x ≡ y = ap (λ (l : List ℕ). get_or l 0 0) e in
    (rw (same, o.0), o.1)

pub never_free : (c : ℕ) (a b : List ℕ) → FreeOf c (a ++ c ∷ b) → ⊥
never_free c [] b f = f.0 refl
never_free c (x ∷ a) b f = never_free c a b f.1

pub record Parts (c from end : ℕ) (l : List ℕ) : Type 0 where
  pub on : from ≤ end
  pub within : end < length l
  pub parts : drop from l ≡ between from end l ++ c ∷ drop (end + 1) l
  pub free : FreeOf c (between from end l)

module _ (c : ℕ) (l : List ℕ) (from : ℕ) where
  pub parted : (end : ℕ) → place_of c l from ≡ Some end → Parts c from end l
  unfolding place_of
  parted end e =
      let o = end_from_ends c from end (drop from l) e in
      let size : end - from ≡ o.size = omega arith in
      let next : end + 1 ≡ from + suc o.size = omega arith in
      let rest = drop (suc o.size) (drop from l) in
      record {
        on = omega arith;
        within = omega (arith, o.within, length-drop from l);
        parts = rw (size, next, ← drop-drop (suc o.size) from l) (sym (joined_by c (drop from l)) ∙ ap (joined_with c) o.splits ∙ ap (λ (x : List ℕ). take o.size (drop from l) ++ c ∷ x) (joined_by c rest));
        free = rw size (rw o.splits at (free_by c (drop from l))).0.0;
      }

  pub unparted : place_of c l from ≡ None → FreeOf c (drop from l)
  unfolding place_of
  unparted e = (rw (end_from_open c from (drop from l) e) at (free_by c (drop from l))).1

-- whether some bytes have no byte c, and whether they are a text
pub free_told : (c : ℕ) (s : List ℕ) → Decides (FreeOf c s) (not (list_any (λ b. eqb b c) s))
free_told c [] = tt
free_told c (b ∷ s) = go (eqb b c) (list_any (λ x. eqb x c) s) refl (free_told c s)
  where
    go : (t u : Bool) → eqb b c ≡ t → Decides (FreeOf c s) (not u) → Decides (FreeOf c (b ∷ s)) (not (t || u))
    go true u e d = λ f. f.0 (eqb-true b c e)
    go false true e d = λ f. d f.1
    go false false e d = (eqb-false b c e, d)

pub text_told : (s : List ℕ) → length s ≤ 200 → Decides (IsText s) (not (list_any (λ b. eqb b 32) s))
text_told s h = go (list_any (λ b. eqb b 32) s) (free_told 32 s)
  where
    go : (t : Bool) → Decides (FreeOf 32 s) (not t) → Decides (IsText s) (not t)
    go true d = λ i. d i.free
    go false d = record { short = h; free = d }
