-- What is held of a buffer, parts of a block one behind the other, and the last line of an input by what is held of it.
use Prim.Native.Nat.{ℕ, zero, suc, ◌+◌, ◌-◌, ◌≤◌, ◌<◌, min}
use mathlib.Core.Bool.{Bool, true, false}
use mathlib.Core.List.{List, [], ◌∷◌, ◌++◌, append-nil}
use mathlib.Core.Path.{◌≡◌, refl, sym, ap, ◌∙◌}
use native.Mathlib.Nat.{not-suc-le-zero}
use native.Mathlib.Omega.{arith}
use lib.Dec.{leb}
use lib.ListN.{length, take, drop}
use lib.Seq.{drop-drop, take-add, take-nil, take_all, take-length, length-take-le}
use borrow.Author.Tests.{leb-true, leb-false}
use Rattle.lines.specs.Lines.{split, lines, clip, between, Holds}

-- two parts of a block, one behind the other
pub between_then : (f u v : ℕ) (s : List ℕ) → f ≤ u → u ≤ v → between f u s ++ between u v s ≡ between f v s
between_then f u v s h k =
    let there : f + (u - f) ≡ u = omega arith in
    let both : v - f ≡ (u - f) + (v - u) = omega arith in
    sym (rw both (take-add (u - f) (v - u) (drop f s) ∙ rw (drop-drop (u - f) f s, there)))

-- A count past the end of the buffer is its end.
pub take_lesser : (held : ℕ) (kept : List ℕ) → take (min held (length kept)) kept ≡ take held kept
take_lesser held kept = step (leb held (length kept)) refl
  where
    step : (b : Bool) → leb held (length kept) ≡ b → take (min held (length kept)) kept ≡ take held kept
    step true e = let same : min held (length kept) ≡ held = omega (arith, leb-true held (length kept) e) in rw same
    step false e =
        let past : length kept < held = omega (arith, leb-false held (length kept) e) in
        let same : min held (length kept) ≡ length kept = omega arith in
        rw (same, take-length kept) (sym (take_all held kept (omega arith)))

module _ (held : ℕ) (kept : List ℕ) {n : ℕ} (clamped : n ≡ min held (length kept)) where
  pub held_whole : take n kept ≡ take held kept
  held_whole = rw clamped (take_lesser held kept)

  pub held_nothing : n ≡ 0 → take held kept ≡ []
  held_nothing e = sym held_whole ∙ rw e

  pub held_some : (n ≡ 0 → ⊥) → 1 ≤ length (take held kept)
  held_some e = rw (← held_whole, length-take-le n kept (omega arith)) (nonzero n e)
    where
      nonzero : (m : ℕ) → (m ≡ 0 → ⊥) → 1 ≤ m
      nonzero zero f = absurd (f refl)
      nonzero (suc m) f = omega arith

-- ---- at the end of the input: no last line where nothing is held, and else the one whose first bytes are

module _ (limit : ℕ) (bytes held : List ℕ) (holds : Holds limit bytes held) where
  clipped_nothing : (m : ℕ) (l : List ℕ) → 1 ≤ m → clip m l ≡ [] → l ≡ []
  clipped_nothing zero l h e = absurd (not-suc-le-zero h)
  clipped_nothing (suc m) [] h e = refl
  clipped_nothing (suc m) (b ∷ l) h e = let z : ◌≡◌ {A = ℕ} (suc (length (take m l))) 0 = ap length e in absurd (omega arith)

  pub no_last : 1 ≤ limit → held ≡ [] → lines bytes ≡ (split bytes).finished
  unfolding lines
  no_last h e = rw (clipped_nothing limit (split bytes).rest h (sym holds ∙ e)) (append-nil (split bytes).finished)

  pub record Last : Type 0 where
    pub line : List ℕ
    pub lines : lines bytes ≡ (split bytes).finished ++ line ∷ []
    pub kept : held ≡ clip limit line

  pub last : 1 ≤ length held → Last
  unfolding lines
  last h = step (split bytes).rest refl
    where
      step : (rest : List ℕ) → (split bytes).rest ≡ rest → Last
      step [] e = let none : held ≡ [] = holds ∙ rw (e, take-nil limit) in let z : length held ≡ 0 = ap length none in absurd (omega arith)
      step (b ∷ rest) e = record { line = b ∷ rest; lines = rw e; kept = holds ∙ rw e }
