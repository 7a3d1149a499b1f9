-- The place of a byte at or after a place, as a search of what stands there finds it, and what is taken where nothing stands.
use Prim.Native.Nat.{ℕ, ◌+◌, ◌≤◌, ◌<◌}
use mathlib.Core.Bool.{Bool, true, false, cond}
use mathlib.Core.List.{List, [], ◌∷◌}
use mathlib.Core.Path.{◌≡◌, refl, sym, ◌∙◌}
use native.Mathlib.Omega.{arith}
use lib.ListN.{length, drop, drop_of_length-le}
use lib.Dec.{eqb, ltb}
use Rattle.std.specs.declared.option.Option.TheVariants.{None, Some}
use Rattle.std.specs.declared.option.Option.{Option}
use Rattle.std.specs.List.{position_from, position_or_len}
use Rattle.std.specs.Option.{option_map}
use Rattle.std.proofs.lemmas.Slice.{between_to_end}
use Rattle.std.proofs.lemmas.Iterator.Adapters.{position_from-zero}
use Rattle.lines.specs.Lines.{pick, place_from, place_of, end_at, between, Takes}
use Rattle.text.proofs.Laws.{puts_nothing}

-- the first byte c of t, whose first byte stands at at + k, is as far behind `at` as it is behind its own beginning
place_behind : (c at k : ℕ) (t : List ℕ) → place_from c (at + k) t ≡ option_map (λ i. at + i) (position_from (λ b. eqb b c) k t)
place_behind c at k [] = refl
place_behind c at k (b ∷ t) = step (eqb b c) (place_behind c at (k + 1) t)
  where
    step : (u : Bool) → place_from c (at + (k + 1)) t ≡ option_map (λ i. at + i) (position_from (λ b. eqb b c) (k + 1) t)
        → pick u (Some (at + k)) (place_from c (at + k + 1) t) ≡ option_map (λ i. at + i) (cond u (Some k) (position_from (λ b. eqb b c) (k + 1) t))
    step true h = refl
    step false h = let e : at + k + 1 ≡ at + (k + 1) = omega arith in rw (e, h)

-- so it is where a search of what stands from `at` on finds it
pub place_found : (c : ℕ) (s : List ℕ) (at n : ℕ) (part rest : List ℕ) (found : Option ℕ)
    → length s ≤ n → part ≡ between at n s → rest ≡ part
    → (let p = position_or_len (λ b. eqb b c) rest in found ≡ cond (ltb p (length rest)) (Some p) None)
    → option_map (λ i. at + i) found ≡ place_of c s at
unfolding place_of
place_found c s at n part rest found h p q f =
    let here : rest ≡ drop at s = q ∙ p ∙ between_to_end s at n h in
    let start : at + 0 ≡ at = omega arith in
    rw (f, position_from-zero (λ b. eqb b c) rest, here) (sym (rw start at (place_behind c at 0 (drop at s))))

pub place_past : (c : ℕ) (s : List ℕ) (at : ℕ) → length s < at → place_of c s at ≡ None
unfolding place_of
place_past c s at h = let k : length s ≤ at = omega arith in rw (drop_of_length-le s k)

pub takes_nothing : {block : List ℕ} {from : ℕ} (held : ℕ) (old : List ℕ) → end_at block from ≡ None → length block ≤ from
    → Takes held block from old old (record { held = held; used = from; ended = false })
takes_nothing {block} held old e k = record { puts = rw (e, drop_of_length-le block k) (puts_nothing old held); used = rw e (omega arith); ended = rw e refl }
