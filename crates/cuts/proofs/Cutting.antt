-- The pieces of a text are the parts that `split` gives, and have no more bytes than the text.
use Prim.Native.Nat.{ℕ, ◌+◌, ◌≤◌}
use mathlib.Core.Bool.{Bool, true, false, cond}
use mathlib.Core.List.{List, [], ◌∷◌, ◌++◌}
use mathlib.Core.Path.{◌≡◌, refl, ap, ◌∙◌}
use native.Mathlib.Omega.{arith}
use lib.Dec.{eqb}
use lib.ListN.{length}
use Rattle.std.specs.List.{slice_split, onto_first}
use Rattle.lines.specs.Lines.{pick, Split, after, onto, split_by}
use Rattle.cuts.specs.Cuts.{pieces_of, pieces}

-- whether a byte is a `|`
abbrev pub is_bar : ℕ → Bool
is_bar b = eqb b 124

abbrev pub parts : List ℕ → List (List ℕ)
parts s = slice_split is_bar s

onto_pieces : (b : ℕ) (p : Split) → pieces_of (onto (b ∷ []) p) ≡ onto_first b (pieces_of p)
onto_pieces b p = go p.finished
  where
    go : (f : List (List ℕ)) → pieces_of (onto (b ∷ []) (record { finished = f; rest = p.rest })) ≡ onto_first b (f ++ p.rest ∷ [])
    go [] = refl
    go (l ∷ ls) = refl

pub pieces_parts : (s : List ℕ) → pieces s ≡ parts s
unfolding split_by
pieces_parts [] = refl
pieces_parts (b ∷ s) = step (is_bar b) (pieces_parts s)
  where
    step : (t : Bool) → pieces s ≡ parts s → pieces_of (pick t (after [] (split_by 124 s)) (onto (b ∷ []) (split_by 124 s))) ≡ cond t ([] ∷ parts s) (onto_first b (parts s))
    step true h = ap (λ (ps : List (List ℕ)). [] ∷ ps) h
    step false h = onto_pieces b (split_by 124 s) ∙ ap (onto_first b) h

-- the bytes of some pieces, one behind the other
abbrev pub bytes_in : List (List ℕ) → ℕ
bytes_in [] = 0
bytes_in (p ∷ ps) = length p + bytes_in ps

first_longer : (b : ℕ) (ps : List (List ℕ)) → bytes_in (onto_first b ps) ≡ bytes_in ps + 1
first_longer b [] = refl
first_longer b (p ∷ ps) = omega arith

pub parts_within : (s : List ℕ) → bytes_in (parts s) ≤ length s
parts_within [] = omega arith
parts_within (b ∷ s) = step (is_bar b) (parts_within s)
  where
    step : (t : Bool) → bytes_in (parts s) ≤ length s → bytes_in (cond t ([] ∷ parts s) (onto_first b (parts s))) ≤ length (b ∷ s)
    step true h = omega arith
    step false h = omega (arith, first_longer b (parts s))
