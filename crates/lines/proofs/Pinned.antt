-- The definition of lines, pinned: the lines and the ends between them are the input again, and there are as many as there are ends, and
-- one more for a last piece that is not empty.
use Prim.Native.Nat.{ℕ, suc, ◌+◌, ◌≤◌}
use mathlib.Core.Bool.{Bool, true, false}
use mathlib.Core.List.{List, [], ◌∷◌, ◌++◌, append_assoc, append-nil}
use mathlib.Core.Path.{◌≡◌, refl, sym, ap, ◌∙◌}
use native.Mathlib.Omega.{arith}
use lib.Dec.{eqb}
use lib.ListN.{length, length-append}
use borrow.Author.Tests.{ne_eqb}
use Rattle.lines.specs.Lines.{pick, after, onto, split_by, split, last_line, lines, joined, Free, joined_by10, last_end, tens, last_piece}
use Rattle.lines.proofs.Laws.{joined_split, split_free}

-- the last byte of a line that is not empty is no byte 10
free_last_end : (r : List ℕ) → Free r → last_end r ≡ []
free_last_end [] f = refl
free_last_end (b ∷ []) f = rw (ne_eqb b 10 f.0)
free_last_end (b ∷ c ∷ r) f = free_last_end (c ∷ r) f.1

-- and bytes in front of some others do not matter to the last
last_end_behind : (a : List ℕ) (b : ℕ) (s : List ℕ) → last_end (a ++ b ∷ s) ≡ last_end (b ∷ s)
last_end_behind [] b s = refl
last_end_behind (x ∷ []) b s = refl
last_end_behind (x ∷ y ∷ a) b s = last_end_behind (y ∷ a) b s

last_joined : (r : List ℕ) → joined_by10 (last_line r) ≡ r
last_joined [] = refl
last_joined (b ∷ r) = refl

-- a line and its end in front of others
line_joined : (l t j : List ℕ) → t ++ last_end j ≡ j → last_end (10 ∷ j) ≡ last_end j → (l ++ 10 ∷ t) ++ last_end (l ++ 10 ∷ j) ≡ l ++ 10 ∷ j
line_joined l t j h e = rw (last_end_behind l 10 j, e, append_assoc l (10 ∷ t) (last_end j)) (ap (λ (x : List ℕ). l ++ 10 ∷ x) h)

parts_joined : (r : List ℕ) → Free r → (ls : List (List ℕ))
    → joined_by10 (ls ++ last_line r) ++ last_end (joined (record { finished = ls; rest = r })) ≡ joined (record { finished = ls; rest = r })
parts_joined r f [] = rw (free_last_end r f, append-nil (joined_by10 (last_line r))) (last_joined r)
parts_joined [] f (l ∷ []) = rw (last_end_behind l 10 [])
parts_joined (b ∷ r) f (l ∷ []) = line_joined l (b ∷ r) (b ∷ r) (parts_joined (b ∷ r) f []) refl
parts_joined r f (l ∷ k ∷ ls) =
    let rest = joined (record { finished = ls; rest = r }) in
    line_joined l (joined_by10 ((k ∷ ls) ++ last_line r)) (k ++ 10 ∷ rest) (parts_joined r f (k ∷ ls)) (last_end_behind (10 ∷ k) 10 rest ∙ sym (last_end_behind k 10 rest))

pub lines_joined : (s : List ℕ) → joined_by10 (lines s) ++ last_end s ≡ s
unfolding lines
lines_joined s = rw (joined_split s) at (parts_joined (split s).rest (split_free s).1 (split s).finished)

pub onto_length : (b : ℕ) (ls : List (List ℕ)) (r : List ℕ) → length (onto (b ∷ []) (record { finished = ls; rest = r })).finished ≡ length ls
onto_length b [] r = refl
onto_length b (l ∷ ls) r = refl

finished_tens : (s : List ℕ) → length (split s).finished ≡ tens s
unfolding split_by
finished_tens [] = refl
finished_tens (b ∷ s) = step (eqb b 10) (finished_tens s)
  where
    step : (t : Bool) → length (split s).finished ≡ tens s → length (pick t (after [] (split s)) (onto (b ∷ []) (split s))).finished ≡ pick t (1 + tens s) (tens s)
    step true h = omega arith
    step false h = onto_length b (split s).finished (split s).rest ∙ h

tens_few : (s : List ℕ) → tens s ≤ length s
tens_few [] = omega arith
tens_few (b ∷ s) = step (eqb b 10) (tens_few s)
  where
    step : (t : Bool) → tens s ≤ length s → pick t (1 + tens s) (tens s) ≤ suc (length s)
    step true h = omega arith
    step false h = omega arith

-- so no more lines are finished than there are bytes
pub finished_few : (s : List ℕ) → length (split s).finished ≤ length s
finished_few s = rw (finished_tens s) (tens_few s)

last_length : (r : List ℕ) → length (last_line r) ≡ last_piece r
last_length [] = refl
last_length (b ∷ r) = refl

pub lines_counted : (s : List ℕ) → length (lines s) ≡ tens s + last_piece (split s).rest
unfolding lines
lines_counted s = length-append (split s).finished _ ∙ rw (finished_tens s, last_length (split s).rest)
