-- A part is read back from its spelling. Where it is 0 and so not spelled, nothing is read in its place: what stands there has another letter,
-- or no digit.
use Prim.Native.Nat.{ℕ, zero, suc, ◌≤◌}
use mathlib.Core.List.{List, [], ◌∷◌, ◌++◌, append_assoc, append-nil}
use mathlib.Core.Bool.{false}
use mathlib.Core.Option.{Option, some, none}
use mathlib.Core.Path.{◌≡◌, refl}
use lib.Dec.{eqb}
use Rattle.parser.specs.Reading.{Reader, seq, opt, pick}
use Rattle.parser.specs.Digits.{is_digit, limit}
use Rattle.parser.specs.Fields.{or_zero}
use Rattle.duration.specs.Rules.{part}
use Rattle.text.specs.Text.{decimal}
use Rattle.writing.specs.Spelling.{part_spelling}
use Rattle.writing.proofs.Texts.{ReadAs, Refuses, lit_reads, lit_refuses, seq_reads, seq_refuses, seq_refuses_behind, map_reads, map_refuses, opt_reads, opt_lacks}
use Rattle.writing.proofs.Digits.{begins, decimal_reads, run_refuses}
use Rattle.duration_writer.proofs.Sizes.{not_zero_lem}

-- what is read of a part that is spelled only where it isn't 0
abbrev pub kept : ℕ → Option ℕ
kept n = pick (eqb n 0) none (some n)

pub kept_is : (n : ℕ) → or_zero (kept n) ≡ n
kept_is zero = refl
kept_is (suc n) = rw (not_zero_lem n)

module _ (letter : ℕ) where
  pub none_here : {x : List ℕ} → begins x ≡ false → Refuses (part letter) x
  unfolding part
  none_here o = seq_refuses _ (run_refuses _ _ _ o)

  pub spelled_reads : (n : ℕ) (x : List ℕ) → is_digit letter ≡ false → n ≤ limit → ReadAs (part letter) (decimal n ++ letter ∷ []) x n
  unfolding part
  spelled_reads n x o h = seq_reads _ (decimal_reads n (letter ∷ x) h o) (map_reads _ (lit_reads letter x))

  pub other_refuses : (c n : ℕ) (x : List ℕ) → is_digit c ≡ false → eqb c letter ≡ false → n ≤ limit → Refuses (part letter) (decimal n ++ c ∷ x)
  unfolding part
  other_refuses c n x o e h = seq_refuses_behind _ (decimal_reads n (c ∷ x) h o) (map_refuses _ (lit_refuses letter e))

  -- past a part with another letter
  pub past : (c n : ℕ) {x : List ℕ} → is_digit c ≡ false → eqb c letter ≡ false → n ≤ limit → Refuses (part letter) x → Refuses (part letter) (part_spelling n c ++ x)
  unfolding part_spelling
  past c zero o e h r = r
  past c (suc n) {x} o e h r = rw (not_zero_lem n, append_assoc (decimal (suc n)) (c ∷ []) x) (other_refuses c (suc n) x o e h)

  part_reads : (n : ℕ) (x : List ℕ) → is_digit letter ≡ false → n ≤ limit → Refuses (part letter) x → ReadAs (opt (part letter)) (part_spelling n letter) x (kept n)
  unfolding part_spelling
  part_reads zero x o h r = opt_lacks r
  part_reads (suc n) x o h r = rw (not_zero_lem n) (opt_reads (spelled_reads (suc n) x o h))

  -- and then the text u, to the end
  pub then_reads : {A : Type 0} (q : Option ℕ → Reader A) (n : ℕ) {u : List ℕ} {w : A} → is_digit letter ≡ false → n ≤ limit
      → Refuses (part letter) u → ReadAs (q (kept n)) u [] w → ReadAs (seq (opt (part letter)) q) (part_spelling n letter ++ u) [] w
  then_reads q n {u} o h r k = seq_reads q (part_reads n (u ++ []) o h (rw (append-nil u) r)) k
