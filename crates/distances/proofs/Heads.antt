-- The four heads: `head_of` finds the one that a line begins with, so that it begins with no other; and where the letter and the space stand
-- about what `head_of` finds, the line begins with that.
use Prim.Native.Nat.{ℕ, suc, ◌-◌, ◌≤◌, ◌<◌}
use mathlib.Core.Bool.{Bool, true, false}
use mathlib.Core.List.{List, ◌∷◌, ◌++◌}
use mathlib.Core.Path.{◌≡◌, refl, sym, ap, ◌∙◌}
use native.Mathlib.Omega.{arith}
use lib.Dec.{ltb, eqb}
use lib.ListN.{length, drop, get_or}
use lib.Seq.{drop-cons, drop-append_seam}
use borrow.Author.Tests.{lt-ltb, eqb-true}
use Rattle.types.specs.Editions.{edition2004, standard, standard2004}
use Rattle.types.specs.declared.Choices.{Choices}
use Rattle.types.specs.declared.Edition.{Edition}
use Rattle.types.specs.declared.Edition.TheVariants.{E2004, E2019}
use Rattle.types.specs.declared.Reading.{Reading}
use Rattle.types.specs.declared.Reading.TheVariants.{Old, Standard}
use Rattle.parser.specs.Reading.{and, pick}
use Rattle.reply.specs.declared.Head.{Head}
use Rattle.reply.specs.Line.{plain_head, has, head_from, head_of}
use Rattle.distances.specs.Distances.{heading}
use Rattle.distances.specs.Found.{Headed, Heads}

-- what `has` asks first of a place
there : (l : List ℕ) (at : ℕ) → at < length l → ltb at (length l) ≡ true
there l at h = lt-ltb at (length l) h

finds_head : (e : Edition) (r : Reading) (x : List ℕ) → head_of (heading e r ++ 32 ∷ x) ≡ record { from = suc (length (heading e r)); choices = record { edition = e; reading = r } }
unfolding head_of head_from
finds_head E2019 Old x = rw (there (115 ∷ 32 ∷ x) 1 (omega arith))
finds_head E2019 Standard x = rw (there (115 ∷ 115 ∷ 32 ∷ x) 1 (omega arith))
finds_head E2004 Old x = rw (there (115 ∷ 52 ∷ 32 ∷ x) 1 (omega arith), there (115 ∷ 52 ∷ 32 ∷ x) 2 (omega arith))
finds_head E2004 Standard x = rw (there (115 ∷ 52 ∷ 115 ∷ 32 ∷ x) 1 (omega arith), there (115 ∷ 52 ∷ 115 ∷ 32 ∷ x) 2 (omega arith))

-- a line has one head, and one rest behind it
pub head_once : (c c' : Choices) (x x' : List ℕ) → heading c.edition c.reading ++ 32 ∷ x ≡ heading c'.edition c'.reading ++ 32 ∷ x' → (c ≡ c') × (x ≡ x')
head_once c c' x x' e =
    let same : c ≡ c' = ap Head.choices (sym (finds_head c.edition c.reading x) ∙ ap head_of e ∙ finds_head c'.edition c'.reading x') in
    let h = heading c.edition c.reading in
    let behind = sym (drop-append_seam h (32 ∷ x)) ∙ ap (drop (length h)) (e ∙ ap (λ (d : Choices). heading d.edition d.reading ++ 32 ∷ x') (sym same)) ∙ drop-append_seam h (32 ∷ x') in
    (same, ap (drop 1) behind)

headed_by : (e : Edition) (r : Reading) (x : List ℕ) → Headed (heading e r ++ 32 ∷ x)
headed_by E2019 Old x = let h = finds_head E2019 Old x in record { long = rw h (omega arith); letter = refl; space = rw h }
headed_by E2019 Standard x = let h = finds_head E2019 Standard x in record { long = rw h (omega arith); letter = refl; space = rw h }
headed_by E2004 Old x = let h = finds_head E2004 Old x in record { long = rw h (omega arith); letter = refl; space = rw h }
headed_by E2004 Standard x = let h = finds_head E2004 Standard x in record { long = rw h (omega arith); letter = refl; space = rw h }

pub headed : (c : Choices) (x : List ℕ) → Headed (heading c.edition c.reading ++ 32 ∷ x)
headed c x = headed_by c.edition c.reading x

-- a byte that stands at a place
stands : (l : List ℕ) (at b : ℕ) → has l at b ≡ true → get_or l at 0 ≡ b
stands l at b e = eqb-true (get_or l at 0) b (both (ltb at (length l)) e)
  where
    both : (t : Bool) → and t (eqb (get_or l at 0) b) ≡ true → eqb (get_or l at 0) b ≡ true
    both true e = e
    both false e = let z : ◌≡◌ {A = ℕ} 0 1 = cc in absurd (omega arith)

next : (l : List ℕ) (at b : ℕ) → at < length l → get_or l at 0 ≡ b → drop at l ≡ b ∷ drop (suc at) l
next l at b h e = rw (drop-cons l at 0 h, e)

pub heads : (l : List ℕ) → Headed l → Heads (head_of l).choices (head_of l).from l
unfolding head_of head_from
heads l h = go (has l 1 52) (has l 2 115) (has l 1 115) (stands l 1 52) (stands l 2 115) (stands l 1 115) h.long h.space
  where
    go : (t u v : Bool) → (t ≡ true → get_or l 1 0 ≡ 52) → (u ≡ true → get_or l 2 0 ≡ 115) → (v ≡ true → get_or l 1 0 ≡ 115)
        → let h : Head = pick t (pick u (record { from = 4; choices = standard2004 }) (record { from = 3; choices = edition2004 })) (pick v (record { from = 3; choices = standard }) plain_head) in
        h.from ≤ length l → get_or l (h.from - 1) 0 ≡ 32 → Heads h.choices h.from l
    go true true v e f g long space = record {
      begins = next l 0 115 (omega arith) h.letter ∙ rw (next l 1 52 (omega arith) (e refl), next l 2 115 (omega arith) (f refl), next l 3 32 (omega arith) space);
      within = long;
    }
    go true false v e f g long space = record {
      begins = next l 0 115 (omega arith) h.letter ∙ rw (next l 1 52 (omega arith) (e refl), next l 2 32 (omega arith) space);
      within = long;
    }
    go false u true e f g long space = record {
      begins = next l 0 115 (omega arith) h.letter ∙ rw (next l 1 115 (omega arith) (g refl), next l 2 32 (omega arith) space);
      within = long;
    }
    go false u false e f g long space = record { begins = next l 0 115 (omega arith) h.letter ∙ rw (next l 1 32 (omega arith) space); within = long }
