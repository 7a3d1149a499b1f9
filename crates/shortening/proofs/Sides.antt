-- The sides of a text: each begins at its start or behind a `/`, and goes by its first byte.
use Prim.Native.Nat.{ℕ, zero, suc, ◌<◌, ◌≤◌}
use mathlib.Core.List.{List, [], ◌∷◌, ◌++◌}
use mathlib.Core.Bool.{Bool, true, false}
use mathlib.Core.Option.{Option, some, none}
use mathlib.Core.Logic.{◌⊎◌, inl, inr}
use mathlib.Core.Path.{◌≡◌, refl, sym, ap, ◌∙◌}
use native.Mathlib.Nat.{add-zero}
use native.Mathlib.Omega.{arith}
use lib.ListN.{length, get_or, take, drop, take-append-drop, get_or-eq_default}
use lib.Seq.{take-suc, get_or-drop}
use lib.Dec.{ltb, eqb}
use borrow.Author.Tests.{ltb-true, ltb-false, eqb-true}
use Rattle.parser.specs.Reading.{pick, or, and}
use Rattle.parser.specs.Digits.{is_digit, run_at}
use Rattle.parser.proofs.Fields.{true≢false}
use Rattle.parser.proofs.Runs.{run_end}
use Rattle.shortening.specs.Sides.{starts_zeros}
use Rattle.shortening.proofs.Families.{Family, zeros, fractions, run_digit, Reaches, Clean, Normal}

abbrev pub opens : ℕ → Family
opens b = pick (starts_zeros b) zeros fractions

-- what holds of each of the two bytes that say so
pub by_start : (P : ℕ → Type 0) → P 80 → P 82 → (b : ℕ) → starts_zeros b ≡ true → P b
by_start P duration repeat b h = go (eqb b 80) refl h
  where
    go : (t : Bool) → eqb b 80 ≡ t → or t (eqb b 82) ≡ true → P b
    go true e h = rw (eqb-true b 80 e) duration
    go false e h = rw (eqb-true b 82 h) repeat

-- what the bytes so far say of the side that they end in: nothing where it begins. Where there are no sides it stays as it is.
abbrev pub or_opens : Option Family → ℕ → Family
or_opens none b = opens b
or_opens (some f) b = f

abbrev pub next_side : Bool → Option Family → ℕ → Option Family
next_side sides o b = pick (and sides (eqb b 47)) none (some (or_opens o b))

unfoldable pub side_from : Bool → Option Family → List ℕ → Option Family
side_from sides o [] = o
side_from sides o (b ∷ u) = side_from sides (next_side sides o b) u

abbrev pub family_in : Option Family → Family
family_in none = fractions
family_in (some f) = f

pub zeros≢fractions : zeros ≡ fractions → ⊥
zeros≢fractions e = let z : ◌≡◌ {A = ℕ} 0 1 = cc in omega arith

pub side_append : (sides : Bool) (t u : List ℕ) (o : Option Family) → side_from sides o (t ++ u) ≡ side_from sides (side_from sides o t) u
unfolding side_from
side_append sides [] u o = refl
side_append sides (b ∷ t) u o = side_append sides t u (next_side sides o b)

pub one_family : (f : Family) (u : List ℕ) → side_from false (some f) u ≡ some f
unfolding side_from
one_family f [] = refl
one_family f (b ∷ u) = one_family f u

-- ---- where a side begins

abbrev pub begins : List ℕ → ℕ → Bool
begins s zero = true
begins s (suc n) = eqb (get_or s n 0) 47

-- a byte that is not 0 stands within
pub inside : (s : List ℕ) (n c : ℕ) → get_or s n 0 ≡ suc c → n < length s
inside s n c e = go (ltb n (length s)) refl
  where
    go : (t : Bool) → ltb n (length s) ≡ t → n < length s
    go true i = ltb-true n (length s) i
    go false i = absurd (omega (arith, sym e ∙ get_or-eq_default s 0 (ltb-false n (length s) i)))

pub side_begins : (s : List ℕ) (n : ℕ) → begins s n ≡ true → side_from true none (take n s) ≡ none
unfolding side_from
side_begins s zero h = refl
side_begins s (suc n) h =
    let slash : get_or s n 0 ≡ 47 = eqb-true (get_or s n 0) 47 h in
    ap (side_from true none) (take-suc s n 0 (inside s n 46 slash)) ∙ side_append true (take n s) (get_or s n 0 ∷ []) none ∙ rw slash

-- ---- a side that leading zeros are left out of: a `/` stands in the rest of the text, or it begins with `P` or `R`

pub record Slash (t : List ℕ) : Type 0 where
  pub before : List ℕ
  pub after : List ℕ
  pub is : t ≡ before ++ 47 ∷ after

pub record ZeroStart (t : List ℕ) : Type 0 where
  pub byte : ℕ
  pub after : List ℕ
  pub is : t ≡ byte ∷ after
  pub starts : starts_zeros byte ≡ true

stays : (f : Family) (t : List ℕ) → Slash t ⊎ (side_from true (some f) t ≡ some f)
unfolding side_from
stays f [] = inr refl
stays f (b ∷ t) = go (eqb b 47) refl (stays f t)
  where
    go : (u : Bool) → eqb b 47 ≡ u → Slash t ⊎ (side_from true (some f) t ≡ some f) → Slash (b ∷ t) ⊎ (side_from true (pick u none (some f)) t ≡ some f)
    go true e x = inl (record { before = []; after = t; is = ap (λ (c : ℕ). c ∷ t) (eqb-true b 47 e) })
    go false e (inl x) = inl (record { before = b ∷ x.before; after = x.after; is = ap (λ (l : List ℕ). b ∷ l) x.is })
    go false e (inr x) = inr x

pub zero_side : (t : List ℕ) → family_in (side_from true none t) ≡ zeros → Slash t ⊎ ZeroStart t
unfolding side_from
zero_side [] h = absurd (zeros≢fractions (sym h))
zero_side (b ∷ t) h = go (eqb b 47) refl h
  where
    start : (u : Bool) → starts_zeros b ≡ u → pick u zeros fractions ≡ zeros → ZeroStart (b ∷ t)
    start true e h = record { byte = b; after = t; is = refl; starts = e }
    start false e h = absurd (zeros≢fractions (sym h))

    on : Slash t ⊎ (side_from true (some (opens b)) t ≡ some (opens b)) → family_in (side_from true (some (opens b)) t) ≡ zeros → Slash (b ∷ t) ⊎ ZeroStart (b ∷ t)
    on (inl x) h = inl (record { before = b ∷ x.before; after = x.after; is = ap (λ (l : List ℕ). b ∷ l) x.is })
    on (inr x) h = inr (start (starts_zeros b) refl (rw x at h))

    go : (u : Bool) → eqb b 47 ≡ u → family_in (side_from true (pick u none (some (opens b))) t) ≡ zeros → Slash (b ∷ t) ⊎ ZeroStart (b ∷ t)
    go true e h = inl (record { before = []; after = t; is = ap (λ (c : ℕ). c ∷ t) (eqb-true b 47 e) })
    go false e h = on (stays (opens b) t) h

-- from where a side begins in it
pub zero_side_from : (u : List ℕ) (n : ℕ) → begins u n ≡ true → family_in (side_from true none u) ≡ zeros → Slash (drop n u) ⊎ ZeroStart (drop n u)
zero_side_from u n b h =
    let split : side_from true none u ≡ side_from true none (drop n u) = ap (side_from true none) (sym (take-append-drop n u)) ∙ side_append true (take n u) (drop n u) none ∙ rw (side_begins u n b) in
    zero_side (drop n u) (rw split at h)

-- ---- behind its first byte a side goes by that

reached : (s : List ℕ) (from at : ℕ) → begins s from ≡ true → Reaches s from at → from < at → at ≤ length s → side_from true none (take at s) ≡ some (opens (get_or s from 0))
unfolding side_from
reached s from zero b r lt le = absurd (omega arith)
reached s from (suc n) b r lt le = ap (side_from true none) (take-suc s n 0 (omega arith)) ∙ side_append true (take n s) (get_or s n 0 ∷ []) none ∙ rw (r.plain n (omega arith) (omega arith)) (go (ltb from n) refl (λ q l. reached s from n b q l (omega arith)))
  where
    go : (t : Bool) → ltb from n ≡ t → (Reaches s from n → from < n → side_from true none (take n s) ≡ some (opens (get_or s from 0))) → some (or_opens (side_from true none (take n s)) (get_or s n 0)) ≡ some (opens (get_or s from 0))
    go true e ih = rw (ih (record { ahead = omega (arith, ltb-true from n e); plain = λ j lo hi. r.plain j lo (omega arith) }) (ltb-true from n e))
    go false e ih = let here : n ≡ from = omega (arith, ltb-false from n e) in rw (here, side_begins s from b)

-- ---- a text of which nothing more can be left out, in each of its sides

abbrev pub Tidied : Bool → Option Family → List ℕ → Type 0
Tidied sides o s = (f : Family) (at : ℕ) → family_in (side_from sides o (take at s)) ≡ f → Clean f s at

-- past the end nothing is
clean_end : (f : Family) (s : List ℕ) (at : ℕ) → length s ≤ at → Clean f s at
clean_end zeros s at h = λ g b d e. let l = ap length (sym e ∙ run_end s at h) in absurd (omega arith)
clean_end fractions s at h = λ p. absurd (true≢false (sym p ∙ rw (get_or-eq_default s 0 h)))

pub tidied_side : (s : List ℕ) → Tidied true none s → (from : ℕ) → begins s from ≡ true → Normal (opens (get_or s from 0)) s from
tidied_side s h from b at r = go (ltb at (length s)) refl (ltb from at) refl
  where
    first : (t : Bool) → starts_zeros (get_or s from 0) ≡ t → Clean (pick t zeros fractions) s from
    first true e = λ g c d i. let some : 0 < length (run_at s from) = omega (arith, ap length i) in true≢false (sym (rw get_or-drop at (run_digit (drop from s) 0 some)) ∙ rw add-zero (by_start (λ b. is_digit b ≡ false) refl refl (get_or s from 0) e))
    first false e = h fractions from (rw (side_begins s from b))

    go : (t : Bool) → ltb at (length s) ≡ t → (u : Bool) → ltb from at ≡ u → Clean (opens (get_or s from 0)) s at
    go false e u g = clean_end (opens (get_or s from 0)) s at (ltb-false at (length s) e)
    go true e true g = h (opens (get_or s from 0)) at (rw (reached s from at b r (ltb-true from at g) (omega (arith, ltb-true at (length s) e))))
    go true e false g = let here : at ≡ from = omega (arith, ltb-false from at g, r.ahead) in rw here (first (starts_zeros (get_or s from 0)) refl)

-- where there are no sides
pub tidied_all : (f : Family) (s : List ℕ) → Tidied false (some f) s → Normal f s 0
tidied_all f s h at r = h f at (rw (one_family f (take at s)))
