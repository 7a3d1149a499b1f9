-- What is left out of a text, and from which places on nothing more can be.
use Prim.Native.Nat.{ℕ, zero, suc, ◌+◌, ◌-◌, ◌<◌, ◌≤◌}
use mathlib.Core.List.{List, [], ◌∷◌, ◌++◌}
use mathlib.Core.Bool.{Bool, true, false, not}
use mathlib.Core.Logic.{◌⊎◌, inl, inr}
use mathlib.Core.Path.{◌≡◌, refl}
use native.Mathlib.Omega.{arith}
use lib.ListN.{length, get_or, drop}
use lib.Seq.{get_or-drop}
use lib.Dec.{ltb, leb, eqb}
use borrow.Author.Tests.{ltb-true, ltb-false, leb-true, eqb-true, ne_eqb}
use Rattle.parser.specs.Reading.{or, and, pick}
use Rattle.parser.specs.Digits.{is_digit, digits, run_at}
use Rattle.parser.proofs.Fields.{and_first}
use Rattle.shortening.specs.Points.{is_point}
use Rattle.shortening.proofs.Cuts.{Cut}

-- the leading zeros of digit runs, or a fraction's digits past the tenth
pub data Family : Type 0 where
  zeros : Family
  fractions : Family

abbrev pub all_digits : List ℕ → Bool
all_digits [] = true
all_digits (b ∷ l) = and (is_digit b) (all_digits l)

-- no digit stands before this place
abbrev pub fresh : List ℕ → ℕ → Bool
fresh s zero = true
fresh s (suc n) = not (is_digit (get_or s n 0))

-- ---- what texts differ in that are read the same

-- a zero that no digit stands before, and the digit behind it, which stays
pub record ZeroCut : Type 0 where
  pub before : List ℕ
  pub digit : ℕ
  pub rest : List ℕ
  pub starts : fresh before (length before) ≡ true
  pub is : is_digit digit ≡ true

-- a comma or point, nine digits, and two more, for which one stands: it is 0 exactly where both are
pub record FractionCut : Type 0 where
  pub before : List ℕ
  pub point : ℕ
  pub nine : List ℕ
  pub tenth : ℕ
  pub next : ℕ
  pub one : ℕ
  pub rest : List ℕ
  pub points : is_point point ≡ true
  pub size : length nine ≡ 9
  pub digits : all_digits nine ≡ true
  pub first : is_digit tenth ≡ true
  pub second : is_digit next ≡ true
  pub either : is_digit one ≡ true
  pub zero : eqb one 48 ≡ and (eqb tenth 48) (eqb next 48)

abbrev pub Own : Family → Type 0
Own zeros = ZeroCut
Own fractions = FractionCut

abbrev pub own : (f : Family) → Own f → Cut
own zeros z = record { before = z.before; long = 48 ∷ z.digit ∷ []; short = z.digit ∷ []; rest = z.rest }
own fractions z = record { before = z.before; long = z.point ∷ (z.nine ++ z.tenth ∷ z.next ∷ []); short = z.point ∷ (z.nine ++ z.one ∷ []); rest = z.rest }

-- whatever stands behind a `/`, which no part of a side takes
pub record SlashCut : Type 0 where
  pub before : List ℕ
  pub long : List ℕ
  pub short : List ℕ
  pub rest : List ℕ

abbrev pub behind_slash : SlashCut → Cut
behind_slash z = record { before = z.before; long = 47 ∷ z.long; short = 47 ∷ z.short; rest = z.rest }

abbrev pub CutOf : Family → Type 0
CutOf f = Own f ⊎ SlashCut

abbrev pub cut : (f : Family) → CutOf f → Cut
cut f (inl z) = own f z
cut f (inr z) = behind_slash z

-- what stands first where a text is cut: by its family, or any way
abbrev pub mark : Family → ℕ → Bool
mark zeros b = is_digit b
mark fractions b = is_point b

abbrev pub apart : Family → ℕ → Bool
apart f b = or (eqb b 47) (mark f b)

-- a byte that does not stand there in either family
pub unmarked : (c : ℕ) → is_digit c ≡ false → is_point c ≡ false → (f : Family) → mark f c ≡ false
unmarked c d p zeros = d
unmarked c d p fractions = p

-- what holds of each such byte
pub by_point : (P : ℕ → Type 0) → P 44 → P 46 → (b : ℕ) → is_point b ≡ true → P b
by_point P comma point b h = go (eqb b 44) refl h
  where
    go : (t : Bool) → eqb b 44 ≡ t → or t (eqb b 46) ≡ true → P b
    go true e h = rw (eqb-true b 44 e) comma
    go false e h = rw (eqb-true b 46 h) point

pub by_apart : (P : ℕ → Type 0) → P 47 → P 44 → P 46 → (b : ℕ) → apart fractions b ≡ true → P b
by_apart P slash comma point b h = go (eqb b 47) refl h
  where
    go : (t : Bool) → eqb b 47 ≡ t → or t (is_point b) ≡ true → P b
    go true e h = rw (eqb-true b 47 e) slash
    go false e h = by_point P comma point b h

-- ---- from a place on, up to the next `/`

pub record Reaches (s : List ℕ) (from at : ℕ) : Type 0 where
  pub ahead : from ≤ at
  pub plain : (j : ℕ) → from ≤ j → j < at → eqb (get_or s j 0) 47 ≡ false

pub reaches_none : (s : List ℕ) (from : ℕ) → Reaches s from from
reaches_none s from = record { ahead = omega arith; plain = λ j lo hi. absurd (omega arith) }

-- so many bytes more, none of them a `/`
pub reaches_more : {s : List ℕ} {from at : ℕ} (n : ℕ) → Reaches s from at → ((j : ℕ) → j < n → eqb (get_or s (at + j) 0) 47 ≡ false) → Reaches s from (at + n)
reaches_more {s} {from} {at} n r h = record { ahead = omega (arith, r.ahead); plain = λ j lo hi. go j lo hi (ltb j at) refl }
  where
    go : (j : ℕ) → from ≤ j → j < at + n → (t : Bool) → ltb j at ≡ t → eqb (get_or s j 0) 47 ≡ false
    go j lo hi true e = r.plain j lo (ltb-true j at e)
    go j lo hi false e =
        let past = ltb-false j at e in
        let same : at + (j - at) ≡ j = omega arith in
        rw same at (h (j - at) (omega arith))

pub reaches_one : {s : List ℕ} {from at : ℕ} → Reaches s from at → eqb (get_or s at 0) 47 ≡ false → Reaches s from (at + 1)
reaches_one {s} {from} {at} r h = reaches_more 1 r (λ j lt. let same : at + j ≡ at = omega arith in rw same h)

pub digit_no_slash : (b : ℕ) → is_digit b ≡ true → eqb b 47 ≡ false
digit_no_slash b h = ne_eqb b 47 (λ e. omega (arith, leb-true 48 b (and_first (leb 48 b) (leb b 57) h)))

-- each byte of a run is a digit
pub run_digit : (l : List ℕ) (j : ℕ) → j < length (digits l) → is_digit (get_or l j 0) ≡ true
unfolding digits
run_digit [] j h = absurd (omega arith)
run_digit (b ∷ l) j h = go (is_digit b) refl j h (run_digit l)
  where
    go : (t : Bool) → is_digit b ≡ t → (j : ℕ) → j < length (pick t (b ∷ digits l) []) → ((j : ℕ) → j < length (digits l) → is_digit (get_or l j 0) ≡ true) → is_digit (get_or (b ∷ l) j 0) ≡ true
    go true e zero h ih = e
    go true e (suc j) h ih = ih j (omega arith)
    go false e j h ih = absurd (omega arith)

pub reaches_run : {s : List ℕ} {from at : ℕ} → Reaches s from at → Reaches s from (at + length (run_at s at))
reaches_run {s} {from} {at} r = reaches_more (length (run_at s at)) r (λ j lt. rw get_or-drop at (digit_no_slash (get_or (drop at s) j 0) (run_digit (drop at s) j lt)))

-- ---- from this place nothing more can be left out

abbrev pub Clean : Family → List ℕ → ℕ → Type 0
Clean zeros s at = fresh s at ≡ true → (b : ℕ) (d : List ℕ) → run_at s at ≡ 48 ∷ b ∷ d → ⊥
Clean fractions s at = is_point (get_or s at 0) ≡ true → length (run_at s (at + 1)) ≤ 10

abbrev pub Normal : Family → List ℕ → ℕ → Type 0
Normal f s from = (at : ℕ) → Reaches s from at → Clean f s at

-- where a part of a rule is tried
abbrev pub Proper : Family → List ℕ → ℕ → ℕ → Type 0
Proper zeros s from at = Reaches s from at × (fresh s at ≡ true)
Proper fractions s from at = Reaches s from at

pub proper_reaches : (f : Family) {s : List ℕ} {from at : ℕ} → Proper f s from at → Reaches s from at
proper_reaches zeros g = g.0
proper_reaches fractions g = g
