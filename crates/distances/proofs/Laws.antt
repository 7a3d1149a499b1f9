-- A line asks at most one question, what is said of it is not long, and what is said of a line's first bytes is said of the line.
use Prim.Native.Nat.{ℕ, suc, ◌≤◌, ◌<◌}
use mathlib.Core.List.{List, [], ◌∷◌, ◌++◌}
use mathlib.Core.Logic.{inl, inr}
use mathlib.Core.Path.{◌≡◌, sym, ◌∙◌}
use native.Mathlib.Omega.{arith}
use lib.IntN.{ℤ, pos, negsuc}
use lib.ListN.{length, take, length-append}
use Rattle.std.specs.declared.result.Result.{Result}
use Rattle.std.specs.declared.result.Result.TheVariants.{Ok, Err}
use Rattle.types.specs.declared.Choices.{Choices}
use Rattle.types.specs.declared.Edition.{Edition}
use Rattle.types.specs.declared.Edition.TheVariants.{E2004, E2019}
use Rattle.types.specs.declared.Reading.{Reading}
use Rattle.types.specs.declared.Reading.TheVariants.{Old, Standard}
use Rattle.moments.specs.declared.Apart.{Apart}
use Rattle.moments.specs.declared.Faulty.{Faulty}
use Rattle.moments.specs.declared.Faulty.TheVariants.{First, Second}
use Rattle.moments.specs.Moments.{fault_number}
use Rattle.text.proofs.Decimals.{digits_short}
use Rattle.words.specs.Words.{letters_of}
use Rattle.reply.proofs.Asked.{clip_alike}
use Rattle.distances.specs.Distances.{heading, Asks, AsksNothing, signed, apart_text, Away, AwayLine}
use Rattle.distances.proofs.Parts.{parted_once}
use Rattle.distances.proofs.Heads.{head_once}

pub asks_once : (l : List ℕ) (c c' : Choices) (s s' t t' : List ℕ) → Asks c s t l → Asks c' s' t' l → (c ≡ c') × ((s ≡ s') × (t ≡ t'))
asks_once l c c' s s' t t' a b =
    let head = head_once c c' (s ++ 32 ∷ t) (s' ++ 32 ∷ t') (sym a.form ∙ b.form) in
    (head.0, parted_once 32 s s' t t' a.first.free b.first.free head.1)

-- ---- lengths

signed_short : (z : ℤ) → length (signed z) ≤ 21
signed_short (pos n) = omega (arith, digits_short 20 n)
signed_short (negsuc n) = omega (arith, digits_short 20 (suc n))

apart_short : (r : Result Apart Faulty) → length (apart_text r) ≤ 42
apart_short (Ok d) = simp length-append (omega (arith, signed_short d.seconds, digits_short 20 d.nanoseconds))
apart_short (Err (First f)) = simp length-append (omega (arith, digits_short 20 (fault_number f)))
apart_short (Err (Second f)) = simp length-append (omega (arith, digits_short 20 (fault_number f)))

away_short : (l t : List ℕ) → Away l t → length t ≤ 42
unfolding letters_of
away_short l t (inl a) = rw a.says (apart_short a.apart)
away_short l t (inr a) = rw a.1 (omega arith)

pub line_short : (l t : List ℕ) → AwayLine l t → length t ≤ 43
line_short l t a = rw (a.ends, length-append a.said (10 ∷ [])) (omega (arith, away_short l a.said a.away))

heading_short : (e : Edition) (r : Reading) → length (heading e r) ≤ 3
heading_short E2019 Old = omega arith
heading_short E2019 Standard = omega arith
heading_short E2004 Old = omega arith
heading_short E2004 Standard = omega arith

-- three bytes, two texts of 200 and two spaces
asks_short : (c : Choices) (s t l : List ℕ) → Asks c s t l → length l ≤ 405
asks_short c s t l a =
    rw a.form (simp length-append (omega (arith, heading_short c.edition c.reading, a.first.short, a.second.short)))

long_asks_nothing : (l : List ℕ) → 405 < length l → AsksNothing l
long_asks_nothing l h c s t a = omega (arith, asks_short c s t l a)

-- what is said of the first 406 bytes of a line, or more of them, is said of the line
pub line_clip : (limit : ℕ) (l t : List ℕ) → 406 ≤ limit → AwayLine (take limit l) t → AwayLine l t
line_clip limit l t h = clip_alike (λ m. AwayLine m t) 405 limit h alike l
  where
    still : (m u x : List ℕ) → 405 < length m → 405 < length u → Away m x → Away u x
    still m u x i j (inl a) = absurd (long_asks_nothing m i a.choices a.first a.second a.asks)
    still m u x i j (inr a) = inr (long_asks_nothing u j, a.1)

    alike : (m u : List ℕ) → 405 < length m → 405 < length u → AwayLine m t → AwayLine u t
    alike m u i j a = record { said = a.said; away = still m u a.said i j a.away; ends = a.ends }
