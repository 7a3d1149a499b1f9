-- The two verdicts of a reader that is stable and hopeful and ends within its input, and that no two answers meet one promise.
use Prim.Native.Nat.{ℕ, ◌≤◌}
use mathlib.Core.List.{List, ◌∷◌, ◌++◌}
use mathlib.Core.Bool.{Bool, true, false}
use mathlib.Core.Option.{some, none}
use mathlib.Core.Path.{◌≡◌, refl, sym, ap, ◌∙◌}
use mathlib.Core.Logic.{inl, inr}
use native.Mathlib.Omega.{arith}
use lib.Dec.{ltb}
use borrow.Author.Tests.{ltb-false}
use lib.ListN.{length, length-append}
use Rattle.types.specs.declared.Verdict.{Verdict}
use Rattle.types.specs.declared.Verdict.TheVariants.{Settled, Open}
use Rattle.parser.specs.Reading.{Found, no, got, stop, Reader, Says, pick}
use Rattle.parser.specs.Answer.{Told, recorded, refused, begun, ended, to_whole, Judged, Begins, verdict_of}
use Rattle.parser.proofs.Stable.{Stable}
use Rattle.parser.proofs.Places.{Bounded}
use Rattle.parser.proofs.Hopeful.{HopefulOr, Changes, Less}

-- the count of an answer lies within the input
count_within : {A : Type 0} (p : Reader A) → Bounded p → (s : List ℕ) → (begun (p.reads s 0)).count ≤ length s
count_within {A} p bp s = go (p.reads s 0) refl
  where
    go : (f : Found A) → p.reads s 0 ≡ f → (begun f).count ≤ length s
    go no e = omega arith
    go (stop r) e = omega arith
    go (got a n) e = bp s 0 (omega arith) a n e

pub settled : {A : Type 0} (k : ℕ) (p : Reader A) → Stable p → (s : List ℕ) → p.more s 0 ≡ false → Judged k p s Settled
settled k p sp s h x = ap begun (sp s x 0 h).reads

pub recorded_or_refused : {A : Type 0} {a : A} {m n r : ℕ} → recorded a m ≡ refused r n → ⊥
recorded_or_refused {A} e = never (ap (λ (t : Told A). t.value) e)
  where
    never : {a : A} → some a ≡ none → ⊥
    never e = let z : ◌≡◌ {A = ℕ} 0 1 = cc in omega arith

pub open_within : {W : Type 0} {A : Type 0} (k : ℕ) (F : A → Type 0) (p : Reader A) → Bounded p → HopefulOr W k F p → (s : List ℕ) → p.more s 0 ≡ true → Judged k p s Open
open_within {W} {A} k F p bp hp s h = go (hp s 0 (omega arith) h)
  where
    go : Changes W k F p s 0 → Judged k p s Open
    go (inl e) =
        let x = e.first ∷ e.rest in
        let all : (begun (p.reads (s ++ x) 0)).count ≡ length (s ++ x) = ap (λ (f : Found A). (begun f).count) e.reads in
        (x, (e.few, λ same. let c = ap (λ (t : Told A). t.count) same in omega (arith, all, count_within p bp s, length-append s x)))
    go (inr (w, e)) = (e.more, (e.few, λ same. shorter (p.reads (s ++ e.more) 0) e.less (rw e.now at same)))
      where
        shorter : (f : Found A) → Less f e.place → begun f ≡ recorded e.value e.place → ⊥
        shorter no l same = recorded_or_refused (sym same)
        shorter (stop r) l same = recorded_or_refused (sym same)
        shorter (got a m) l same = let c = ap (λ (t : Told A). t.count) same in omega (arith, l)

-- what code says of a reader is what it has to promise
pub says_begins : {W : Type 0} {A : Type 0} (k : ℕ) (F : A → Type 0) (p : Reader A) → Stable p → Bounded p → HopefulOr W k F p → (s : List ℕ) (f : Found A) (m : Bool) → Says p s 0 f m → Begins k p s (begun f) (verdict_of m)
says_begins k F p sp bp hp s f true h = record { answer = ap begun h.found; verdict = open_within k F p bp hp s (sym h.more) }
says_begins k F p sp bp hp s f false h = record { answer = ap begun h.found; verdict = settled k p sp s (sym h.more) }

-- an input has one verdict, and so the promise one answer
one_verdict : {A : Type 0} (k : ℕ) (p : Reader A) (s : List ℕ) (v w : Verdict) → Judged k p s v → Judged k p s w → v ≡ w
one_verdict k p s Settled Settled a b = refl
one_verdict k p s Settled Open a b = absurd (b.1.1 (a b.0))
one_verdict k p s Open Settled a b = absurd (a.1.1 (b a.0))
one_verdict k p s Open Open a b = refl

pub begins_once : {A : Type 0} (k : ℕ) (p : Reader A) (s : List ℕ) (t u : Told A) (v w : Verdict) → Begins k p s t v → Begins k p s u w → (t ≡ u) × (v ≡ w)
begins_once k p s t u v w a b = (a.answer ∙ sym b.answer, one_verdict k p s v w a.verdict b.verdict)

-- what is told has its number, record and count
pub recorded_once : {A : Type 0} {a b : A} {m n : ℕ} → recorded a m ≡ recorded b n → (a ≡ b) × (m ≡ n)
recorded_once {A} e = (some_once (ap (λ (t : Told A). t.value) e), ap (λ (t : Told A). t.count) e)
  where
    some_once : {a b : A} → some a ≡ some b → a ≡ b
    some_once e = cc

pub refused_once : {A : Type 0} (q r m n : ℕ) → refused {A = A} q m ≡ refused r n → (q ≡ r) × (m ≡ n)
refused_once {A} q r m n e = (ap (λ (t : Told A). t.number) e, ap (λ (t : Told A). t.count) e)

-- a record that is told was found, by a beginning reader and by a whole one
pub begun_got : {A : Type 0} (f : Found A) (a : A) (n : ℕ) → begun f ≡ recorded a n → f ≡ got a n
begun_got no a n e = absurd (recorded_or_refused (sym e))
begun_got (stop r) a n e = absurd (recorded_or_refused (sym e))
begun_got (got b m) a n e = let x = recorded_once e in rw (x.0, x.1)

pub ended_got : {A : Type 0} (all : ℕ) (f : Found A) (a : A) (n : ℕ) → ended all f ≡ recorded a n → f ≡ got a n
ended_got all no a n e = absurd (recorded_or_refused (sym e))
ended_got all (stop r) a n e = absurd (recorded_or_refused (sym e))
ended_got all (got b m) a n e = go (ltb m all) e
  where
    go : (t : Bool) → pick t (refused 3 m) (recorded b m) ≡ recorded a n → got b m ≡ got a n
    go true e = absurd (recorded_or_refused (sym e))
    go false e = begun_got (got b m) a n e

-- and the whole one's takes all bytes
pub ended_all : {A : Type 0} (all : ℕ) (f : Found A) (a : A) (n : ℕ) → ended all f ≡ recorded a n → all ≤ n
ended_all all no a n e = absurd (recorded_or_refused (sym e))
ended_all all (stop r) a n e = absurd (recorded_or_refused (sym e))
ended_all all (got b m) a n e = go (ltb m all) refl e
  where
    go : (t : Bool) → ltb m all ≡ t → pick t (refused 3 m) (recorded b m) ≡ recorded a n → all ≤ n
    go true h e = absurd (recorded_or_refused (sym e))
    go false h e = omega (arith, ltb-false m all h, (recorded_once e).1)

-- what the beginning reader tells, and the number of all bytes, tell what the whole reader does
pub ended_whole : {A : Type 0} (all : ℕ) (f : Found A) → ended all f ≡ to_whole all (begun f)
ended_whole all no = refl
ended_whole all (got a n) = refl
ended_whole all (stop r) = refl
