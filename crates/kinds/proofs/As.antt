-- What a reader of one kind promises is what the reader of any kind has to promise: a record is told from another as it was before it was
-- put among the records of any kind.
use Prim.Native.Nat.{ℕ}
use mathlib.Core.List.{List, ◌++◌}
use mathlib.Core.Bool.{Bool, true, false}
use mathlib.Core.Option.{Option, some, none}
use mathlib.Core.Path.{◌≡◌, refl, sym, ap, ◌∙◌}
use native.Mathlib.Omega.{arith}
use Rattle.std.specs.Prelude.{Result}
use Rattle.std.specs.declared.result.Result.TheVariants.{Ok, Err}
use lib.Dec.{ltb}
use lib.ListN.{length}
use Rattle.types.specs.declared.Verdict.{Verdict}
use Rattle.types.specs.declared.Verdict.TheVariants.{Settled, Open}
use Rattle.parser.specs.Reading.{Found, no, got, stop, Reader, map, map_found, pick}
use Rattle.parser.specs.Answer.{Told, recorded, refused, begun, ended, rest_of, Judged, Begins, Ended, Rest}
use Rattle.parser.specs.Told.{told}
use Rattle.parser.specs.declared.answer.Counted.{Counted}
use Rattle.parser.specs.declared.answer.Refused.{Refused}
use Rattle.parser.specs.declared.answer.Read.{Read}
use Rattle.kinds.specs.Kinds.{SameBy}

abbrev pub some_as : {A B : Type 0} → (A → B) → Option A → Option B
some_as f none = none
some_as f (some a) = some (f a)

-- what is told of one kind's record, told of a record of any kind
abbrev pub told_as : {A B : Type 0} → (A → B) → Told A → Told B
told_as f t = record { number = t.number; value = some_as f t.value; count = t.count }

-- different values stay different
abbrev pub Injective : {A B : Type 0} → (A → B) → Type 0
Injective {A} f = (a b : A) → f a ≡ f b → a ≡ b

module _ {A B : Type 0} (f : A → B) where
  begun_as : (x : Found A) → begun (map_found f x) ≡ told_as f (begun x)
  begun_as no = refl
  begun_as (got a n) = refl
  begun_as (stop r) = refl

  pub ended_as : (all : ℕ) (x : Found A) → ended all (map_found f x) ≡ told_as f (ended all x)
  ended_as all no = refl
  ended_as all (stop r) = refl
  ended_as all (got a n) = go (ltb n all)
    where
      go : (t : Bool) → pick t (refused 3 n) (recorded (f a) n) ≡ told_as f (pick t (refused 3 n) (recorded a n))
      go true = refl
      go false = refl

  rest_as : (s : List ℕ) (x : Found A) → rest_of s (map_found f x) ≡ rest_of s x
  rest_as s no = refl
  rest_as s (got a n) = refl
  rest_as s (stop r) = refl

  module _ (once : Injective f) where
    some_once : (v w : Option A) → some_as f v ≡ some_as f w → v ≡ w
    some_once none none e = refl
    some_once (some a) (some b) e = ap some (once a b (cc))
    some_once none (some b) e = let z : ◌≡◌ {A = ℕ} 0 1 = cc in absurd (omega arith)
    some_once (some a) none e = let z : ◌≡◌ {A = ℕ} 0 1 = cc in absurd (omega arith)

    told_once : (t u : Told A) → told_as f t ≡ told_as f u → t ≡ u
    told_once t u e =
        let v : t.value ≡ u.value = some_once t.value u.value (ap Told.value e) in
        let c : t.count ≡ u.count = ap Told.count e in
        ap (λ (n : ℕ). record { number = n; value = t.value; count = t.count }) (ap Told.number e) ∙ rw (v, c)

-- the same answer tells the same
pub told_same : {A B : Type 0} (f : A → B) (a : Result (Counted A) Refused) (b : Result (Counted B) Refused) → SameBy (λ v w. w ≡ f v) a b → told b ≡ told_as f (told a)
told_same f (Ok r) (Ok q) e = rw (e.0, e.1)
told_same f (Ok r) (Err e) h = absurd h
told_same f (Err e) (Ok q) h = absurd h
told_same f (Err e) (Err d) h = rw h

module _ {A B : Type 0} (f : A → B) (once : Injective f) (k : ℕ) (p : Reader A) (s : List ℕ) where
  judged_as : (v : Verdict) → Judged k p s v → Judged k (map f p) s v
  unfolding map
  judged_as Settled same = λ x. begun_as f (p.reads (s ++ x) 0) ∙ ap (told_as f) (same x) ∙ sym (begun_as f (p.reads s 0))
  judged_as Open other = (
    other.0,
    (other.1.0, λ e. other.1.1 (told_once f once _ _ (sym (begun_as f (p.reads (s ++ other.0) 0)) ∙ e ∙ begun_as f (p.reads s 0)))),
  )

  pub begins_as : (a : Read A) (b : Read B) → SameBy (λ v w. w ≡ f v) a.answer b.answer → b.verdict ≡ a.verdict → Begins k p s (told a.answer) a.verdict → Begins k (map f p) s (told b.answer) b.verdict
  unfolding map
  begins_as a b e v h = record {
    answer = told_same f a.answer b.answer e ∙ ap (told_as f) h.answer ∙ sym (begun_as f (p.reads s 0));
    verdict = rw v (judged_as a.verdict h.verdict);
  }

module _ {A B : Type 0} (f : A → B) (p : Reader A) (s : List ℕ) where
  pub ends_as : {t : Told A} {u : Told B} → u ≡ told_as f t → Ended p s t → Ended (map f p) s u
  unfolding map
  ends_as e h = e ∙ ap (told_as f) h ∙ sym (ended_as f (length s) (p.reads s 0))

  pub leaves_as : {r : List ℕ} → Rest p s r → Rest (map f p) s r
  unfolding map
  leaves_as h = h ∙ sym (rest_as f s (p.reads s 0))
