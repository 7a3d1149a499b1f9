-- What code passes on: a miss of a part is one of the whole, unless the part may be left out; and what is found is made into the whole's.
use Prim.Native.Nat.{ℕ}
use mathlib.Core.List.{List}
use mathlib.Core.Bool.{Bool, false}
use mathlib.Core.Option.{Option, some, none}
use mathlib.Core.Path.{◌≡◌, refl, sym}
use Rattle.std.specs.declared.result.Result.{Result}
use Rattle.std.specs.declared.result.Result.TheVariants.{Ok, Err}
use Rattle.std.specs.Prelude.{IsOkAnd, MatchResult}
use Rattle.std.specs.Result.{IsErrAnd}
use Rattle.types.specs.Numbers.{number_of}
use Rattle.parser.specs.Reading.{Found, no, got, stop, Reader, seq, opt, lack, verify, map, map_found, Says, SaysOn}
use Rattle.parser.specs.Read.{missed, cut, exact_found, exact_more, got_found, got_more, or_value}
use Rattle.parser.specs.declared.Miss.{Miss}
use Rattle.parser.specs.declared.Miss.TheVariants as miss
use Rattle.parser.specs.declared.Exact.{Exact}
use Rattle.parser.specs.declared.Got.{Got}
use Rattle.parser.proofs.Places.{no≢got, no≢stop, stop≢got}
use Rattle.parser.proofs.Says.{says_map, says_opt, says_verify, says_seq_no, says_seq_stop}

-- ---- what a `?` gives on

pub passed_exact : {A : Type 0} {p : Reader A} {s : List ℕ} {at : ℕ} (r : Result (Exact A) Miss) (m : Miss) → IsErrAnd r (λ y. y ≡ m) → Says p s at (missed m) (cut m) → Says p s at (exact_found r) (exact_more r)
passed_exact (Ok g) m e h = absurd e
passed_exact (Err y) m e h = rw e h

pub passed_got : {A : Type 0} {p : Reader A} {s : List ℕ} {at : ℕ} (r : Result (Got A) Miss) (m : Miss) → IsErrAnd r (λ y. y ≡ m) → Says p s at (missed m) (cut m) → Says p s at (got_found r) (got_more r)
passed_got (Ok g) m e h = absurd e
passed_got (Err y) m e h = rw e h

pub passed_on : {A : Type 0} {b : Bool} {p : Reader A} {s : List ℕ} {at : ℕ} (r : Result (Got A) Miss) (m : Miss) → IsErrAnd r (λ y. y ≡ m) → SaysOn b p s at (missed m) (cut m) → SaysOn b p s at (got_found r) (got_more r)
passed_on (Ok g) m e h = absurd e
passed_on (Err y) m e h = rw e h

-- ---- a part that is missed

pub missed_got : {A : Type 0} (m : Miss) {a : A} {n : ℕ} → missed m ≡ got a n → ⊥
missed_got miss.Wrong e = no≢got e
missed_got miss.Cut e = no≢got e
missed_got (miss.Stopped why) e = stop≢got e

-- the same, whatever kind of value was looked for
missed_stop : {A B : Type 0} (m : Miss) (r : ℕ) → missed {A = A} m ≡ stop r → missed {A = B} m ≡ stop r
missed_stop miss.Wrong r e = absurd (no≢stop e)
missed_stop miss.Cut r e = absurd (no≢stop e)
missed_stop {A} {B} (miss.Stopped why) r e = let d : number_of why ≡ r = cc in cc

pub missed_no : {A B : Type 0} (m : Miss) → missed {A = A} m ≡ no → missed {A = B} m ≡ no
missed_no (miss.Stopped r) e = absurd (no≢stop (sym e))
missed_no miss.Wrong e = refl
missed_no miss.Cut e = refl

-- where the reading is stopped nothing is open
pub stopped_settled : {A : Type 0} (r : Result (Got A) Miss) (q : ℕ) → got_found r ≡ stop q → got_more r ≡ false
stopped_settled (Ok g) q e = absurd (stop≢got (sym e))
stopped_settled (Err (miss.Stopped r)) q e = refl
stopped_settled (Err miss.Wrong) q e = refl
stopped_settled (Err miss.Cut) q e = absurd (no≢stop e)

module _ {A : Type 0} (p : Reader A) (s : List ℕ) (at : ℕ) where
  pub says_map_missed : {B : Type 0} (g : A → B) (m : Miss) → Says p s at (missed m) (cut m) → Says (map g p) s at (missed m) (cut m)
  says_map_missed g miss.Wrong h = says_map p s at g _ _ h
  says_map_missed g miss.Cut h = says_map p s at g _ _ h
  says_map_missed g (miss.Stopped why) h = says_map p s at g _ _ h

  pub says_verify_missed : (t : A → Bool) (m : Miss) → Says p s at (missed m) (cut m) → Says (verify t p) s at (missed m) (cut m)
  says_verify_missed t miss.Wrong h = says_verify p s at t _ _ h
  says_verify_missed t miss.Cut h = says_verify p s at t _ _ h
  says_verify_missed t (miss.Stopped why) h = says_verify p s at t _ _ h

  pub says_seq_missed : {B : Type 0} (q : A → Reader B) (m : Miss) → Says p s at (missed m) (cut m) → Says (seq p q) s at (missed m) (cut m)
  says_seq_missed q miss.Wrong h = says_seq_no p s at q _ h
  says_seq_missed q miss.Cut h = says_seq_no p s at q _ h
  says_seq_missed q (miss.Stopped why) h = says_seq_stop p s at q _ _ h

  -- ---- what is found, and is made into another value

  pub says_made : {B : Type 0} {R : Got A → Got B → Type 0} (f : A → B) (r : Result (Got A) Miss) (q : Result (Got B) Miss) → ((x : Got A) (y : Got B) → R x y → (y.value ≡ f x.value) × (y.next ≡ x.next) × (y.more ≡ x.more)) → MatchResult r (λ x. IsOkAnd q (R x)) (λ e. q ≡ Err e) → Says p s at (got_found r) (got_more r) → Says (map f p) s at (got_found q) (got_more q)
  says_made f (Ok x) (Ok y) make e h = let k = make x y e in rw (k.0, k.1, k.2) (says_map p s at f _ _ h)
  says_made f (Ok x) (Err n) make e h = absurd e
  says_made f (Err m) q make e h = rw e (says_map_missed f m h)

  -- ---- a part that may be left out, with what stands for it then

  module _ (absent : A) (f : Found A) (l : Bool) (h : Says p s at f l) where
    -- only what stops the reading is still missed
    pub says_opt_missed : (m : Miss) → missed m ≡ map_found (or_value absent) (lack at f) → cut m ≡ l → Says (opt p) s at (missed m) (cut m)
    says_opt_missed m e d = rw (d, go f e) (says_opt p s at f l h)
      where
        go : (f : Found A) → missed m ≡ map_found (or_value absent) (lack at f) → missed m ≡ lack at f
        go no e = absurd (missed_got m e)
        go (stop r) e = missed_stop m r e
        go (got a n) e = absurd (missed_got m e)

    -- it is there, or nothing is
    pub record Taken (a : A) (n : ℕ) (m : Bool) : Type 0 where
      pub item : Option A
      pub value : or_value absent item ≡ a
      pub says : Says (opt p) s at (got item n) m

    pub says_opt_got : (a : A) (n : ℕ) (m : Bool) → got a n ≡ map_found (or_value absent) (lack at f) → m ≡ l → Taken a n m
    says_opt_got a n m e d = go f e (says_opt p s at f l h)
      where
        go : (f : Found A) → got a n ≡ map_found (or_value absent) (lack at f) → Says (opt p) s at (lack at f) l → Taken a n m
        go no e h = let i : absent ≡ a = cc in let k : at ≡ n = cc in record { item = none; value = i; says = rw (d, ← k) h }
        go (stop r) e h = absurd (stop≢got (sym e))
        go (got b k) e h = let i : b ≡ a = cc in let j : k ≡ n = cc in record { item = some b; value = i; says = rw (d, ← j) h }
