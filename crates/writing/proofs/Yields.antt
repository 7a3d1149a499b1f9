-- What every value has that a reader finds, from whatever bytes: one law for each combinator.
use Prim.Native.Nat.{ℕ, ◌≤◌}
use mathlib.Core.List.{List}
use mathlib.Core.Bool.{Bool, true, false}
use mathlib.Core.Option.{Option, some, none}
use mathlib.Core.Path.{◌≡◌, refl, ap, ◌∙◌}
use mathlib.Core.Logic.{◌⊎◌, inl, inr}
use native.Mathlib.Omega.{arith}
use borrow.Author.Tests.{leb-true}
use lib.ListN.{drop}
use Rattle.parser.specs.Reading.{Found, no, got, stop, Reader, then, lack, or_else, keep, keep_or_stop, map_found, lit, seq, opt, alt, verify, must, map, give, pick}
use Rattle.parser.specs.Digits.{field, digits, number, at_most, limit, run_as, run}
use Rattle.parser.specs.Fields.{preceded_by, or_zero}
use Rattle.parser.proofs.Places.{no≢got, stop≢got, got_value, got_place, run_found_lem}
use Rattle.parser.proofs.Leaves.{From, field_within}

-- ---- what was found, by what its parts found

pub record SeqFound {A B : Type 0} (p : Reader A) (q : A → Reader B) (s : List ℕ) (at : ℕ) (b : B) (n : ℕ) : Type 0 where
  pub value : A
  pub place : ℕ
  pub first : p.reads s at ≡ got value place
  pub rest : (q value).reads s place ≡ got b n

pub seq_found : {A B : Type 0} (p : Reader A) (q : A → Reader B) (s : List ℕ) (at : ℕ) (b : B) (n : ℕ) → (seq p q).reads s at ≡ got b n → SeqFound p q s at b n
unfolding seq
seq_found {A} p q s at b n e = go (p.reads s at) refl e
  where
    go : (x : Found A) → p.reads s at ≡ x → then x (λ a m. (q a).reads s m) ≡ got b n → SeqFound p q s at b n
    go no ex e = absurd (no≢got e)
    go (stop r) ex e = absurd (stop≢got e)
    go (got a m) ex e = record { value = a; place = m; first = ex; rest = e }

pub record MapFound {A B : Type 0} (f : A → B) (p : Reader A) (s : List ℕ) (at : ℕ) (b : B) (n : ℕ) : Type 0 where
  pub value : A
  pub reads : p.reads s at ≡ got value n
  pub is : f value ≡ b

pub map_found_lem : {A B : Type 0} (f : A → B) (p : Reader A) (s : List ℕ) (at : ℕ) (b : B) (n : ℕ) → (map f p).reads s at ≡ got b n → MapFound f p s at b n
unfolding map
map_found_lem {A} f p s at b n e = go (p.reads s at) refl e
  where
    go : (x : Found A) → p.reads s at ≡ x → map_found f x ≡ got b n → MapFound f p s at b n
    go no ex e = absurd (no≢got e)
    go (stop r) ex e = absurd (stop≢got e)
    go (got a m) ex e = record { value = a; reads = ex ∙ ap (got a) (got_place e); is = got_value e }

pub data OptFound {A : Type 0} (p : Reader A) (s : List ℕ) (at : ℕ) (o : Option A) (n : ℕ) : Type 0 where
  absent : none ≡ o → at ≡ n → OptFound p s at o n
  there : (a : A) → some a ≡ o → p.reads s at ≡ got a n → OptFound p s at o n

pub opt_found : {A : Type 0} (p : Reader A) (s : List ℕ) (at : ℕ) (o : Option A) (n : ℕ) → (opt p).reads s at ≡ got o n → OptFound p s at o n
unfolding opt
opt_found {A} p s at o n e = go (p.reads s at) refl e
  where
    go : (x : Found A) → p.reads s at ≡ x → lack at x ≡ got o n → OptFound p s at o n
    go no ex e = absent (got_value e) (got_place e)
    go (stop r) ex e = absurd (stop≢got e)
    go (got a m) ex e = there a (got_value e) (ex ∙ ap (got a) (got_place e))

pub alt_found : {A : Type 0} (p q : Reader A) (s : List ℕ) (at : ℕ) (a : A) (n : ℕ) → (alt p q).reads s at ≡ got a n → (p.reads s at ≡ got a n) ⊎ (q.reads s at ≡ got a n)
unfolding alt
alt_found {A} p q s at a n e = go (p.reads s at) refl e
  where
    go : (x : Found A) → p.reads s at ≡ x → or_else x (q.reads s at) ≡ got a n → (p.reads s at ≡ got a n) ⊎ (q.reads s at ≡ got a n)
    go no ex e = inr e
    go (stop r) ex e = absurd (stop≢got e)
    go (got b m) ex e = inl (ex ∙ e)

-- ---- one law for each combinator

pub record Yields {A : Type 0} (F : A → Type 0) (p : Reader A) : Type 0 where
  pub fact : (s : List ℕ) (at : ℕ) (a : A) (n : ℕ) → p.reads s at ≡ got a n → F a

-- of an optional value: the fact where it is there
abbrev pub OrLeftOut : {A : Type 0} → (A → Type 0) → Option A → Type 0
OrLeftOut E none = Unit
OrLeftOut E (some a) = E a

module _ {A B : Type 0} {E : A → Type 0} {F : B → Type 0} {p : Reader A} (q : A → Reader B) where
  pub seq_yields : Yields E p → ((a : A) → E a → Yields F (q a)) → Yields F (seq p q)
  seq_yields h k = record { fact = λ s at b n e. let f = seq_found p q s at b n e in (k f.value (h.fact s at f.value f.place f.first)).fact s f.place b n f.rest }

-- a value that is kept by a test passed it, where what stands for a failure is no value
tested : {A : Type 0} {E F : A → Type 0} {a b : A} {n : ℕ} (f : A → Bool) → ((a : A) → E a → f a ≡ true → F a) → (x : Found A) (m : ℕ) → (x ≡ got b n → ⊥) → (t : Bool) → f a ≡ t → E a → pick t (got a m) x ≡ got b n → F b
tested {a = a} {b = b} f i x m never true t g e = let same : a ≡ b = got_value e in rw (← same) (i a g t)
tested f i x m never false t g e = absurd (never e)

module _ {A : Type 0} {E : A → Type 0} {p : Reader A} where
  pub map_yields : {B : Type 0} {F : B → Type 0} (f : A → B) → ((a : A) → E a → F (f a)) → Yields E p → Yields F (map f p)
  map_yields f i h = record { fact = λ s at b n e. let m = map_found_lem f p s at b n e in rw (← m.is) (i m.value (h.fact s at m.value n m.reads)) }

  pub opt_yields : Yields E p → Yields (OrLeftOut E) (opt p)
  opt_yields h = record { fact = λ s at o n e. go s at o n (opt_found p s at o n e) }
    where
      go : (s : List ℕ) (at : ℕ) (o : Option A) (n : ℕ) → OptFound p s at o n → OrLeftOut E o
      go s at o n (absent e _) = rw (← e) tt
      go s at o n (there a e r) = rw (← e) (h.fact s at a n r)

  pub alt_yields : {q : Reader A} → Yields E p → Yields E q → Yields E (alt p q)
  alt_yields {q} h k = record { fact = λ s at a n e. go s at a n (alt_found p q s at a n e) }
    where
      go : (s : List ℕ) (at : ℕ) (a : A) (n : ℕ) → (p.reads s at ≡ got a n) ⊎ (q.reads s at ≡ got a n) → E a
      go s at a n (inl e) = h.fact s at a n e
      go s at a n (inr e) = k.fact s at a n e

  -- and it passed the test
  module _ {F : A → Type 0} (f : A → Bool) (i : (a : A) → E a → f a ≡ true → F a) where
    pub verify_yields : Yields E p → Yields F (verify f p)
    unfolding verify
    verify_yields h = record { fact = λ s at b n e. go (p.reads s at) b n (h.fact s at) e }
      where
        go : (x : Found A) (b : A) (n : ℕ) → ((a : A) (m : ℕ) → x ≡ got a m → E a) → keep f x ≡ got b n → F b
        go no b n g e = absurd (no≢got e)
        go (stop r) b n g e = absurd (stop≢got e)
        go (got a m) b n g e = tested f i no m no≢got (f a) refl (g a m refl) e

    pub must_yields : (r : ℕ) → Yields E p → Yields F (must f r p)
    unfolding must
    must_yields r h = record { fact = λ s at b n e. go (p.reads s at) b n (h.fact s at) e }
      where
        go : (x : Found A) (b : A) (n : ℕ) → ((a : A) (m : ℕ) → x ≡ got a m → E a) → keep_or_stop f r x ≡ got b n → F b
        go no b n g e = absurd (no≢got e)
        go (stop q) b n g e = absurd (stop≢got e)
        go (got a m) b n g e = tested f i (stop r) m stop≢got (f a) refl (g a m refl) e

pub give_yields : {A : Type 0} (F : A → Type 0) (a : A) → F a → Yields F (give a)
unfolding give
give_yields F a h = record { fact = λ s at b n e. let same : a ≡ b = got_value e in rw (← same) h }

-- of which nothing has to be known
abbrev pub Anything : {A : Type 0} → A → Type 0
Anything a = Unit

pub anything : {A : Type 0} (p : Reader A) → Yields Anything p
anything p = record { fact = λ s at a n e. tt }

-- an optional byte in front
pub preceded_yields : {A : Type 0} {F : A → Type 0} {p : Reader A} (c : ℕ) → Yields F p → Yields F (preceded_by c p)
preceded_yields c h = seq_yields _ (anything (opt (lit c))) (λ a z. h)

-- ---- digits

pub field_yields : (n lo hi : ℕ) → Yields (From lo hi) (field n lo hi)
field_yields n lo hi = record { fact = field_within n lo hi }

-- "Absent fields are 0."
pub absent_within : (hi : ℕ) (m : Option ℕ) → OrLeftOut (From 0 hi) m → or_zero m ≤ hi
absent_within hi none f = omega arith
absent_within hi (some v) f = f.1

-- what holds of all digits with such a number holds of what a run of them is read as
pub run_as_yields : {A : Type 0} {F : A → Type 0} (f : List ℕ → A) (may : ℕ → Bool) (r : ℕ) → ((l : List ℕ) → may (number (digits l)) ≡ true → F (f (digits l))) → Yields F (run_as f may r)
run_as_yields f may r h = record { fact = λ s at a n e. let d = run_found_lem f may r s at a n e in rw (← d.value) (h (drop at s) d.may_be) }

pub run_yields : Yields (λ v. v ≤ limit) run
run_yields = run_as_yields number (at_most limit) 2 (λ l h. leb-true (number (digits l)) limit h)
