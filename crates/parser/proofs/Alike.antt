-- Two readers that read the same, from one place or from two; and a common beginning, which is read once for several alternatives.
use Prim.Native.Nat.{ℕ}
use mathlib.Core.List.{List, ◌∷◌, ◌++◌}
use mathlib.Core.Bool.{Bool, true, false}
use mathlib.Core.Path.{◌≡◌, refl, sym, ◌∙◌}
use mathlib.Core.Logic.{inl, inr}
use Rattle.parser.specs.Reading.{Found, no, got, stop, Reader, seq, opt, alt, verify, must, map, failed, or, and, Says}
use Rattle.parser.proofs.Least.{Least}
use Rattle.parser.proofs.Stops.{StopsBy}
use Rattle.parser.proofs.Hopeful.{Ends, HopefulOr, Changes}

-- ---- the same reading from two places

pub record SameFrom {A : Type 0} (p q : Reader A) (s : List ℕ) (at from : ℕ) : Type 0 where
  pub reads : p.reads s at ≡ q.reads s from
  pub more : p.more s at ≡ q.more s from

pub same_says : {A : Type 0} {p q : Reader A} {s : List ℕ} {at from : ℕ} {f : Found A} {m : Bool} → SameFrom p q s at from → Says q s from f m → Says p s at f m
same_says e h = record { found = h.found ∙ sym e.reads; more = h.more ∙ sym e.more }

-- an alternative matters only where the one before it finds nothing
pub alt_same : {A : Type 0} {p p' q q' : Reader A} {s : List ℕ} {at from : ℕ} → SameFrom p p' s at from → (p.reads s at ≡ no → SameFrom q q' s at from) → SameFrom (alt p q) (alt p' q') s at from
unfolding alt
alt_same {A} {p} {p'} {q} {q'} {s} {at} {from} e g = go (p.reads s at) refl (sym e.reads)
  where
    go : (x : Found A) → p.reads s at ≡ x → p'.reads s from ≡ p.reads s at → SameFrom (alt p q) (alt p' q') s at from
    go no i j = record { reads = rw (j, i, (g i).reads); more = rw (j, i, e.more, (g i).more) }
    go (stop r) i j = record { reads = rw (j, i); more = rw (j, i, e.more) }
    go (got a n) i j = record { reads = rw (j, i); more = rw (j, i, e.more) }

-- ---- and from one, at some inputs or at all

abbrev pub AlikeAt : {A : Type 0} → Reader A → Reader A → List ℕ → ℕ → Type 0
AlikeAt p q s at = SameFrom p q s at at

abbrev pub Alike : {A : Type 0} → Reader A → Reader A → Type 0
Alike p q = (s : List ℕ) (at : ℕ) → AlikeAt p q s at

pub alike_refl : {A : Type 0} (p : Reader A) → Alike p p
alike_refl p s at = record { reads = refl; more = refl }

-- `alt (seq p f) (seq p g)` reads as `seq p` of the alternatives, and is open where that is
pub common_beginning : {A B : Type 0} (p : Reader A) (f g : A → Reader B) (q : Reader B) → Alike q (seq p g) → Alike (alt (seq p f) q) (seq p (λ a. alt (f a) (g a)))
unfolding alt seq
common_beginning {A} {B} p f g q e s at = go (p.reads s at) refl
  where
    go : (x : Found A) → p.reads s at ≡ x → AlikeAt (alt (seq p f) q) (seq p (λ a. alt (f a) (g a))) s at
    go no ex = record { reads = rw ((e s at).reads, ex); more = rw ((e s at).more, ex) (or_nothing (p.more s at)) }
      where
        or_nothing : (m : Bool) → or (or m false) (or m false) ≡ or m false
        or_nothing true = refl
        or_nothing false = refl
    go (stop r) ex = record { reads = rw ((e s at).reads, ex); more = rw ((e s at).more, ex) (or_nothing (p.more s at)) }
      where
        or_nothing : (m : Bool) → or (or m false) false ≡ or m false
        or_nothing true = refl
        or_nothing false = refl
    go (got a n) ex = record { reads = rw ((e s at).reads, ex); more = rw ((e s at).more, ex) (tail (p.more s at) ((f a).more s n) (failed ((f a).reads s n)) ((g a).more s n)) }
      where
        tail : (m x y z : Bool) → or (or m x) (and y (or m z)) ≡ or m (or x (and y z))
        tail true x y z = refl
        tail false x y z = refl

-- what reads alike wherever it is come to makes wholes that do
module _ {A : Type 0} (p : Reader A) (s : List ℕ) (at : ℕ) where
  pub seq_alike : {B : Type 0} (f g : A → Reader B) → ((a : A) (n : ℕ) → p.reads s at ≡ got a n → AlikeAt (f a) (g a) s n) → AlikeAt (seq p f) (seq p g) s at
  unfolding seq
  seq_alike f g e = go (p.reads s at) refl
    where
      go : (x : Found A) → p.reads s at ≡ x → AlikeAt (seq p f) (seq p g) s at
      go no ex = record { reads = rw ex; more = rw ex }
      go (stop r) ex = record { reads = rw ex; more = rw ex }
      go (got a n) ex = record { reads = rw (ex, (e a n ex).reads); more = rw (ex, (e a n ex).more) }

  pub map_alike : {B : Type 0} (f : A → B) (q : Reader A) → AlikeAt p q s at → AlikeAt (map f p) (map f q) s at
  unfolding map
  map_alike f q e = record { reads = rw e.reads; more = e.more }

  pub opt_alike : (q : Reader A) → AlikeAt p q s at → AlikeAt (opt p) (opt q) s at
  unfolding opt
  opt_alike q e = record { reads = rw e.reads; more = e.more }

-- a test of the whole is a test of what is read last
pub verify_behind : {A B : Type 0} (f : B → Bool) (p : Reader A) (q : A → Reader B) → Alike (verify f (seq p q)) (seq p (λ a. verify f (q a)))
unfolding verify seq
verify_behind {A} f p q s at = go (p.reads s at) refl
  where
    go : (x : Found A) → p.reads s at ≡ x → AlikeAt (verify f (seq p q)) (seq p (λ a. verify f (q a))) s at
    go no e = record { reads = rw e; more = refl }
    go (stop r) e = record { reads = rw e; more = refl }
    go (got a n) e = record { reads = rw e; more = refl }

pub must_behind : {A B : Type 0} (f : B → Bool) (r : ℕ) (p : Reader A) (q : A → Reader B) → Alike (seq p (λ a. must f r (q a))) (must f r (seq p q))
unfolding must seq
must_behind {A} f r p q s at = go (p.reads s at) refl
  where
    go : (x : Found A) → p.reads s at ≡ x → AlikeAt (seq p (λ a. must f r (q a))) (must f r (seq p q)) s at
    go no e = record { reads = rw e; more = refl }
    go (stop t) e = record { reads = rw e; more = refl }
    go (got a n) e = record { reads = rw e; more = refl }

pub alike_says : {A : Type 0} (p q : Reader A) → Alike p q → (s : List ℕ) (at : ℕ) (f : Found A) (m : Bool) → Says q s at f m → Says p s at f m
alike_says p q e s at f m h = same_says (e s at) h

pub alike_least : {A : Type 0} {k : ℕ} {p q : Reader A} → Alike p q → Least k q → Least k p
alike_least e hq = record { spans = λ s at a n h. hq.spans s at a n (sym (e s at).reads ∙ h) }

pub alike_stops : {P : ℕ → Type 0} {A : Type 0} {p q : Reader A} → Alike p q → StopsBy P q → StopsBy P p
alike_stops e hq = record { by = λ s at r h. hq.by s at r (sym (e s at).reads ∙ h) }

pub alike_ends : {A : Type 0} {k : ℕ} {X : ℕ → Type 0} {F : A → Type 0} (p q : Reader A) {s : List ℕ} {at : ℕ} → Alike p q → Ends k X F q s at → Ends k X F p s at
alike_ends p q {s} {at} e x = record { first = x.first; rest = x.rest; value = x.value; begins = x.begins; few = x.few; fact = x.fact; reads = (e (s ++ x.first ∷ x.rest) at).reads ∙ x.reads }

pub alike_hopeful : {W : Type 0} {A : Type 0} {k : ℕ} {F : A → Type 0} (p q : Reader A) → Alike p q → HopefulOr W k F q → HopefulOr W k F p
alike_hopeful {W} {A} {k} {F} p q e hq s at le h = go (hq s at le (sym (e s at).more ∙ h))
  where
    go : Changes W k F q s at → Changes W k F p s at
    go (inl x) = inl (alike_ends p q e x)
    go (inr (w, x)) = inr (w, record { more = x.more; few = x.few; value = x.value; place = x.place; now = (e s at).reads ∙ x.now; less = rw (e (s ++ x.more) at).reads x.less })
