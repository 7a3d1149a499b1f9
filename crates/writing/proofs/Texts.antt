-- A text that a reader reads, wherever it stands: one law for each combinator. What is read to a value ends where the text does; what stands
-- behind the text matters only to a reader that looks there.
use Prim.Native.Nat.{ℕ, ◌+◌}
use mathlib.Core.List.{List, [], ◌∷◌, ◌++◌, append_assoc, append-nil}
use mathlib.Core.Bool.{Bool, true, false}
use mathlib.Core.Option.{some, none}
use mathlib.Core.Path.{◌≡◌, refl, ◌∙◌}
use native.Mathlib.Omega.{arith}
use native.Mathlib.Nat.{add-zero, zero-add, add_assoc}
use borrow.Author.Tests.{lt-ltb, le-ltb, eq-eqb}
use lib.Dec.{eqb}
use lib.ListN.{length, length-append}
use lib.Seq.{get_or-append_seam}
use Rattle.parser.proofs.Alike.{Alike}
use Rattle.parser.proofs.Places.{Foreign}
use Rattle.parser.specs.Reading.{no, got, Reader, lit, seq, opt, alt, verify, must, map, give}

-- the reader p reads the text t to the value v, where x stands behind it and whatever stands before it
pub record ReadAs {A : Type 0} (p : Reader A) (t x : List ℕ) (v : A) : Type 0 where
  pub reads : (a : List ℕ) → p.reads (a ++ (t ++ x)) (length a) ≡ got v (length a + length t)

-- the reader p finds nothing at x
pub record Refuses {A : Type 0} (p : Reader A) (x : List ℕ) : Type 0 where
  pub finds : (a : List ℕ) → p.reads (a ++ x) (length a) ≡ no

module _ {A : Type 0} {p : Reader A} where
  -- behind a text t
  behind : {u x : List ℕ} {v : A} → ReadAs p u x v → (a t : List ℕ) → p.reads (a ++ (t ++ (u ++ x))) (length a + length t) ≡ got v (length a + (length t + length u))
  behind {u} {x} {v} h a t = rw (length-append a t, append_assoc a t (u ++ x), add_assoc (length a) (length t) (length u)) at (h.reads (a ++ t))

  refused_behind : {x : List ℕ} → Refuses p x → (a t : List ℕ) → p.reads (a ++ (t ++ x)) (length a + length t) ≡ no
  refused_behind {x} h a t = rw (length-append a t, append_assoc a t x) at (h.finds (a ++ t))

  -- a byte that the reader never takes, and what stands behind that, reads as the end does
  pub foreign_reads : {X : ℕ → Type 0} → Foreign X p → {c : ℕ} → X c → {t y : List ℕ} {v : A} → ReadAs p t [] v → ReadAs p t (c ∷ y) v
  foreign_reads f {c} o {t} {y} {v} h = record {
    reads = λ a.
        let same = f (a ++ t) c y (length a) o (omega (arith, length-append a t)) in
        rw (append_assoc a t (c ∷ y)) at (same ∙ rw (append-nil t) at (h.reads a));
  }

  -- from the first byte to the last
  pub whole : {t : List ℕ} {v : A} → ReadAs p t [] v → p.reads t 0 ≡ got v (length t)
  whole {t} h = rw (append-nil t, zero-add (length t)) at (h.reads [])

-- ---- bytes

pub lit_reads : (c : ℕ) (x : List ℕ) → ReadAs (lit c) (c ∷ []) x tt
unfolding lit
lit_reads c x = record { reads = λ a. rw (lt-ltb (length a) (length (a ++ c ∷ x)) (omega (arith, length-append a (c ∷ x))), get_or-append_seam a c x 0, eq-eqb c c refl) }

-- another byte
pub lit_refuses : (c : ℕ) {b : ℕ} {x : List ℕ} → eqb b c ≡ false → Refuses (lit c) (b ∷ x)
unfolding lit
lit_refuses c {b} {x} h = record { finds = λ a. rw (lt-ltb (length a) (length (a ++ b ∷ x)) (omega (arith, length-append a (b ∷ x))), get_or-append_seam a b x 0, h) }

pub lit_refuses_end : (c : ℕ) → Refuses (lit c) []
unfolding lit
lit_refuses_end c = record { finds = λ a. rw (append-nil a, le-ltb (length a) (length a) (omega arith)) }

-- ---- one after the other

module _ {A B : Type 0} {p : Reader A} (q : A → Reader B) where
  pub seq_reads : {t u x : List ℕ} {v : A} {w : B} → ReadAs p t (u ++ x) v → ReadAs (q v) u x w → ReadAs (seq p q) (t ++ u) x w
  unfolding seq
  seq_reads {t} {u} {x} h k = record { reads = λ a. rw (append_assoc t u x, h.reads a, length-append t u) (behind k a t) }

  pub seq_refuses : {x : List ℕ} → Refuses p x → Refuses (seq p q) x
  unfolding seq
  seq_refuses h = record { finds = λ a. rw (h.finds a) }

  pub seq_refuses_behind : {t x : List ℕ} {v : A} → ReadAs p t x v → Refuses (q v) x → Refuses (seq p q) (t ++ x)
  unfolding seq
  seq_refuses_behind {t} h k = record { finds = λ a. rw (h.reads a) (refused_behind k a t) }

-- ---- the others

module _ {A : Type 0} {p : Reader A} where
  pub map_reads : {B : Type 0} (f : A → B) {t x : List ℕ} {v : A} → ReadAs p t x v → ReadAs (map f p) t x (f v)
  unfolding map
  map_reads f h = record { reads = λ a. rw (h.reads a) }

  pub map_refuses : {B : Type 0} (f : A → B) {x : List ℕ} → Refuses p x → Refuses (map f p) x
  unfolding map
  map_refuses f h = record { finds = λ a. rw (h.finds a) }

  pub verify_reads : (f : A → Bool) {t x : List ℕ} {v : A} → f v ≡ true → ReadAs p t x v → ReadAs (verify f p) t x v
  unfolding verify
  verify_reads f e h = record { reads = λ a. rw (h.reads a, e) }

  pub must_reads : (f : A → Bool) (r : ℕ) {t x : List ℕ} {v : A} → f v ≡ true → ReadAs p t x v → ReadAs (must f r p) t x v
  unfolding must
  must_reads f r e h = record { reads = λ a. rw (h.reads a, e) }

  pub opt_reads : {t x : List ℕ} {v : A} → ReadAs p t x v → ReadAs (opt p) t x (some v)
  unfolding opt
  opt_reads h = record { reads = λ a. rw (h.reads a) }

  -- left out where it finds nothing
  pub opt_lacks : {x : List ℕ} → Refuses p x → ReadAs (opt p) [] x none
  unfolding opt
  opt_lacks h = record { reads = λ a. rw (h.finds a, add-zero (length a)) }

  pub alt_first : (q : Reader A) {t x : List ℕ} {v : A} → ReadAs p t x v → ReadAs (alt p q) t x v
  unfolding alt
  alt_first q h = record { reads = λ a. rw (h.reads a) }

  pub alt_second : {q : Reader A} {t x : List ℕ} {v : A} → Refuses p (t ++ x) → ReadAs q t x v → ReadAs (alt p q) t x v
  unfolding alt
  alt_second h k = record { reads = λ a. rw (h.finds a) (k.reads a) }

  pub alt_refuses : {q : Reader A} {x : List ℕ} → Refuses p x → Refuses q x → Refuses (alt p q) x
  unfolding alt
  alt_refuses h k = record { finds = λ a. rw (h.finds a) (k.finds a) }

pub give_reads : {A : Type 0} (v : A) (x : List ℕ) → ReadAs (give v) [] x v
unfolding give
give_reads v x = record { reads = λ a. rw (add-zero (length a)) }

-- what reads alike reads the same texts
pub alike_reads : {A : Type 0} {p q : Reader A} {t x : List ℕ} {v : A} → Alike p q → ReadAs q t x v → ReadAs p t x v
alike_reads {t = t} {x = x} e h = record { reads = λ a. (e (a ++ (t ++ x)) (length a)).reads ∙ h.reads a }
