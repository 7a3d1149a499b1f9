-- A rule that reads what another does, or stops the reading, and is open only where the other is. Where it is open and has a value, some few
-- bytes more are read to the last one, as the other's are, or stop the reading.
use Prim.Native.Nat.{ℕ, ◌+◌}
use mathlib.Core.List.{List, [], ◌∷◌, ◌++◌}
use mathlib.Core.Bool.{Bool, true, false}
use mathlib.Core.Path.{◌≡◌, refl, sym, ◌∙◌}
use mathlib.Core.Logic.{◌⊎◌, inl, inr}
use lib.ListN.{length}
use Rattle.parser.specs.Reading.{Found, no, got, stop, Reader, seq, after, opt, lack, alt, failed, must, keep_or_stop, map, map_found, or, and, pick}
use Rattle.parser.specs.Digits.{number, run_at, of_run, at_the_end, any, run_as}
use Rattle.parser.proofs.Fields.{true≢false, and_first}
use Rattle.parser.proofs.Places.{no≢stop, stop≢got}
use Rattle.parser.proofs.Hopeful.{Ends, AnyByte, Hopeful, HopefulOr, Changes}
use Rattle.parser.proofs.Says.{or_true}

-- the same is found, or the reading is stopped
abbrev SameOrStop : {A : Type 0} → Found A → Found A → Type 0
SameOrStop f g = (f ≡ g) ⊎ ((r : ℕ) × (f ≡ stop r))

pub record StricterAt {A : Type 0} (p q : Reader A) (s : List ℕ) (at : ℕ) : Type 0 where
  pub reads : SameOrStop (p.reads s at) (q.reads s at)
  pub more : p.more s at ≡ true → q.more s at ≡ true

abbrev pub Stricter : {A : Type 0} → Reader A → Reader A → Type 0
Stricter p q = (s : List ℕ) (at : ℕ) → StricterAt p q s at

pub same_stricter : {A : Type 0} {p : Reader A} → Stricter p p
same_stricter s at = record { reads = inl refl; more = λ h. h }

pub must_stricter : {A : Type 0} (f : A → Bool) (r : ℕ) (p : Reader A) → Stricter (must f r p) p
unfolding must
must_stricter {A} f r p s at = record { reads = go (p.reads s at); more = λ h. h }
  where
    kept : (a : A) (n : ℕ) (t : Bool) → SameOrStop (pick t (got a n) (stop r)) (got a n)
    kept a n true = inl refl
    kept a n false = inr (r, refl)

    go : (x : Found A) → SameOrStop (keep_or_stop f r x) x
    go no = inl refl
    go (stop q) = inl refl
    go (got a n) = kept a n (f a)

pub map_stricter : {A B : Type 0} (f : A → B) {p q : Reader A} → Stricter p q → Stricter (map f p) (map f q)
unfolding map
map_stricter {A} {B} f {p} {q} h s at = record { reads = go (h s at).reads; more = (h s at).more }
  where
    go : SameOrStop (p.reads s at) (q.reads s at) → SameOrStop (map_found f (p.reads s at)) (map_found f (q.reads s at))
    go (inl e) = inl (rw e)
    go (inr (r, e)) = inr (r, rw e)

pub opt_stricter : {A : Type 0} {p q : Reader A} → Stricter p q → Stricter (opt p) (opt q)
unfolding opt
opt_stricter {A} {p} {q} h s at = record { reads = go (h s at).reads; more = (h s at).more }
  where
    go : SameOrStop (p.reads s at) (q.reads s at) → SameOrStop (lack at (p.reads s at)) (lack at (q.reads s at))
    go (inl e) = inl (rw e)
    go (inr (r, e)) = inr (r, rw e)

pub alt_stricter : {A : Type 0} {p q f g : Reader A} → Stricter p q → Stricter f g → Stricter (alt p f) (alt q g)
unfolding alt
alt_stricter {A} {p} {q} {f} {g} h k s at = record { reads = reads (q.reads s at) refl (h s at).reads (k s at).reads; more = more (p.more s at) refl (p.reads s at) refl (h s at).reads }
  where
    reads : (x : Found A) → q.reads s at ≡ x → SameOrStop (p.reads s at) (q.reads s at) → SameOrStop (f.reads s at) (g.reads s at) → SameOrStop ((alt p f).reads s at) ((alt q g).reads s at)
    reads x ex (inr (r, e)) i = inr (r, rw e)
    reads no ex (inl e) (inl i) = inl (rw (e, ex, i))
    reads no ex (inl e) (inr (r, i)) = inr (r, rw (e, ex, i))
    reads (stop r) ex (inl e) i = inl (rw (e, ex))
    reads (got a n) ex (inl e) i = inl (rw (e, ex))

    more : (m : Bool) → p.more s at ≡ m → (x : Found A) → p.reads s at ≡ x → SameOrStop (p.reads s at) (q.reads s at) → or m (and (failed x) (f.more s at)) ≡ true → (alt q g).more s at ≡ true
    more true em x ex e o = rw ((h s at).more em)
    more false em no ex (inl e) o = rw (← e, ex, (k s at).more o) (or_true (q.more s at))
    more false em no ex (inr (r, e)) o = absurd (no≢stop (sym ex ∙ e))
    more false em (stop r) ex e o = absurd (true≢false (sym o))
    more false em (got a n) ex e o = absurd (true≢false (sym o))

pub seq_stricter : {A B : Type 0} {p q : Reader A} {f g : A → Reader B} → Stricter p q → ((a : A) → Stricter (f a) (g a)) → Stricter (seq p f) (seq q g)
unfolding seq
seq_stricter {A} {B} {p} {q} {f} {g} h k s at = record { reads = reads (q.reads s at) refl (h s at).reads; more = more (p.more s at) refl (p.reads s at) refl (h s at).reads }
  where
    reads : (x : Found A) → q.reads s at ≡ x → SameOrStop (p.reads s at) (q.reads s at) → SameOrStop ((seq p f).reads s at) ((seq q g).reads s at)
    reads x ex (inr (r, e)) = inr (r, rw e)
    reads no ex (inl e) = inl (rw (e, ex))
    reads (stop r) ex (inl e) = inl (rw (e, ex))
    reads (got a n) ex (inl e) = go (k a s n).reads
      where
        go : SameOrStop ((f a).reads s n) ((g a).reads s n) → SameOrStop ((seq p f).reads s at) ((seq q g).reads s at)
        go (inl i) = inl (rw (e, ex, i))
        go (inr (r, i)) = inr (r, rw (e, ex, i))

    more : (m : Bool) → p.more s at ≡ m → (x : Found A) → p.reads s at ≡ x → SameOrStop (p.reads s at) (q.reads s at) → or m (after x (λ a n. (f a).more s n)) ≡ true → (seq q g).more s at ≡ true
    more true em x ex e o = rw ((h s at).more em)
    more false em no ex e o = absurd (true≢false (sym o))
    more false em (stop r) ex e o = absurd (true≢false (sym o))
    more false em (got a n) ex (inl e) o = rw (← e, ex, (k a s n).more o) (or_true (q.more s at))
    more false em (got a n) ex (inr (r, e)) o = absurd (stop≢got (sym e ∙ ex))

-- ---- a run that may have some numbers reads as one that may have any does, or stops the reading

pub run_stricter : {A : Type 0} (f : List ℕ → A) (may : ℕ → Bool) (r q : ℕ) → Stricter (run_as f may r) (run_as f any q)
unfolding run_as
run_stricter {A} f may r q s at = record { reads = go (run_at s at); more = λ h. rw (and_first (at_the_end s at) _ h) }
  where
    some : (d : List ℕ) (t : Bool) → SameOrStop (pick t (got (f d) (at + length d)) (stop r)) (got (f d) (at + length d))
    some d true = inl refl
    some d false = inr (r, refl)

    go : (d : List ℕ) → SameOrStop (of_run d no (pick (may (number d)) (got (f d) (at + length d)) (stop r))) (of_run d no (got (f d) (at + length d)))
    go [] = inl refl
    go (b ∷ d) = some (b ∷ d) (may (number (b ∷ d)))

-- ---- hope

abbrev pub Valued : {A : Type 0} → Reader A → List ℕ → ℕ → Type 0
Valued {A} p s at = (a : A) × ((n : ℕ) × (p.reads s at ≡ got a n))

pub stricter_hopeful : {W : Type 0} {A : Type 0} {k : ℕ} {F : A → Type 0} (p q : Reader A) → W → Stricter p q → ((s : List ℕ) (at : ℕ) → p.more s at ≡ true → Valued p s at) → Hopeful k F q → HopefulOr W k F p
stricter_hopeful {W} {A} {k} {F} p q w st now hq s at le h = go (hq s at le ((st s at).more h)) (now s at h)
  where
    go : Ends k AnyByte F q s at → Valued p s at → Changes W k F p s at
    go e v = by (st (s ++ e.first ∷ e.rest) at).reads
      where
        by : SameOrStop (p.reads (s ++ e.first ∷ e.rest) at) (q.reads (s ++ e.first ∷ e.rest) at) → Changes W k F p s at
        by (inl i) = inl record { first = e.first; rest = e.rest; value = e.value; begins = tt; few = e.few; fact = e.fact; reads = i ∙ e.reads }
        by (inr (r, i)) = inr (w, record { more = e.first ∷ e.rest; few = e.few; value = v.0; place = v.1.0; now = v.1.1; less = rw i tt })
