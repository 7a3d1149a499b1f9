-- How far a reader comes: what it finds ends so many bytes on, at most, and where it is open the input ends there too.
use Prim.Native.Nat.{ℕ, ◌+◌, ◌≤◌}
use mathlib.Core.List.{List}
use mathlib.Core.Bool.{Bool, true, false}
use mathlib.Core.Option.{Option}
use mathlib.Core.Path.{◌≡◌, refl, sym, ◌∙◌}
use native.Mathlib.Omega.{arith}
use lib.ListN.{length, get_or}
use lib.Dec.{ltb, eqb}
use borrow.Author.Tests.{ltb-false, not-true}
use Rattle.parser.specs.Reading.{Found, no, got, stop, Reader, lit, seq, then, after, opt, lack, alt, or_else, failed, verify, keep, must, keep_or_stop, map, map_found, give, pick, or, and}
use Rattle.parser.proofs.Fields.{true≢false}
use Rattle.parser.proofs.Places.{no≢got, stop≢got, got_place}
use Rattle.parser.proofs.Lawful.{most, most_left, most_right}
use Rattle.interval.specs.Rules.{tried, no_form_fails}

-- of what is found from a place on: P says which places are met
pub record Spans {A : Type 0} (P : ℕ → Type 0) (s : List ℕ) (w at : ℕ) (m : Bool) (f : Found A) : Type 0 where
  pub opens : m ≡ true → length s ≤ at + w
  pub ends : (a : A) (n : ℕ) → f ≡ got a n → (n ≤ at + w) × P n

abbrev pub SpansAt : {A : Type 0} → (ℕ → Type 0) → List ℕ → ℕ → ℕ → Reader A → Type 0
SpansAt P s w at p = Spans P s w at (p.more s at) (p.reads s at)

abbrev pub Within : {A : Type 0} → (ℕ → Type 0) → List ℕ → ℕ → Reader A → Type 0
Within P s w p = (at : ℕ) → P at → SpansAt P s w at p

module _ (P : ℕ → Type 0) (s : List ℕ) where
  then_spans : {A B : Type 0} (Q : ℕ → Type 0) (v w at : ℕ) (m : Bool) (f : Found A) (k : A → ℕ → Bool) (l : A → ℕ → Found B) → Spans Q s v at m f → ((a : A) (n : ℕ) → Q n → Spans P s w n (k a n) (l a n)) → Spans P s (v + w) at (or m (after f k)) (then f l)
  then_spans {A} {B} Q v w at m f k l h hk = record { opens = opens m f refl refl; ends = ends f refl }
    where
      opens : (t : Bool) (g : Found A) → m ≡ t → f ≡ g → or t (after g k) ≡ true → length s ≤ at + (v + w)
      opens true g e eg o = omega (arith, h.opens e)
      opens false no e eg o = absurd (true≢false (sym o))
      opens false (stop r) e eg o = absurd (true≢false (sym o))
      opens false (got a n) e eg o = let x = h.ends a n eg in omega (arith, x.0, (hk a n x.1).opens o)

      ends : (g : Found A) → f ≡ g → (b : B) (n : ℕ) → then g l ≡ got b n → (n ≤ at + (v + w)) × P n
      ends no eg b n e = absurd (no≢got e)
      ends (stop r) eg b n e = absurd (stop≢got e)
      ends (got a j) eg b n e = let x = h.ends a j eg in let y = (hk a j x.1).ends b n e in (omega (arith, x.0, y.0), y.1)

  pub seq_spans : {A B : Type 0} (Q : ℕ → Type 0) (v w at : ℕ) (p : Reader A) (q : A → Reader B) → SpansAt Q s v at p → ((a : A) (n : ℕ) → Q n → SpansAt P s w n (q a)) → SpansAt P s (v + w) at (seq p q)
  unfolding seq
  seq_spans Q v w at p q hp hq = then_spans Q v w at (p.more s at) (p.reads s at) _ _ hp hq

  pub seq_within : {A B : Type 0} (v w : ℕ) (p : Reader A) (q : A → Reader B) → Within P s v p → ((a : A) → Within P s w (q a)) → Within P s (v + w) (seq p q)
  seq_within v w p q hp hq at h = seq_spans P v w at p q (hp at h) (λ a n. hq a n)

  pub opt_spans : {A : Type 0} (w at : ℕ) (p : Reader A) → P at → SpansAt P s w at p → SpansAt P s w at (opt p)
  unfolding opt
  opt_spans {A} w at p here h = record { opens = h.opens; ends = go (p.reads s at) refl }
    where
      go : (g : Found A) → p.reads s at ≡ g → (o : Option A) (n : ℕ) → lack at g ≡ got o n → (n ≤ at + w) × P n
      go no eg o n e = let same = got_place e in (omega arith, rw (← same) here)
      go (stop r) eg o n e = absurd (stop≢got e)
      go (got a k) eg o n e = let same = got_place e in rw (← same) (h.ends a k eg)

  pub opt_within : {A : Type 0} (w : ℕ) (p : Reader A) → Within P s w p → Within P s w (opt p)
  opt_within w p hp at h = opt_spans w at p h (hp at h)

  pub alt_spans : {A : Type 0} (v w at : ℕ) (p q : Reader A) → SpansAt P s v at p → SpansAt P s w at q → SpansAt P s (most v w) at (alt p q)
  unfolding alt
  alt_spans {A} v w at p q hp hq = record { opens = opens (p.more s at) (failed (p.reads s at)) refl; ends = ends (p.reads s at) refl }
    where
      opens : (m t : Bool) → p.more s at ≡ m → or m (and t (q.more s at)) ≡ true → length s ≤ at + most v w
      opens true t e o = omega (arith, hp.opens e, most_left v w)
      opens false true e o = omega (arith, hq.opens o, most_right v w)
      opens false false e o = absurd (true≢false (sym o))

      ends : (f : Found A) → p.reads s at ≡ f → (a : A) (n : ℕ) → or_else f (q.reads s at) ≡ got a n → (n ≤ at + most v w) × P n
      ends no ef a n e = let x = hq.ends a n e in (omega (arith, x.0, most_right v w), x.1)
      ends (stop r) ef a n e = absurd (stop≢got e)
      ends (got b k) ef a n e = let x = hp.ends a n (ef ∙ e) in (omega (arith, x.0, most_left v w), x.1)

  pub alt_within : {A : Type 0} (v w : ℕ) (p q : Reader A) → Within P s v p → Within P s w q → Within P s (most v w) (alt p q)
  alt_within v w p q hp hq at h = alt_spans v w at p q (hp at h) (hq at h)

  pub tried_within : {A : Type 0} (w : ℕ) (p : Reader A) → Within P s w p → Within P s w (tried p)
  unfolding tried
  tried_within {A} w p hp at h = record { opens = (hp at h).opens; ends = go (p.reads s at) refl }
    where
      failed_or_stopped : (r : ℕ) (u : Bool) (a : A) (n : ℕ) → pick u no (stop r) ≡ got a n → (n ≤ at + w) × P n
      failed_or_stopped r true a n e = absurd (no≢got e)
      failed_or_stopped r false a n e = absurd (stop≢got e)

      go : (f : Found A) → p.reads s at ≡ f → (a : A) (n : ℕ) → no_form_fails f ≡ got a n → (n ≤ at + w) × P n
      go no ef a n e = absurd (no≢got e)
      go (stop r) ef a n e = failed_or_stopped r (eqb r 1) a n e
      go (got b k) ef a n e = (hp at h).ends a n (ef ∙ e)

  pub verify_within : {A : Type 0} (w : ℕ) (t : A → Bool) (p : Reader A) → Within P s w p → Within P s w (verify t p)
  unfolding verify
  verify_within {A} w t p hp at h = record { opens = (hp at h).opens; ends = go (p.reads s at) refl }
    where
      kept : (a : A) (k : ℕ) → p.reads s at ≡ got a k → (u : Bool) (b : A) (n : ℕ) → pick u (got a k) no ≡ got b n → (n ≤ at + w) × P n
      kept a k ef true b n e = (hp at h).ends b n (ef ∙ e)
      kept a k ef false b n e = absurd (no≢got e)

      go : (f : Found A) → p.reads s at ≡ f → (b : A) (n : ℕ) → keep t f ≡ got b n → (n ≤ at + w) × P n
      go no ef b n e = absurd (no≢got e)
      go (stop r) ef b n e = absurd (stop≢got e)
      go (got a k) ef b n e = kept a k ef (t a) b n e

  pub must_within : {A : Type 0} (w : ℕ) (t : A → Bool) (r : ℕ) (p : Reader A) → Within P s w p → Within P s w (must t r p)
  unfolding must
  must_within {A} w t r p hp at h = record { opens = (hp at h).opens; ends = go (p.reads s at) refl }
    where
      kept : (a : A) (k : ℕ) → p.reads s at ≡ got a k → (u : Bool) (b : A) (n : ℕ) → pick u (got a k) (stop r) ≡ got b n → (n ≤ at + w) × P n
      kept a k ef true b n e = (hp at h).ends b n (ef ∙ e)
      kept a k ef false b n e = absurd (stop≢got e)

      go : (f : Found A) → p.reads s at ≡ f → (b : A) (n : ℕ) → keep_or_stop t r f ≡ got b n → (n ≤ at + w) × P n
      go no ef b n e = absurd (no≢got e)
      go (stop q) ef b n e = absurd (stop≢got e)
      go (got a k) ef b n e = kept a k ef (t a) b n e

  pub map_spans : {A B : Type 0} (w at : ℕ) (t : A → B) (p : Reader A) → SpansAt P s w at p → SpansAt P s w at (map t p)
  unfolding map
  map_spans {A} {B} w at t p h = record { opens = h.opens; ends = go (p.reads s at) refl }
    where
      go : (f : Found A) → p.reads s at ≡ f → (b : B) (n : ℕ) → map_found t f ≡ got b n → (n ≤ at + w) × P n
      go no ef b n e = absurd (no≢got e)
      go (stop r) ef b n e = absurd (stop≢got e)
      go (got a k) ef b n e = let here = got_place e in rw (← here) (h.ends a k ef)

  pub map_within : {A B : Type 0} (w : ℕ) (t : A → B) (p : Reader A) → Within P s w p → Within P s w (map t p)
  map_within w t p hp at h = map_spans w at t p (hp at h)

  pub give_within : {A : Type 0} (a : A) → Within P s 0 (give a)
  unfolding give
  give_within a at h = record { opens = λ o. absurd (true≢false (sym o)); ends = λ b n e. let here = got_place e in (omega arith, rw (← here) h) }

-- ---- where a reader finds nothing, and is open at the end of the input alone, if at all

pub record Stuck {A : Type 0} (p : Reader A) (s : List ℕ) (at : ℕ) : Type 0 where
  pub reads : p.reads s at ≡ no
  pub opens : p.more s at ≡ true → length s ≤ at

pub stuck_spans : {A : Type 0} {p : Reader A} {s : List ℕ} {at : ℕ} (P : ℕ → Type 0) (w : ℕ) → Stuck p s at → SpansAt P s w at p
stuck_spans P w h = record { opens = λ o. omega (arith, h.opens o); ends = λ a n e. absurd (no≢got (sym h.reads ∙ e)) }

module _ {A : Type 0} {p : Reader A} {s : List ℕ} {at : ℕ} (h : Stuck p s at) where
  pub seq_stuck : {B : Type 0} (q : A → Reader B) → Stuck (seq p q) s at
  unfolding seq
  seq_stuck q = record { reads = rw h.reads; opens = go (p.more s at) refl }
    where
      go : (m : Bool) → p.more s at ≡ m → or m (after (p.reads s at) (λ a n. (q a).more s n)) ≡ true → length s ≤ at
      go true e o = h.opens e
      go false e o = absurd (true≢false (sym o ∙ rw h.reads))

  pub verify_stuck : (t : A → Bool) → Stuck (verify t p) s at
  unfolding verify
  verify_stuck t = record { reads = rw h.reads; opens = h.opens }

  pub map_stuck : {B : Type 0} (t : A → B) → Stuck (map t p) s at
  unfolding map
  map_stuck t = record { reads = rw h.reads; opens = h.opens }

  pub tried_stuck : Stuck (tried p) s at
  unfolding tried
  tried_stuck = record { reads = rw h.reads; opens = h.opens }

pub lit_stuck : (c : ℕ) (s : List ℕ) (at : ℕ) → eqb (get_or s at 0) c ≡ false → Stuck (lit c) s at
unfolding lit
lit_stuck c s at e = record { reads = rw e (nothing (ltb at (length s))); opens = λ o. ltb-false at (length s) (not-true (ltb at (length s)) o) }
  where
    nothing : (t : Bool) → ◌≡◌ {A = Found Unit} (pick (and t false) (got tt (at + 1)) no) no
    nothing true = refl
    nothing false = refl
