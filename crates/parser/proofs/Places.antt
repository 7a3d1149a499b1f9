-- Where a reading ends, what it finds at the end of the input, and what it makes of a byte that it never takes.
use Prim.Native.Nat.{ℕ, zero, suc, ◌+◌, ◌*◌, ◌-◌, ◌<◌, ◌≤◌}
use mathlib.Core.List.{List, [], ◌∷◌, ◌++◌}
use mathlib.Core.Bool.{Bool, true, false}
use mathlib.Core.Option.{Option, none}
use mathlib.Core.Path.{◌≡◌, refl, sym, ◌∙◌}
use native.Mathlib.Omega.{arith}
use lib.ListN.{length, get_or, drop, length-append, length-drop, get_or-append}
use lib.Seq.{get_or-append_seam, drop-append-le}
use lib.Dec.{ltb, eqb}
use borrow.Author.Tests.{ltb-true, ltb-false, lt-ltb, le-ltb}
use Rattle.parser.specs.Reading.{Found, no, got, stop, Reader, lit, seq, then, opt, lack, alt, or_else, verify, keep, must, keep_or_stop, map, map_found, give, pick, and, within}
use Rattle.parser.specs.Digits.{is_digit, digits_from, field, digits, number, run_at, of_run, run_as}
use Rattle.parser.proofs.Fields.{digits_from_end}
use Rattle.parser.proofs.Runs.{run_end, digits_short}

pub no≢got : {A : Type 0} {a : A} {n : ℕ} → no ≡ got a n → ⊥
no≢got e = let z : ◌≡◌ {A = ℕ} 0 1 = cc in omega arith

pub stop≢got : {A : Type 0} {a : A} {n r : ℕ} → stop r ≡ got a n → ⊥
stop≢got e = let z : ◌≡◌ {A = ℕ} 0 1 = cc in omega arith

pub no≢stop : {A : Type 0} {r : ℕ} → ◌≡◌ {A = Found A} no (stop r) → ⊥
no≢stop e = let z : ◌≡◌ {A = ℕ} 0 1 = cc in omega arith

pub got_place : {A : Type 0} {a b : A} {m n : ℕ} → got a m ≡ got b n → m ≡ n
got_place e = cc

pub got_value : {A : Type 0} {a b : A} {m n : ℕ} → got a m ≡ got b n → a ≡ b
got_value e = cc

-- no value is found by these
pub from_no : {X A : Type 0} {a : A} {n : ℕ} → no ≡ got a n → X
from_no e = absurd (no≢got e)

pub from_stop : {X A : Type 0} {a : A} {n r : ℕ} → stop r ≡ got a n → X
from_stop e = absurd (stop≢got e)

-- what is found by a choice, and by a reading that something is made of
pub picked : {X A : Type 0} {f g found : Found A} → (f ≡ found → X) → (g ≡ found → X) → (t : Bool) → pick t f g ≡ found → X
picked hf hg true e = hf e
picked hf hg false e = hg e

pub made : {X A B : Type 0} {found : Found B} (p : Reader A) (h : Found A → Found B) (s : List ℕ) (at : ℕ) → (h no ≡ found → X) → ((r : ℕ) → p.reads s at ≡ stop r → h (stop r) ≡ found → X) → ((a : A) (n : ℕ) → p.reads s at ≡ got a n → h (got a n) ≡ found → X) → h (p.reads s at) ≡ found → X
made {X} {A} {B} {found} p h s at nothing stopped given = go (p.reads s at) refl
  where
    go : (f : Found A) → p.reads s at ≡ f → h f ≡ found → X
    go no ef e = nothing e
    go (stop r) ef e = stopped r ef e
    go (got a n) ef e = given a n ef e

-- what a run was read as, that it has a digit, and that it may have its number
pub record RunFound {A : Type 0} (f : List ℕ → A) (may : ℕ → Bool) (s : List ℕ) (at : ℕ) (a : A) (n : ℕ) : Type 0 where
  pub some : 1 ≤ length (run_at s at)
  pub may_be : may (number (run_at s at)) ≡ true
  pub value : f (run_at s at) ≡ a
  pub place : at + length (run_at s at) ≡ n

pub run_found_lem : {A : Type 0} (f : List ℕ → A) (may : ℕ → Bool) (r : ℕ) (s : List ℕ) (at : ℕ) (a : A) (n : ℕ) → (run_as f may r).reads s at ≡ got a n → RunFound f may s at a n
unfolding run_as
run_found_lem {A} f may r s at a n e = go (run_at s at) refl e
  where
    fits : (d : List ℕ) → run_at s at ≡ d → 1 ≤ length d → (t : Bool) → may (number d) ≡ t → pick t (got (f d) (at + length d)) (stop r) ≡ got a n → RunFound f may s at a n
    fits d ed h true em e = record { some = rw ed h; may_be = rw ed em; value = rw ed (got_value e); place = rw ed (got_place e) }
    fits d ed h false em e = absurd (stop≢got e)

    go : (d : List ℕ) → run_at s at ≡ d → of_run d no (pick (may (number d)) (got (f d) (at + length d)) (stop r)) ≡ got a n → RunFound f may s at a n
    go [] ed e = absurd (no≢got e)
    go (b ∷ d) ed e = fits (b ∷ d) ed (omega arith) (may (number (b ∷ d))) refl e

pub map_no : {A B : Type 0} (f : A → B) (x : Found A) → map_found f x ≡ no → x ≡ no
map_no f no e = refl
map_no f (got a n) e = absurd (no≢got (sym e))
map_no f (stop r) e = let z : ◌≡◌ {A = ℕ} 0 1 = cc in absurd (omega arith)

-- ---- what is found ends within the input

abbrev pub Bounded : {A : Type 0} → Reader A → Type 0
Bounded {A} p = (s : List ℕ) (at : ℕ) → at ≤ length s → (a : A) (n : ℕ) → p.reads s at ≡ got a n → n ≤ length s

pub lit_bounded : (c : ℕ) → Bounded (lit c)
unfolding lit
lit_bounded c s at le a n e = go (ltb at (length s)) (eqb (get_or s at 0) c) refl e
  where
    go : (t u : Bool) → ltb at (length s) ≡ t → pick (and t u) (got tt (at + 1)) no ≡ got a n → n ≤ length s
    go true true i e = omega (arith, ltb-true at (length s) i, got_place e)
    go true false i e = absurd (no≢got e)
    go false u i e = absurd (no≢got e)

pub give_bounded : {A : Type 0} (v : A) → Bounded (give v)
unfolding give
give_bounded v s at le a n e = omega (arith, got_place e)

pub seq_bounded : {A B : Type 0} (p : Reader A) (q : A → Reader B) → Bounded p → ((a : A) → Bounded (q a)) → Bounded (seq p q)
unfolding seq
seq_bounded p q hp hq s at le b n = made p (λ f. then f (λ a m. (q a).reads s m)) s at from_no (λ _ _. from_stop) (λ a m ef. hq a s m (hp s at le a m ef) b n)

pub opt_bounded : {A : Type 0} (p : Reader A) → Bounded p → Bounded (opt p)
unfolding opt
opt_bounded p hp s at le b n = made p (lack at) s at (λ e. omega (arith, got_place e)) (λ _ _. from_stop) (λ a m ef e. omega (arith, got_place e, hp s at le a m ef))

pub alt_bounded : {A : Type 0} (p q : Reader A) → Bounded p → Bounded q → Bounded (alt p q)
unfolding alt
alt_bounded p q hp hq s at le b n = made p (λ f. or_else f (q.reads s at)) s at (hq s at le b n) (λ _ _. from_stop) (λ a m ef e. hp s at le b n (ef ∙ e))

pub verify_bounded : {A : Type 0} (f : A → Bool) (p : Reader A) → Bounded p → Bounded (verify f p)
unfolding verify
verify_bounded f p hp s at le b n = made p (keep f) s at from_no (λ _ _. from_stop) (λ a m ef. picked (λ e. hp s at le b n (ef ∙ e)) from_no (f a))

pub must_bounded : {A : Type 0} (f : A → Bool) (r : ℕ) (p : Reader A) → Bounded p → Bounded (must f r p)
unfolding must
must_bounded f r p hp s at le b n = made p (keep_or_stop f r) s at from_no (λ _ _. from_stop) (λ a m ef. picked (λ e. hp s at le b n (ef ∙ e)) from_stop (f a))

pub map_bounded : {A B : Type 0} (f : A → B) (p : Reader A) → Bounded p → Bounded (map f p)
unfolding map
map_bounded f p hp s at le b n = made p (map_found f) s at from_no (λ _ _. from_stop) (λ a m ef e. omega (arith, got_place e, hp s at le a m ef))

digits_bounded : (lo hi n v : ℕ) (s : List ℕ) (at : ℕ) → at ≤ length s → (a m : ℕ) → digits_from lo hi n v s at ≡ got a m → m ≤ length s
unfolding digits_from
digits_bounded lo hi zero v s at le a m e = picked (λ f. omega (arith, got_place f)) from_no (within lo hi v) e
digits_bounded lo hi (suc n) v s at le a m e = go (ltb at (length s)) (is_digit (get_or s at 0)) refl e (λ h. digits_bounded lo hi n (v * 10 + (get_or s at 0 - 48)) s (at + 1) h a m)
  where
    go : (t u : Bool) → ltb at (length s) ≡ t → pick (and t u) (digits_from lo hi n (v * 10 + (get_or s at 0 - 48)) s (at + 1)) no ≡ got a m → (at + 1 ≤ length s → digits_from lo hi n (v * 10 + (get_or s at 0 - 48)) s (at + 1) ≡ got a m → m ≤ length s) → m ≤ length s
    go true true i e ih = ih (omega (arith, ltb-true at (length s) i)) e
    go true false i e ih = absurd (no≢got e)
    go false u i e ih = absurd (no≢got e)

pub field_bounded : (n lo hi : ℕ) → Bounded (field n lo hi)
unfolding field
field_bounded n lo hi s at le a m e = digits_bounded lo hi n 0 s at le a m e

pub run_bounded : {A : Type 0} (f : List ℕ → A) (may : ℕ → Bool) (r : ℕ) → Bounded (run_as f may r)
run_bounded f may r s at le a n e = omega (arith, (run_found_lem f may r s at a n e).place, digits_short (drop at s), length-drop at s)

-- ---- past the end every reader fails alike, and an optional item takes nothing

abbrev pub Fails : {A : Type 0} → Reader A → Type 0
Fails p = (s : List ℕ) (at : ℕ) → length s ≤ at → p.reads s at ≡ no

-- what takes nothing past the end, and a fact of what it gives there
abbrev pub Skips : {A : Type 0} → (A → Type 0) → Reader A → Type 0
Skips {A} F p = (s : List ℕ) (at : ℕ) → length s ≤ at → (a : A) × (F a × (p.reads s at ≡ got a at))

pub lit_fails : (c : ℕ) → Fails (lit c)
unfolding lit
lit_fails c s at h = rw (le-ltb at (length s) h)

pub field_fails : (n lo hi : ℕ) → 0 < n → Fails (field n lo hi)
unfolding field
field_fails n lo hi pos s at h = digits_from_end lo hi n 0 s at pos (le-ltb at (length s) h)

pub run_fails : {A : Type 0} (f : List ℕ → A) (may : ℕ → Bool) (r : ℕ) → Fails (run_as f may r)
unfolding run_as
run_fails f may r s at h = rw (run_end s at h)

pub seq_fails : {A B : Type 0} (p : Reader A) (q : A → Reader B) → Fails p → Fails (seq p q)
unfolding seq
seq_fails p q hp s at h = rw (hp s at h)

pub alt_fails : {A : Type 0} (p q : Reader A) → Fails p → Fails q → Fails (alt p q)
unfolding alt
alt_fails p q hp hq s at h = rw (hp s at h, hq s at h)

pub map_fails : {A B : Type 0} (f : A → B) (p : Reader A) → Fails p → Fails (map f p)
unfolding map
map_fails f p hp s at h = rw (hp s at h)

pub must_fails : {A : Type 0} (f : A → Bool) (r : ℕ) (p : Reader A) → Fails p → Fails (must f r p)
unfolding must
must_fails f r p hp s at h = rw (hp s at h)

pub opt_skips : {A : Type 0} (F : Option A → Type 0) (p : Reader A) → F none → Fails p → Skips F (opt p)
unfolding opt
opt_skips F p f hp s at h = (none, (f, rw (hp s at h)))

pub give_skips : {A : Type 0} (F : A → Type 0) (a : A) → F a → Skips F (give a)
unfolding give
give_skips F a f s at h = (a, (f, refl))

pub seq_skips : {A B : Type 0} (E : A → Type 0) (F : B → Type 0) (p : Reader A) (q : A → Reader B) → Skips E p → ((a : A) → E a → Skips F (q a)) → Skips F (seq p q)
unfolding seq
seq_skips E F p q hp hq s at h =
    let e = hp s at h in
    let g = hq e.0 e.1.0 s at h in
    (g.0, (g.1.0, rw (e.1.1, g.1.1)))

pub map_skips : {A B : Type 0} (E : A → Type 0) (F : B → Type 0) (f : A → B) (p : Reader A) → ((a : A) → E a → F (f a)) → Skips E p → Skips F (map f p)
unfolding map
map_skips E F f p k hp s at h = let e = hp s at h in (f e.0, (k e.0 e.1.0, rw e.1.1))

pub verify_skips : {A : Type 0} (F : A → Type 0) (f : A → Bool) (p : Reader A) → ((a : A) → F a → f a ≡ true) → Skips F p → Skips F (verify f p)
unfolding verify
verify_skips F f p k hp s at h = let e = hp s at h in (e.0, (e.1.0, rw (e.1.1, k e.0 e.1.0)))

-- ---- a byte that a reader never takes reads as the end of the input does

abbrev pub Foreign : {A : Type 0} → (ℕ → Type 0) → Reader A → Type 0
Foreign X p = (s : List ℕ) (c : ℕ) (y : List ℕ) (at : ℕ) → X c → at ≤ length s → p.reads (s ++ c ∷ y) at ≡ p.reads s at

pub lit_foreign : (X : ℕ → Type 0) (b : ℕ) → ((c : ℕ) → X c → eqb c b ≡ false) → Foreign X (lit b)
unfolding lit
lit_foreign X b k s c y at hx le = go (ltb at (length s)) refl
  where
    long : length s < length (s ++ c ∷ y)
    long = omega (arith, length-append s (c ∷ y))

    go : (t : Bool) → ltb at (length s) ≡ t → (lit b).reads (s ++ c ∷ y) at ≡ (lit b).reads s at
    go true i = rw (i, lt-ltb at (length (s ++ c ∷ y)) (omega (arith, long, ltb-true at (length s) i)), get_or-append s (c ∷ y) 0 at (ltb-true at (length s) i))
    go false i =
        let here : length s ≡ at = omega (arith, ltb-false at (length s) i) in
        rw (i, lt-ltb at (length (s ++ c ∷ y)) (omega (arith, long)), ← here, get_or-append_seam s c y 0, k c hx)

pub give_foreign : {A : Type 0} (X : ℕ → Type 0) (a : A) → Foreign X (give a)
unfolding give
give_foreign X a s c y at hx le = refl

pub seq_foreign : {A B : Type 0} (X : ℕ → Type 0) (p : Reader A) (q : A → Reader B) → Bounded p → Foreign X p → ((a : A) → Foreign X (q a)) → Foreign X (seq p q)
unfolding seq
seq_foreign {A} X p q bp hp hq s c y at hx le = rw (hp s c y at hx le) (go (p.reads s at) refl)
  where
    go : (f : Found A) → p.reads s at ≡ f → then f (λ a n. (q a).reads (s ++ c ∷ y) n) ≡ then f (λ a n. (q a).reads s n)
    go no ef = refl
    go (stop r) ef = refl
    go (got a n) ef = hq a s c y n hx (bp s at le a n ef)

pub opt_foreign : {A : Type 0} (X : ℕ → Type 0) (p : Reader A) → Foreign X p → Foreign X (opt p)
unfolding opt
opt_foreign X p hp s c y at hx le = rw (hp s c y at hx le)

pub alt_foreign : {A : Type 0} (X : ℕ → Type 0) (p q : Reader A) → Foreign X p → Foreign X q → Foreign X (alt p q)
unfolding alt
alt_foreign X p q hp hq s c y at hx le = rw (hp s c y at hx le, hq s c y at hx le)

pub verify_foreign : {A : Type 0} (X : ℕ → Type 0) (f : A → Bool) (p : Reader A) → Foreign X p → Foreign X (verify f p)
unfolding verify
verify_foreign X f p hp s c y at hx le = rw (hp s c y at hx le)

pub must_foreign : {A : Type 0} (X : ℕ → Type 0) (f : A → Bool) (r : ℕ) (p : Reader A) → Foreign X p → Foreign X (must f r p)
unfolding must
must_foreign X f r p hp s c y at hx le = rw (hp s c y at hx le)

pub map_foreign : {A B : Type 0} (X : ℕ → Type 0) (f : A → B) (p : Reader A) → Foreign X p → Foreign X (map f p)
unfolding map
map_foreign X f p hp s c y at hx le = rw (hp s c y at hx le)

digits_foreign : (l : List ℕ) (c : ℕ) (y : List ℕ) → is_digit c ≡ false → digits (l ++ c ∷ y) ≡ digits l
unfolding digits
digits_foreign [] c y e = rw e
digits_foreign (b ∷ l) c y e = rw (digits_foreign l c y e)

run_foreign_at : (s : List ℕ) (c : ℕ) (y : List ℕ) (at : ℕ) → is_digit c ≡ false → at ≤ length s → run_at (s ++ c ∷ y) at ≡ run_at s at
run_foreign_at s c y at e le = rw (drop-append-le at s (c ∷ y) le) (digits_foreign (drop at s) c y e)

pub run_foreign : {A : Type 0} (f : List ℕ → A) (may : ℕ → Bool) (r : ℕ) (X : ℕ → Type 0) → ((c : ℕ) → X c → is_digit c ≡ false) → Foreign X (run_as f may r)
unfolding run_as
run_foreign f may r X k s c y at hx le = rw (run_foreign_at s c y at (k c hx) le)

digits_from_foreign : (lo hi n v : ℕ) (s : List ℕ) (c : ℕ) (y : List ℕ) (at : ℕ) → is_digit c ≡ false → at ≤ length s → digits_from lo hi n v (s ++ c ∷ y) at ≡ digits_from lo hi n v s at
unfolding digits_from
digits_from_foreign lo hi zero v s c y at e le = refl
digits_from_foreign lo hi (suc n) v s c y at e le = go (ltb at (length s)) refl (digits_from_foreign lo hi n (v * 10 + (get_or s at 0 - 48)) s c y (at + 1) e)
  where
    long : length s < length (s ++ c ∷ y)
    long = omega (arith, length-append s (c ∷ y))

    go : (t : Bool) → ltb at (length s) ≡ t → (at + 1 ≤ length s → digits_from lo hi n (v * 10 + (get_or s at 0 - 48)) (s ++ c ∷ y) (at + 1) ≡ digits_from lo hi n (v * 10 + (get_or s at 0 - 48)) s (at + 1)) → digits_from lo hi (suc n) v (s ++ c ∷ y) at ≡ digits_from lo hi (suc n) v s at
    go true i ih = rw (i, lt-ltb at (length (s ++ c ∷ y)) (omega (arith, long, ltb-true at (length s) i)), get_or-append s (c ∷ y) 0 at (ltb-true at (length s) i), ih (omega (arith, ltb-true at (length s) i)))
    go false i ih =
        let here : length s ≡ at = omega (arith, ltb-false at (length s) i) in
        rw (i, lt-ltb at (length (s ++ c ∷ y)) (omega (arith, long)), ← here, get_or-append_seam s c y 0, e)

pub field_foreign : (X : ℕ → Type 0) (n lo hi : ℕ) → ((c : ℕ) → X c → is_digit c ≡ false) → Foreign X (field n lo hi)
unfolding field
field_foreign X n lo hi k s c y at hx le = digits_from_foreign lo hi n 0 s c y at (k c hx) le
