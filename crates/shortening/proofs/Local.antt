-- Reading from a place on looks at nothing before it.
use Prim.Native.Nat.{ℕ, zero, suc, ◌+◌, ◌*◌, ◌-◌}
use mathlib.Core.List.{List, [], ◌∷◌, ◌++◌, append_assoc}
use mathlib.Core.Bool.{Bool, true, false}
use mathlib.Core.Path.{◌≡◌, refl, sym, ap, ◌∙◌}
use native.Mathlib.Nat.{zero-add, suc-add}
use native.Mathlib.Omega.{arith}
use lib.ListN.{length, get_or}
use lib.Dec.{ltb, leb, eqb}
use borrow.Author.Tests.{ltb-true, ltb-false, lt-ltb, le-ltb}
use Rattle.parser.specs.Reading.{Found, no, got, stop, Reader, lit, seq, then, opt, lack, alt, or_else, verify, keep, must, keep_or_stop, map, map_found, give, pick, and}
use Rattle.parser.specs.Digits.{is_digit, digits_from, field, number, run_at, of_run, run_as}
use Rattle.interval.specs.Rules.{tried, no_form_fails}
use Rattle.shortening.proofs.Cuts.{Cut, whole, kept, behind, Carried}

-- what is found, so many places further on
abbrev pub onward : {A : Type 0} → ℕ → Found A → Found A
onward j no = no
onward j (stop r) = stop r
onward j (got a n) = got a (j + n)

-- a byte in front moves all that is found
abbrev pub Local : {A : Type 0} → Reader A → Type 0
Local p = (b : ℕ) (s : List ℕ) (n : ℕ) → p.reads (b ∷ s) (suc n) ≡ onward 1 (p.reads s n)

same_test : (m n : ℕ) → ltb (suc m) (suc n) ≡ ltb m n
same_test m n = go (ltb m n) refl
  where
    go : (t : Bool) → ltb m n ≡ t → ltb (suc m) (suc n) ≡ t
    go true e = lt-ltb (suc m) (suc n) (omega (arith, ltb-true m n e))
    go false e = le-ltb (suc m) (suc n) (omega (arith, ltb-false m n e))

-- what is found where a test holds
picked : {A : Type 0} (a : A) (j k : ℕ) (t : Bool) → j ≡ 1 + k → pick t (got a j) no ≡ onward 1 (pick t (got a k) no)
picked a j k true e = ap (got a) e
picked a j k false e = refl

pub lit_local : (c : ℕ) → Local (lit c)
unfolding lit
lit_local c b s n = rw (same_test n (length s)) (picked tt (suc n + 1) (n + 1) (and (ltb n (length s)) (eqb (get_or s n 0) c)) (omega arith))

digits_local : (lo hi k v b : ℕ) (s : List ℕ) (n : ℕ) → digits_from lo hi k v (b ∷ s) (suc n) ≡ onward 1 (digits_from lo hi k v s n)
unfolding digits_from
digits_local lo hi zero v b s n = picked v (suc n) n (and (leb lo v) (leb v hi)) (omega arith)
digits_local lo hi (suc k) v b s n = rw (same_test n (length s), suc-add n 1) (go _ _ (and (ltb n (length s)) (is_digit (get_or s n 0))) (digits_local lo hi k (v * 10 + (get_or s n 0 - 48)) b s (n + 1)))
  where
    go : (f g : Found ℕ) (t : Bool) → f ≡ onward 1 g → pick t f no ≡ onward 1 (pick t g no)
    go f g true e = e
    go f g false e = refl

pub field_local : (k lo hi : ℕ) → Local (field k lo hi)
unfolding field
field_local k lo hi b s n = digits_local lo hi k 0 b s n

pub run_local : {A : Type 0} (f : List ℕ → A) (may : ℕ → Bool) (r : ℕ) → Local (run_as f may r)
unfolding run_as
run_local f may r b s n = go (run_at s n)
  where
    fits : (d : List ℕ) (t : Bool) → pick t (got (f d) (suc n + length d)) (stop r) ≡ onward 1 (pick t (got (f d) (n + length d)) (stop r))
    fits d true = ap (got (f d)) (omega arith)
    fits d false = refl

    go : (d : List ℕ) → of_run d no (pick (may (number d)) (got (f d) (suc n + length d)) (stop r)) ≡ onward 1 (of_run d no (pick (may (number d)) (got (f d) (n + length d)) (stop r)))
    go [] = refl
    go (c ∷ d) = fits (c ∷ d) (may (number (c ∷ d)))

pub alt_local : {A : Type 0} (p q : Reader A) → Local p → Local q → Local (alt p q)
unfolding alt
alt_local {A} p q hp hq b s n = rw (hp b s n, hq b s n) (go (p.reads s n))
  where
    go : (f : Found A) → or_else (onward 1 f) (onward 1 (q.reads s n)) ≡ onward 1 (or_else f (q.reads s n))
    go no = refl
    go (stop r) = refl
    go (got a k) = refl

pub seq_local : {A B : Type 0} (p : Reader A) (q : A → Reader B) → Local p → ((a : A) → Local (q a)) → Local (seq p q)
unfolding seq
seq_local {A} p q hp hq b s n = rw (hp b s n) (go (p.reads s n))
  where
    go : (f : Found A) → then (onward 1 f) (λ a k. (q a).reads (b ∷ s) k) ≡ onward 1 (then f (λ a k. (q a).reads s k))
    go no = refl
    go (stop r) = refl
    go (got a k) = let e : 1 + k ≡ suc k = omega arith in rw e (hq a b s k)

-- what is found of a reading that something is made of
made_local : {A B : Type 0} (h k : Found A → Found B) (p : Reader A) → Local p → (b : ℕ) (s : List ℕ) (n : ℕ) → ((f : Found A) → h (onward 1 f) ≡ onward 1 (k f)) → h (p.reads (b ∷ s) (suc n)) ≡ onward 1 (k (p.reads s n))
made_local h k p hp b s n same = rw (hp b s n) (same (p.reads s n))

pub opt_local : {A : Type 0} (p : Reader A) → Local p → Local (opt p)
unfolding opt
opt_local {A} p hp b s n = made_local (lack (suc n)) (lack n) p hp b s n same
  where
    same : (f : Found A) → lack (suc n) (onward 1 f) ≡ onward 1 (lack n f)
    same no = let e : suc n ≡ 1 + n = omega arith in rw e
    same (stop r) = refl
    same (got a k) = refl

pub verify_local : {A : Type 0} (t : A → Bool) (p : Reader A) → Local p → Local (verify t p)
unfolding verify
verify_local {A} t p hp b s n = made_local (keep t) (keep t) p hp b s n same
  where
    same : (f : Found A) → keep t (onward 1 f) ≡ onward 1 (keep t f)
    same no = refl
    same (stop r) = refl
    same (got a k) = picked a (1 + k) k (t a) refl

pub must_local : {A : Type 0} (t : A → Bool) (r : ℕ) (p : Reader A) → Local p → Local (must t r p)
unfolding must
must_local {A} t r p hp b s n = made_local (keep_or_stop t r) (keep_or_stop t r) p hp b s n same
  where
    test : (a : A) (k : ℕ) (u : Bool) → pick u (got a (1 + k)) (stop r) ≡ onward 1 (pick u (got a k) (stop r))
    test a k true = refl
    test a k false = refl

    same : (f : Found A) → keep_or_stop t r (onward 1 f) ≡ onward 1 (keep_or_stop t r f)
    same no = refl
    same (stop q) = refl
    same (got a k) = test a k (t a)

pub map_local : {A B : Type 0} (t : A → B) (p : Reader A) → Local p → Local (map t p)
unfolding map
map_local {A} t p hp b s n = made_local (map_found t) (map_found t) p hp b s n same
  where
    same : (f : Found A) → map_found t (onward 1 f) ≡ onward 1 (map_found t f)
    same no = refl
    same (stop r) = refl
    same (got a k) = refl

pub tried_local : {A : Type 0} (p : Reader A) → Local p → Local (tried p)
unfolding tried
tried_local {A} p hp b s n = made_local no_form_fails no_form_fails p hp b s n same
  where
    test : (r : ℕ) (u : Bool) → ◌≡◌ {A = Found A} (pick u no (stop r)) (onward 1 (pick u no (stop r)))
    test r true = refl
    test r false = refl

    same : (f : Found A) → no_form_fails (onward 1 f) ≡ onward 1 (no_form_fails f)
    same no = refl
    same (stop r) = test r (eqb r 1)
    same (got a k) = refl

pub give_local : {A : Type 0} (a : A) → Local (give a)
unfolding give
give_local a b s n = ap (got a) (omega arith)

-- ---- so behind what differs, two texts are read the same

local_past : {A : Type 0} (p : Reader A) → Local p → (v s : List ℕ) (k : ℕ) → p.reads (v ++ s) (length v + k) ≡ onward (length v) (p.reads s k)
local_past {A} p hp [] s k = rw (zero-add k) (go (p.reads s k))
  where
    go : (f : Found A) → f ≡ onward 0 f
    go no = refl
    go (stop r) = refl
    go (got a n) = ap (got a) (sym (zero-add n))
local_past {A} p hp (b ∷ v) s k = rw (suc-add (length v) k) (hp b (v ++ s) (length v + k)) ∙ ap (onward 1) (local_past p hp v s k) ∙ go (p.reads s k)
  where
    go : (f : Found A) → onward 1 (onward (length v) f) ≡ onward (suc (length v)) f
    go no = refl
    go (stop r) = refl
    go (got a n) = ap (got a) (omega arith)

pub local_behind : {A : Type 0} (c : Cut) (p : Reader A) → Local p → (k : ℕ) → Carried c (p.reads (whole c) (length (c.before ++ c.long) + k)) (p.reads (kept c) (length (c.before ++ c.short) + k))
local_behind {A} c p hp k =
    rw (← append_assoc c.before c.long c.rest, ← append_assoc c.before c.short c.rest, local_past p hp (c.before ++ c.long) c.rest k, local_past p hp (c.before ++ c.short) c.rest k) (go (p.reads c.rest k))
  where
    go : (f : Found A) → Carried c (onward (length (c.before ++ c.long)) f) (onward (length (c.before ++ c.short)) f)
    go no = refl
    go (stop r) = refl
    go (got a n) = record { place = length (c.before ++ c.long) + n; found = refl; same = behind n refl refl }
