-- A text and a shorter one that are alike but for a few bytes in the middle, and what it means that a reader reads both the same.
use Prim.Native.Nat.{ℕ, ◌+◌, ◌≤◌}
use mathlib.Core.List.{List, ◌++◌, append_assoc}
use mathlib.Core.Bool.{Bool, true, false}
use mathlib.Core.Path.{◌≡◌, refl, ◌∙◌}
use native.Mathlib.Omega.{arith}
use lib.ListN.{length, length-append}
use lib.Dec.{eqb}
use Rattle.parser.specs.Reading.{Found, no, got, stop, Reader, seq, then, opt, lack, alt, or_else, verify, keep, must, keep_or_stop, map, map_found, give, pick}
use Rattle.interval.specs.Rules.{tried, no_form_fails}

-- `long` stands in the one where `short` stands in the other
pub record Cut : Type 0 where
  pub before : List ℕ
  pub long : List ℕ
  pub short : List ℕ
  pub rest : List ℕ

abbrev pub whole : Cut → List ℕ
whole c = c.before ++ (c.long ++ c.rest)

abbrev pub kept : Cut → List ℕ
kept c = c.before ++ (c.short ++ c.rest)

-- the same place in both: not past the beginning of what differs, or behind it
pub data Place (c : Cut) (m n : ℕ) : Type 0 where
  before : m ≡ n → n ≤ length c.before → Place c m n
  behind : (k : ℕ) → m ≡ length (c.before ++ c.long) + k → n ≡ length (c.before ++ c.short) + k → Place c m n

pub record CarriedGot {A : Type 0} (c : Cut) (f : Found A) (a : A) (n : ℕ) : Type 0 where
  pub place : ℕ
  pub found : f ≡ got a place
  pub same : Place c place n

-- the same is found in both, up to the same place
abbrev pub Carried : {A : Type 0} → Cut → Found A → Found A → Type 0
Carried c f no = f ≡ no
Carried c f (stop r) = f ≡ stop r
Carried c f (got a n) = CarriedGot c f a n

-- from the same place on both texts are read the same
abbrev pub SameAt : {A : Type 0} → Cut → ℕ → ℕ → Reader A → Type 0
SameAt c m n p = Carried c (p.reads (whole c) m) (p.reads (kept c) n)

abbrev pub Simulates : {A : Type 0} → Cut → Reader A → Type 0
Simulates c p = (m n : ℕ) → Place c m n → SameAt c m n p

-- ---- what differs may be taken to begin earlier

module _ (c : Cut) (v w : List ℕ) (is : c.before ≡ v ++ w) where
  abbrev pub earlier : Cut
  earlier = record { before = v; long = w ++ c.long; short = w ++ c.short; rest = c.rest }

  whole_earlier : whole c ≡ whole earlier
  whole_earlier = rw (is, append_assoc v w (c.long ++ c.rest), append_assoc w c.long c.rest)

  kept_earlier : kept c ≡ kept earlier
  kept_earlier = rw (is, append_assoc v w (c.short ++ c.rest), append_assoc w c.short c.rest)

  place_earlier : (m n : ℕ) → Place earlier m n → Place c m n
  place_earlier m n (before e le) = before e (rw is (omega (arith, le, length-append v w)))
  place_earlier m n (behind k e g) = behind k (e ∙ rw (is, append_assoc v w c.long)) (g ∙ rw (is, append_assoc v w c.short))

  carried_earlier : {A : Type 0} (f g : Found A) → Carried earlier f g → Carried c f g
  carried_earlier f no h = h
  carried_earlier f (stop r) h = h
  carried_earlier f (got a n) h = record { place = h.place; found = h.found; same = place_earlier h.place n h.same }

  pub simulates_earlier : {A : Type 0} (p : Reader A) → Simulates earlier p → (n : ℕ) → n ≤ length v → SameAt c n n p
  simulates_earlier p h n le = rw (whole_earlier, kept_earlier) (carried_earlier (p.reads (whole earlier) n) (p.reads (kept earlier) n) (h n n (before refl le)))

-- ---- each combinator passes it on

module _ (c : Cut) where
  then_carried : {A B : Type 0} (f g : Found A) (k l : A → ℕ → Found B) → Carried c f g → ((a : A) (m n : ℕ) → g ≡ got a n → Place c m n → Carried c (k a m) (l a n)) → Carried c (then f k) (then g l)
  then_carried f no k l h hk = rw h
  then_carried f (stop r) k l h hk = rw h
  then_carried f (got a n) k l h hk = rw h.found (hk a h.place n refl h.same)

  lack_carried : {A : Type 0} (f g : Found A) (m n : ℕ) → Place c m n → Carried c f g → Carried c (lack m f) (lack n g)
  lack_carried f no m n e h = record { place = m; found = rw h; same = e }
  lack_carried f (stop r) m n e h = rw h
  lack_carried f (got a k) m n e h = record { place = h.place; found = rw h.found; same = h.same }

  or_else_carried : {A : Type 0} (f g f' g' : Found A) → Carried c f g → Carried c f' g' → Carried c (or_else f f') (or_else g g')
  or_else_carried f no f' g' h h' = rw h h'
  or_else_carried f (stop r) f' g' h h' = rw h
  or_else_carried f (got a n) f' g' h h' = record { place = h.place; found = rw h.found; same = h.same }

  keep_carried : {A : Type 0} (t : A → Bool) (f g : Found A) → Carried c f g → Carried c (keep t f) (keep t g)
  keep_carried t f no h = rw h
  keep_carried t f (stop r) h = rw h
  keep_carried {A} t f (got a n) h = rw h.found (go (t a))
    where
      go : (u : Bool) → Carried {A = A} c (pick u (got a h.place) no) (pick u (got a n) no)
      go true = record { place = h.place; found = refl; same = h.same }
      go false = refl

  keep_or_stop_carried : {A : Type 0} (t : A → Bool) (r : ℕ) (f g : Found A) → Carried c f g → Carried c (keep_or_stop t r f) (keep_or_stop t r g)
  keep_or_stop_carried t r f no h = rw h
  keep_or_stop_carried t r f (stop q) h = rw h
  keep_or_stop_carried {A} t r f (got a n) h = rw h.found (go (t a))
    where
      go : (u : Bool) → Carried {A = A} c (pick u (got a h.place) (stop r)) (pick u (got a n) (stop r))
      go true = record { place = h.place; found = refl; same = h.same }
      go false = refl

  map_carried : {A B : Type 0} (t : A → B) (f g : Found A) → Carried c f g → Carried c (map_found t f) (map_found t g)
  map_carried t f no h = rw h
  map_carried t f (stop r) h = rw h
  map_carried t f (got a n) h = record { place = h.place; found = rw h.found; same = h.same }

  tried_carried : {A : Type 0} (f g : Found A) → Carried c f g → Carried c (no_form_fails f) (no_form_fails g)
  tried_carried f no h = rw h
  tried_carried {A} f (stop r) h = rw h (go (eqb r 1))
    where
      go : (u : Bool) → Carried {A = A} c (pick u no (stop r)) (pick u no (stop r))
      go true = refl
      go false = refl
  tried_carried f (got a n) h = record { place = h.place; found = rw h.found; same = h.same }

  pub seq_same : {A B : Type 0} (m n : ℕ) (p : Reader A) (q : A → Reader B) → SameAt c m n p → ((a : A) (k l : ℕ) → p.reads (kept c) n ≡ got a l → Place c k l → SameAt c k l (q a)) → SameAt c m n (seq p q)
  unfolding seq
  seq_same m n p q hp hq = then_carried (p.reads (whole c) m) (p.reads (kept c) n) _ _ hp hq

  pub alt_same : {A : Type 0} (m n : ℕ) (p q : Reader A) → SameAt c m n p → SameAt c m n q → SameAt c m n (alt p q)
  unfolding alt
  alt_same m n p q hp hq = or_else_carried (p.reads (whole c) m) (p.reads (kept c) n) (q.reads (whole c) m) (q.reads (kept c) n) hp hq

  pub map_same : {A B : Type 0} (m n : ℕ) (t : A → B) (p : Reader A) → SameAt c m n p → SameAt c m n (map t p)
  unfolding map
  map_same m n t p hp = map_carried t (p.reads (whole c) m) (p.reads (kept c) n) hp

  pub seq_simulates : {A B : Type 0} (p : Reader A) (q : A → Reader B) → Simulates c p → ((a : A) → Simulates c (q a)) → Simulates c (seq p q)
  seq_simulates p q hp hq m n e = seq_same m n p q (hp m n e) (λ a k l _. hq a k l)

  pub opt_simulates : {A : Type 0} (p : Reader A) → Simulates c p → Simulates c (opt p)
  unfolding opt
  opt_simulates p hp m n e = lack_carried (p.reads (whole c) m) (p.reads (kept c) n) m n e (hp m n e)

  pub alt_simulates : {A : Type 0} (p q : Reader A) → Simulates c p → Simulates c q → Simulates c (alt p q)
  alt_simulates p q hp hq m n e = alt_same m n p q (hp m n e) (hq m n e)

  pub verify_simulates : {A : Type 0} (t : A → Bool) (p : Reader A) → Simulates c p → Simulates c (verify t p)
  unfolding verify
  verify_simulates t p hp m n e = keep_carried t (p.reads (whole c) m) (p.reads (kept c) n) (hp m n e)

  pub must_simulates : {A : Type 0} (t : A → Bool) (r : ℕ) (p : Reader A) → Simulates c p → Simulates c (must t r p)
  unfolding must
  must_simulates t r p hp m n e = keep_or_stop_carried t r (p.reads (whole c) m) (p.reads (kept c) n) (hp m n e)

  pub map_simulates : {A B : Type 0} (t : A → B) (p : Reader A) → Simulates c p → Simulates c (map t p)
  map_simulates t p hp m n e = map_same m n t p (hp m n e)

  pub tried_simulates : {A : Type 0} (p : Reader A) → Simulates c p → Simulates c (tried p)
  unfolding tried
  tried_simulates p hp m n e = tried_carried (p.reads (whole c) m) (p.reads (kept c) n) (hp m n e)

  pub give_simulates : {A : Type 0} (a : A) → Simulates c (give a)
  unfolding give
  give_simulates a m n e = record { place = m; found = refl; same = e }
