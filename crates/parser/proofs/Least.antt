-- How many bytes at least a reader takes for what it finds; so what is found ends at the place or behind it.
use Prim.Native.Nat.{ℕ, zero, suc, ◌+◌, ◌*◌, ◌-◌, ◌≤◌}
use mathlib.Core.List.{List}
use mathlib.Core.Bool.{Bool}
use mathlib.Core.Path.{◌≡◌}
use native.Mathlib.Omega.{arith}
use lib.ListN.{length, get_or}
use lib.Dec.{ltb, eqb}
use Rattle.parser.specs.Reading.{got, Reader, lit, seq, then, opt, lack, alt, or_else, verify, keep, must, keep_or_stop, map, map_found, give, and, within}
use Rattle.parser.specs.Digits.{digit, digits_from, field, run_as}
use Rattle.parser.proofs.Places.{got_place, from_no, from_stop, picked, made, run_found_lem}

pub record Least (k : ℕ) {A : Type 0} (p : Reader A) : Type 0 where
  pub spans : (s : List ℕ) (at : ℕ) (a : A) (n : ℕ) → p.reads s at ≡ got a n → at + k ≤ n

-- never back from its place
abbrev pub Ahead : {A : Type 0} → Reader A → Type 0
Ahead p = Least 0 p

pub fewer : {j k : ℕ} {A : Type 0} {p : Reader A} → j ≤ k → Least k p → Least j p
fewer h hp = record { spans = λ s at a n e. omega (arith, hp.spans s at a n e) }

-- ---- single bytes, fields and runs

pub lit_least : (c : ℕ) → Least 1 (lit c)
unfolding lit
lit_least c = record { spans = λ s at a n. picked (λ e. omega (arith, got_place e)) from_no (and (ltb at (length s)) (eqb (get_or s at 0) c)) }

digits_least : (lo hi k v : ℕ) (s : List ℕ) (at a n : ℕ) → digits_from lo hi k v s at ≡ got a n → at + k ≤ n
unfolding digits_from
digits_least lo hi zero v s at a n = picked (λ e. omega (arith, got_place e)) from_no (within lo hi v)
digits_least lo hi (suc k) v s at a n = picked (λ e. omega (arith, digits_least lo hi k (v * 10 + (get_or s at 0 - 48)) s (at + 1) a n e)) from_no (digit s at)

pub field_least : (n lo hi : ℕ) → Least n (field n lo hi)
unfolding field
field_least n lo hi = record { spans = digits_least lo hi n 0 }

pub run_least : {A : Type 0} (f : List ℕ → A) (may : ℕ → Bool) (r : ℕ) → Least 1 (run_as f may r)
run_least f may r = record { spans = λ s at a n e. let found = run_found_lem f may r s at a n e in omega (arith, found.place, found.some) }

-- ---- one law for each combinator

pub give_least : {A : Type 0} (a : A) → Least 0 (give a)
unfolding give
give_least v = record { spans = λ s at a n e. omega (arith, got_place e) }

pub map_least : {k : ℕ} {A B : Type 0} (f : A → B) {p : Reader A} → Least k p → Least k (map f p)
unfolding map
map_least f {p} hp = record { spans = λ s at b n. made p (map_found f) s at from_no (λ _ _. from_stop) (λ a m ef e. omega (arith, got_place e, hp.spans s at a m ef)) }

pub verify_least : {k : ℕ} {A : Type 0} (f : A → Bool) {p : Reader A} → Least k p → Least k (verify f p)
unfolding verify
verify_least f {p} hp = record { spans = λ s at b n. made p (keep f) s at from_no (λ _ _. from_stop) (λ a m ef. picked (λ e. omega (arith, got_place e, hp.spans s at a m ef)) from_no (f a)) }

pub must_least : {k : ℕ} {A : Type 0} (f : A → Bool) (r : ℕ) {p : Reader A} → Least k p → Least k (must f r p)
unfolding must
must_least f r {p} hp = record { spans = λ s at b n. made p (keep_or_stop f r) s at from_no (λ _ _. from_stop) (λ a m ef. picked (λ e. omega (arith, got_place e, hp.spans s at a m ef)) from_stop (f a)) }

pub opt_least : {k : ℕ} {A : Type 0} {p : Reader A} → Least k p → Least 0 (opt p)
unfolding opt
opt_least {p = p} hp = record { spans = λ s at b n. made p (lack at) s at (λ e. omega (arith, got_place e)) (λ _ _. from_stop) (λ a m ef e. omega (arith, got_place e, hp.spans s at a m ef)) }

pub alt_least : {k : ℕ} {A : Type 0} {p q : Reader A} → Least k p → Least k q → Least k (alt p q)
unfolding alt
alt_least {p = p} {q = q} hp hq = record { spans = λ s at b n. made p (λ f. or_else f (q.reads s at)) s at (hq.spans s at b n) (λ _ _. from_stop) (λ a m ef e. omega (arith, got_place e, hp.spans s at a m ef)) }

pub seq_least : {j k : ℕ} {A B : Type 0} {p : Reader A} {q : A → Reader B} → Least j p → ((a : A) → Least k (q a)) → Least (j + k) (seq p q)
unfolding seq
seq_least {p = p} {q = q} hp hq = record { spans = λ s at b n. made p (λ f. then f (λ a m. (q a).reads s m)) s at from_no (λ _ _. from_stop) (λ a m ef e. omega (arith, hp.spans s at a m ef, (hq a).spans s m b n e)) }
