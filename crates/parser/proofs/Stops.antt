-- By which numbers a reader may stop the reading: single bytes and fields by none, tests and runs by their own, and whatever is made of parts by
-- those of its parts.
use Prim.Native.Nat.{ℕ, zero, suc, ◌+◌, ◌*◌, ◌-◌}
use mathlib.Core.List.{List, [], ◌∷◌}
use mathlib.Core.Bool.{Bool}
use mathlib.Core.Path.{◌≡◌, refl, sym, ◌∙◌}
use lib.ListN.{length, get_or}
use lib.Dec.{ltb, eqb}
use Rattle.parser.specs.Reading.{Found, no, got, stop, Reader, lit, seq, then, opt, lack, alt, or_else, verify, keep, must, keep_or_stop, map, map_found, give, pick, and, within}
use Rattle.parser.specs.Digits.{digit, digits_from, field, number, run_at, of_run, run_as}
use Rattle.parser.proofs.Places.{no≢stop, stop≢got, picked, made}

-- what stops the reading has a number that P allows
pub record StopsBy (P : ℕ → Type 0) {A : Type 0} (p : Reader A) : Type 0 where
  pub by : (s : List ℕ) (at r : ℕ) → p.reads s at ≡ stop r → P r

-- document 01's numbers of a reading that stops: 1, no form; 2, a number that is too big
pub data OneOrTwo : ℕ → Type 0 where
  no_form_lem : OneOrTwo 1
  too_big : OneOrTwo 2

-- ---- what is found where the reading stops

nothing : {X A : Type 0} {r : ℕ} → ◌≡◌ {A = Found A} no (stop r) → X
nothing e = absurd (no≢stop e)

given : {X A : Type 0} {a : A} {n r : ℕ} → got a n ≡ stop r → X
given e = absurd (stop≢got (sym e))

own : (P : ℕ → Type 0) {A : Type 0} {q r : ℕ} → P q → ◌≡◌ {A = Found A} (stop q) (stop r) → P r
own P {q = q} {r = r} h e = let same : q ≡ r = cc in rw (← same) h

-- what a reading is made into, where a stop is left as it is
stop_made : {P : ℕ → Type 0} {A B : Type 0} {p : Reader A} → StopsBy P p → (h : Found A → Found B) → ((q : ℕ) → h (stop q) ≡ stop q) → (s : List ℕ) (at r : ℕ) → (h no ≡ stop r → P r) → ((a : A) (n : ℕ) → h (got a n) ≡ stop r → P r) → h (p.reads s at) ≡ stop r → P r
stop_made {P} {p = p} hp h left s at r none some = made p h s at none (λ q ef e. own P (hp.by s at q ef) (sym (left q) ∙ e)) (λ a n _. some a n)

digits_stop : {X : Type 0} (lo hi n v : ℕ) (s : List ℕ) (at r : ℕ) → digits_from lo hi n v s at ≡ stop r → X
unfolding digits_from
digits_stop lo hi zero v s at r = picked given nothing (within lo hi v)
digits_stop lo hi (suc n) v s at r = picked (digits_stop lo hi n (v * 10 + (get_or s at 0 - 48)) s (at + 1) r) nothing (digit s at)

module _ {P : ℕ → Type 0} where
  -- ---- single bytes, fields and runs

  pub lit_stops : (c : ℕ) → StopsBy P (lit c)
  unfolding lit
  lit_stops c = record { by = λ s at r. picked given nothing (and (ltb at (length s)) (eqb (get_or s at 0) c)) }

  pub field_stops : (n lo hi : ℕ) → StopsBy P (field n lo hi)
  unfolding field
  field_stops n lo hi = record { by = λ s at r. digits_stop lo hi n 0 s at r }

  pub run_stops : {A : Type 0} (f : List ℕ → A) (may : ℕ → Bool) (r : ℕ) → P r → StopsBy P (run_as f may r)
  unfolding run_as
  run_stops f may r h = record { by = λ s at q. go at q (run_at s at) }
    where
      go : (at q : ℕ) (d : List ℕ) → of_run d no (pick (may (number d)) (got (f d) (at + length d)) (stop r)) ≡ stop q → P q
      go at q [] = nothing
      go at q (b ∷ d) = picked given (own P h) (may (number (b ∷ d)))

  -- ---- one law for each combinator

  pub give_stops : {A : Type 0} (a : A) → StopsBy P (give a)
  unfolding give
  give_stops a = record { by = λ s at r. given }

  pub map_stops : {A B : Type 0} (f : A → B) {p : Reader A} → StopsBy P p → StopsBy P (map f p)
  unfolding map
  map_stops f hp = record { by = λ s at r. stop_made hp (map_found f) (λ _. refl) s at r nothing (λ a n. given) }

  pub verify_stops : {A : Type 0} (f : A → Bool) {p : Reader A} → StopsBy P p → StopsBy P (verify f p)
  unfolding verify
  verify_stops f hp = record { by = λ s at r. stop_made hp (keep f) (λ _. refl) s at r nothing (λ a n. picked given nothing (f a)) }

  pub must_stops : {A : Type 0} (f : A → Bool) (r : ℕ) → P r → {p : Reader A} → StopsBy P p → StopsBy P (must f r p)
  unfolding must
  must_stops f r h hp = record { by = λ s at q. stop_made hp (keep_or_stop f r) (λ _. refl) s at q nothing (λ a n. picked given (own P h) (f a)) }

  pub opt_stops : {A : Type 0} {p : Reader A} → StopsBy P p → StopsBy P (opt p)
  unfolding opt
  opt_stops hp = record { by = λ s at r. stop_made hp (lack at) (λ _. refl) s at r given (λ a n. given) }

  pub alt_stops : {A : Type 0} {p q : Reader A} → StopsBy P p → StopsBy P q → StopsBy P (alt p q)
  unfolding alt
  alt_stops {q = q} hp hq = record { by = λ s at r. stop_made hp (λ f. or_else f (q.reads s at)) (λ _. refl) s at r (hq.by s at r) (λ a n. given) }

  pub seq_stops : {A B : Type 0} {p : Reader A} {q : A → Reader B} → StopsBy P p → ((a : A) → StopsBy P (q a)) → StopsBy P (seq p q)
  unfolding seq
  seq_stops {q = q} hp hq = record { by = λ s at r. stop_made hp (λ f. then f (λ a n. (q a).reads s n)) (λ _. refl) s at r nothing (λ a n. (hq a).by s n r) }
