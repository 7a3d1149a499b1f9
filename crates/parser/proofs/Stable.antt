-- Where no byte more could matter, every longer input is read the same.
use Prim.Native.Nat.{ℕ, zero, suc, ◌+◌, ◌*◌, ◌-◌, ◌<◌, ◌≤◌}
use mathlib.Core.List.{List, [], ◌∷◌, ◌++◌}
use mathlib.Core.Bool.{Bool, true, false}
use mathlib.Core.Path.{◌≡◌, refl, sym, ◌∙◌}
use lib.ListN.{length, get_or, drop, length-append, length-drop, get_or-append}
use lib.Seq.{drop-append-le}
use lib.Dec.{ltb, leb}
use borrow.Author.Tests.{ltb-true, leb-true, leb-false, lt-ltb, le-leb, lt-leb, not-false}
use native.Mathlib.Omega.{arith}
use Rattle.parser.specs.Reading.{Found, no, got, stop, Reader, lit, seq, after, opt, alt, failed, verify, must, map, give, pick, or, and}
use Rattle.parser.specs.Digits.{is_digit, digits_from, digits_more, field, digits, number, number_from, run_at, of_run, at_the_end, any, at_most, run_as}
use Rattle.parser.proofs.Runs.{run_end, digits_inside, digits_more_lem, number_append, number_grows}
use Rattle.parser.proofs.Fields.{true≢false, and_right, DigitAt, OtherAt, digits_from_suc, digits_more_suc, digits_from_other, digits_more_other, digits_from_end, digits_more_end, out_of_reach, out_no, out_settled}

pub record Same {A : Type 0} (p : Reader A) (s x : List ℕ) (at : ℕ) : Type 0 where
  pub reads : p.reads (s ++ x) at ≡ p.reads s at
  pub more : p.more (s ++ x) at ≡ false

abbrev pub Stable : {A : Type 0} → Reader A → Type 0
Stable p = (s x : List ℕ) (at : ℕ) → p.more s at ≡ false → Same p s x at

inside : (s x : List ℕ) (at : ℕ) → ltb at (length s) ≡ true → ltb at (length (s ++ x)) ≡ true
inside s x at h = lt-ltb at (length (s ++ x)) (omega (arith, length-append s x, ltb-true at (length s) h))

pub lit_stable : (c : ℕ) → Stable (lit c)
unfolding lit
lit_stable c s x at h =
    let e = not-false (ltb at (length s)) h in
    record { reads = rw (inside s x at e, e, get_or-append s x 0 at (ltb-true _ _ e)); more = rw (inside s x at e) }

pub give_stable : {A : Type 0} (a : A) → Stable (give a)
unfolding give
give_stable a s x at h = record { reads = refl; more = refl }

pub verify_stable : {A : Type 0} (f : A → Bool) (p : Reader A) → Stable p → Stable (verify f p)
unfolding verify
verify_stable f p hp s x at h = record { reads = rw (hp s x at h).reads; more = (hp s x at h).more }

pub must_stable : {A : Type 0} (f : A → Bool) (r : ℕ) (p : Reader A) → Stable p → Stable (must f r p)
unfolding must
must_stable f r p hp s x at h = record { reads = rw (hp s x at h).reads; more = (hp s x at h).more }

pub map_stable : {A B : Type 0} (f : A → B) (p : Reader A) → Stable p → Stable (map f p)
unfolding map
map_stable f p hp s x at h = record { reads = rw (hp s x at h).reads; more = (hp s x at h).more }

pub opt_stable : {A : Type 0} (p : Reader A) → Stable p → Stable (opt p)
unfolding opt
opt_stable p hp s x at h = record { reads = rw (hp s x at h).reads; more = (hp s x at h).more }

pub or_false : (a b : Bool) → or a b ≡ false → (a ≡ false) × (b ≡ false)
or_false true b h = absurd (true≢false h)
or_false false b h = (refl, h)

pub seq_stable : {A B : Type 0} (p : Reader A) (q : A → Reader B) → Stable p → ((a : A) → Stable (q a)) → Stable (seq p q)
unfolding seq
seq_stable {A} p q hp hq s x at h = step (p.reads s at) refl (or_false (p.more s at) _ h).1
  where
    hs : Same p s x at
    hs = hp s x at (or_false (p.more s at) _ h).0

    step : (f : Found A) → p.reads s at ≡ f → after f (λ a n. (q a).more s n) ≡ false → Same (seq p q) s x at
    step no e h = record { reads = rw (hs.reads, e); more = rw (hs.more, hs.reads, e) }
    step (stop r) e h = record { reads = rw (hs.reads, e); more = rw (hs.more, hs.reads, e) }
    step (got a n) e h = record { reads = rw (hs.reads, e, (hq a s x n h).reads); more = rw (hs.more, hs.reads, e, (hq a s x n h).more) }

pub alt_stable : {A : Type 0} (p q : Reader A) → Stable p → Stable q → Stable (alt p q)
unfolding alt
alt_stable {A} p q hp hq s x at h = step (p.reads s at) refl (or_false (p.more s at) _ h).1
  where
    hs : Same p s x at
    hs = hp s x at (or_false (p.more s at) _ h).0

    step : (f : Found A) → p.reads s at ≡ f → and (failed f) (q.more s at) ≡ false → Same (alt p q) s x at
    step no e h = record { reads = rw (hs.reads, e, (hq s x at h).reads); more = rw (hs.more, hs.reads, e, (hq s x at h).more) }
    step (stop r) e h = record { reads = rw (hs.reads, e); more = rw (hs.more, hs.reads, e) }
    step (got a n) e h = record { reads = rw (hs.reads, e); more = rw (hs.more, hs.reads, e) }

-- ---- digits

-- a digit or another byte stands at a place whatever comes behind the input
pub digit_stays : (s x : List ℕ) (at : ℕ) → DigitAt s at → DigitAt (s ++ x) at
digit_stays s x at d = record { inside = inside s x at d.inside; is = rw (get_or-append s x 0 at (ltb-true _ _ d.inside)) d.is }

other_stays : (s x : List ℕ) (at : ℕ) → OtherAt s at → OtherAt (s ++ x) at
other_stays s x at d = record { inside = inside s x at d.inside; is = rw (get_or-append s x 0 at (ltb-true _ _ d.inside)) d.is }

record SameField (lo hi n v : ℕ) (s x : List ℕ) (at : ℕ) : Type 0 where
  reads : digits_from lo hi n v (s ++ x) at ≡ digits_from lo hi n v s at
  more : digits_more lo hi n v (s ++ x) at ≡ false

-- an N-digit field, once over N: no digit more could bring it into its range
field_same : (lo hi n v : ℕ) (s x : List ℕ) (at : ℕ) → digits_more lo hi n v s at ≡ false → SameField lo hi n v s x at
unfolding digits_from digits_more
field_same lo hi zero v s x at h = record { reads = refl; more = refl }
field_same lo hi (suc n) v s x at h = go (ltb at (length s)) (is_digit (get_or s at 0)) refl refl (field_same lo hi n (v * 10 + (get_or s at 0 - 48)) s x (at + 1))
  where
    pos : 0 < suc n
    pos = omega arith

    go : (t d : Bool) → ltb at (length s) ≡ t → is_digit (get_or s at 0) ≡ d → (digits_more lo hi n (v * 10 + (get_or s at 0 - 48)) s (at + 1) ≡ false → SameField lo hi n (v * 10 + (get_or s at 0 - 48)) s x (at + 1)) → SameField lo hi (suc n) v s x at
    go true true i d ih =
        let here : DigitAt s at = record { inside = i; is = d } in
        let there = digit_stays s x at here in
        let g : get_or (s ++ x) at 0 ≡ get_or s at 0 = get_or-append s x 0 at (ltb-true _ _ i) in
        let e = ih (sym (digits_more_suc lo hi n v s at here) ∙ h) in
        record {
          reads = digits_from_suc lo hi n v (s ++ x) at there ∙ rw g e.reads ∙ sym (digits_from_suc lo hi n v s at here);
          more = digits_more_suc lo hi n v (s ++ x) at there ∙ rw g e.more;
        }
    go true false i d ih =
        let here : OtherAt s at = record { inside = i; is = d } in
        let there = other_stays s x at here in
        record {
          reads = digits_from_other lo hi (suc n) v (s ++ x) at pos there ∙ sym (digits_from_other lo hi (suc n) v s at pos here);
          more = digits_more_other lo hi (suc n) v (s ++ x) at pos there;
        }
    go false d i e ih =
        let out = out_of_reach lo hi (suc n) v (sym (digits_more_end lo hi (suc n) v s at pos i) ∙ h) in
        record { reads = out_no lo hi (suc n) v (s ++ x) at out ∙ sym (digits_from_end lo hi (suc n) v s at pos i); more = out_settled lo hi (suc n) v (s ++ x) at out }

pub field_stable : (n lo hi : ℕ) → Stable (field n lo hi)
unfolding field
field_stable n lo hi s x at h = let e = field_same lo hi n 0 s x at h in record { reads = e.reads; more = e.more }

-- a run that ends inside the input ends there in every longer one
run_stays : (s x : List ℕ) (at : ℕ) → at_the_end s at ≡ false → (run_at (s ++ x) at ≡ run_at s at) × (at_the_end (s ++ x) at ≡ false)
run_stays s x at h =
    let i = ltb-true (at + length (run_at s at)) (length s) (not-false (ltb (at + length (run_at s at)) (length s)) h) in
    let e : run_at (s ++ x) at ≡ run_at s at = rw (drop-append-le at s x (omega arith)) (digits_inside (drop at s) x (rw (length-drop at s) (omega arith))) in
    (e, rw (e, lt-ltb (at + length (run_at s at)) (length (s ++ x)) (omega (arith, length-append s x))))

-- and a run at the end only grows
run_grows : (s x : List ℕ) (at : ℕ) → number (run_at s at) ≤ number (run_at (s ++ x) at)
unfolding number_from
run_grows s x at = go (leb at (length s)) refl
  where
    go : (t : Bool) → leb at (length s) ≡ t → number (run_at s at) ≤ number (run_at (s ++ x) at)
    go true e =
        let m = digits_more_lem (drop at s) x in
        rw (drop-append-le at s x (leb-true at (length s) e), m.1, number_append (digits (drop at s)) m.0 0) (number_grows m.0 (number (digits (drop at s))))
    go false e = rw (run_end s at (omega (arith, leb-false at (length s) e))) (number_grows (run_at (s ++ x) at) 0)

-- a number that is refused stays refused as it grows with more digits, and 0, the number of no digits, is not refused
pub record Growing (may : ℕ → Bool) : Type 0 where
  pub none : may 0 ≡ true
  pub stays : (m n : ℕ) → m ≤ n → may m ≡ false → may n ≡ false

pub any_growing : Growing any
any_growing = record { none = refl; stays = λ m n h e. e }

pub most_growing : (most : ℕ) → Growing (at_most most)
most_growing most = record { none = le-leb 0 most (omega arith); stays = λ m n h e. lt-leb n most (omega (arith, leb-false m most e)) }

pub run_stable : {A : Type 0} (f : List ℕ → A) {may : ℕ → Bool} (g : Growing may) (r : ℕ) → Stable (run_as f may r)
unfolding run_as number_from
run_stable f {may} g r s x at h = go (at_the_end s at) refl h
  where
    none : may 0 ≡ false → ⊥
    none e = true≢false (sym g.none ∙ e)

    still : (d d' : List ℕ) → number d ≤ number d' → may (number d) ≡ false → (may (number d') ≡ false) × (of_run d' no (pick (may (number d')) (got (f d') (at + length d')) (stop r)) ≡ of_run d no (pick (may (number d)) (got (f d) (at + length d)) (stop r)))
    still [] d' l big = absurd (none big)
    still (b ∷ d) [] l big = absurd (none (g.stays (number (b ∷ d)) 0 l big))
    still (b ∷ d) (b' ∷ d') l big = let big' = g.stays (number (b ∷ d)) (number (b' ∷ d')) l big in (big', rw (big, big'))

    past : may (number (run_at s at)) ≡ false → Same (run_as f may r) s x at
    past big = let e = still (run_at s at) (run_at (s ++ x) at) (run_grows s x at) big in record { reads = e.1; more = and_right (at_the_end (s ++ x) at) e.0 }

    go : (t : Bool) → at_the_end s at ≡ t → and t (may (number (run_at s at))) ≡ false → Same (run_as f may r) s x at
    go true e h = past h
    go false e h = let k = run_stays s x at e in record { reads = rw k.0; more = rw k.1 }
