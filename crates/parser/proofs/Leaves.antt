-- The hope of single bytes and fields: which bytes complete them.
use Prim.Native.Nat.{ℕ, zero, suc, ◌+◌, ◌*◌, ◌-◌, ◌<◌, ◌≤◌}
use mathlib.Core.List.{List, [], ◌∷◌, ◌++◌, append_assoc, append-nil}
use mathlib.Core.Bool.{Bool, true, false}
use mathlib.Core.Path.{◌≡◌, refl, sym, ap, ◌∙◌}
use native.Mathlib.Omega.{arith}
use native.Mathlib.Nat.{add-zero}
use lib.ListN.{length, get_or, length-append, get_or-append}
use lib.Seq.{get_or-append_seam}
use lib.Dec.{ltb, leb, eqb}
use borrow.Author.Tests.{ltb-true, ltb-false, leb-true, leb-false, lt-ltb, le-leb, eq-eqb, ne_eqb, not-true}
use Rattle.parser.specs.Reading.{Found, no, got, stop, Reader, lit, seq, then, opt, lack, alt, failed, map, pick, or, and}
use Rattle.parser.specs.Digits.{is_digit, digits_from, digits_more, lowest, highest, reach, field}
use Rattle.parser.specs.Fields.{signed, preceded_by}
use Rattle.parser.proofs.Fields.{true≢false, and_first, and_second, DigitAt, digits_from_suc, highest_grows}
use Rattle.parser.proofs.Stable.{digit_stays}
use Rattle.parser.proofs.Places.{no≢got, stop≢got, Foreign, lit_fails, lit_foreign, alt_foreign, map_foreign}
use Rattle.parser.proofs.Hopeful.{Anything, Hopeful, Starts, Definite, AtEnd, at_end_definite, at_end_starts}

-- ---- single bytes

pub lit_starts : (c : ℕ) → Starts 1 (λ b. eqb b c ≡ true) Anything (lit c)
unfolding lit
lit_starts c s =
    let long = lt-ltb (length s) (length (s ++ c ∷ [])) (omega (arith, length-append s (c ∷ []))) in
    record {
      first = c;
      rest = [];
      value = tt;
      begins = eq-eqb c c refl;
      few = omega arith;
      fact = tt;
      reads = rw (long, get_or-append_seam s c [] 0, eq-eqb c c refl, length-append s (c ∷ []));
    }

pub lit_at_end : (c : ℕ) → AtEnd (lit c)
unfolding lit
lit_at_end c s at h = ltb-false at (length s) (not-true (ltb at (length s)) h)

pub lit_hopeful : (c : ℕ) → Hopeful 1 Anything (lit c)
lit_hopeful c = at_end_starts (lit c) (lit c) (lit_at_end c) (lit_starts c)

pub lit_definite : (c : ℕ) → Definite (lit c)
lit_definite c = at_end_definite (lit c) (lit_at_end c) (lit_fails c)

pub map_at_end : {A B : Type 0} (f : A → B) (p : Reader A) → AtEnd p → AtEnd (map f p)
unfolding map
map_at_end f p ep s at h = ep s at h

pub alt_at_end : {A : Type 0} (p q : Reader A) → AtEnd p → AtEnd q → AtEnd (alt p q)
unfolding alt
alt_at_end p q ep eq s at h = go (p.more s at) (failed (p.reads s at)) refl h
  where
    go : (m f : Bool) → p.more s at ≡ m → or m (and f (q.more s at)) ≡ true → length s ≤ at
    go true f em h = ep s at em
    go false true em h = eq s at h
    go false false em h = absurd (true≢false (sym h))

-- either sign
abbrev minus : Reader Bool
minus = map (λ _. true) (lit 45)

abbrev plus : Reader Bool
plus = map (λ _. false) (lit 43)

pub signed_at_end : AtEnd signed
signed_at_end = alt_at_end minus plus (map_at_end (λ _. true) (lit 45) (lit_at_end 45)) (map_at_end (λ _. false) (lit 43) (lit_at_end 43))

pub signed_foreign : (X : ℕ → Type 0) → ((c : ℕ) → X c → eqb c 45 ≡ false) → ((c : ℕ) → X c → eqb c 43 ≡ false) → Foreign X signed
signed_foreign X k l = alt_foreign X minus plus (map_foreign X (λ _. true) (lit 45) (lit_foreign X 45 k)) (map_foreign X (λ _. false) (lit 43) (lit_foreign X 43 l))

-- ---- fields: some digits reach every number between the least and the greatest

next_lowest : (n v : ℕ) → lowest n (v + 1) ≡ highest n v + 1
unfolding lowest highest
next_lowest zero v = refl
next_lowest (suc n) v = let e : (v + 1) * 10 ≡ v * 10 + 9 + 1 = omega arith in rw e (next_lowest n (v * 10 + 9))

record Next (lo hi n v : ℕ) : Type 0 where
  digit : ℕ
  small : digit ≤ 9
  reaches : reach lo hi n (v * 10 + digit) ≡ true

next_digit : (lo hi n v : ℕ) → lo ≤ hi → reach lo hi (suc n) v ≡ true → Next lo hi n v
unfolding reach lowest highest
next_digit lo hi n v le h = find 9 0 refl (rw (add-zero (v * 10)) (leb-true (lowest n (v * 10)) hi (and_second (leb lo (highest n (v * 10 + 9))) h)))
  where
    up : lo ≤ highest n (v * 10 + 9)
    up = leb-true lo (highest n (v * 10 + 9)) (and_first (leb lo (highest n (v * 10 + 9))) (leb (lowest n (v * 10)) hi) h)

    taken : (d : ℕ) → d ≤ 9 → lo ≤ highest n (v * 10 + d) → lowest n (v * 10 + d) ≤ hi → Next lo hi n v
    taken d hd hh hl = record { digit = d; small = hd; reaches = rw (le-leb lo (highest n (v * 10 + d)) hh, le-leb (lowest n (v * 10 + d)) hi hl) }

    past : (d : ℕ) → highest n (v * 10 + d) < lo → lowest n (v * 10 + (d + 1)) ≤ hi
    past d h = let e : v * 10 + (d + 1) ≡ v * 10 + d + 1 = omega arith in rw e (omega (arith, next_lowest n (v * 10 + d)))

    find : (k d : ℕ) → d + k ≡ 9 → lowest n (v * 10 + d) ≤ hi → Next lo hi n v
    find zero d e hl = let nine : d ≡ 9 = omega arith in taken d (omega arith) (rw nine up) hl
    find (suc k) d e hl = try (leb lo (highest n (v * 10 + d))) refl (find k (d + 1) (omega arith))
      where
        try : (t : Bool) → leb lo (highest n (v * 10 + d)) ≡ t → (lowest n (v * 10 + (d + 1)) ≤ hi → Next lo hi n v) → Next lo hi n v
        try true et ih = taken d (omega arith) (leb-true lo (highest n (v * 10 + d)) et) hl
        try false et ih = ih (past d (leb-false lo (highest n (v * 10 + d)) et))

-- digits that bring a number that can still reach lo' to hi' there, read by a field with a range around it
record Filled (lo hi lo' hi' n v : ℕ) (s : List ℕ) : Type 0 where
  x : List ℕ
  value : ℕ
  size : length x ≡ n
  heads : (c : ℕ) (y : List ℕ) → x ≡ c ∷ y → is_digit c ≡ true
  least : lo' ≤ value
  most : value ≤ hi'
  reads : digits_from lo hi n v (s ++ x) (length s) ≡ got value (length (s ++ x))

filled : (lo hi lo' hi' : ℕ) → lo ≤ lo' → hi' ≤ hi → lo' ≤ hi' → (n v : ℕ) (s : List ℕ) → reach lo' hi' n v ≡ true → Filled lo hi lo' hi' n v s
unfolding digits_from reach lowest highest
filled lo hi lo' hi' a b ab zero v s h =
    let l = leb-true lo' v (and_first (leb lo' v) (leb v hi') h) in
    let m = leb-true v hi' (and_second (leb lo' v) h) in
    record {
      x = [];
      value = v;
      size = refl;
      heads = λ c y e. absurd (let z : ◌≡◌ {A = ℕ} 0 1 = cc in omega arith);
      least = l;
      most = m;
      reads = rw (append-nil s, le-leb lo v (omega arith), le-leb v hi (omega arith));
    }
filled lo hi lo' hi' a b ab (suc n) v s h = go (next_digit lo' hi' n v ab h) (λ d hd. filled lo hi lo' hi' a b ab n (v * 10 + d) (s ++ (d + 48) ∷ []) hd)
  where
    go : (d : Next lo' hi' n v) → ((e : ℕ) → reach lo' hi' n (v * 10 + e) ≡ true → Filled lo hi lo' hi' n (v * 10 + e) (s ++ (e + 48) ∷ [])) → Filled lo hi lo' hi' (suc n) v s
    go d ih =
        let b = d.digit + 48 in
        let f = ih d.digit d.reaches in
        let t = s ++ b ∷ f.x in
        let seam : get_or t (length s) 0 ≡ b = get_or-append_seam s b f.x 0 in
        let is : is_digit b ≡ true = rw (le-leb 48 b (omega arith), le-leb b 57 (omega (arith, d.small))) in
        let here : DigitAt t (length s) = record { inside = lt-ltb (length s) (length t) (omega (arith, length-append s (b ∷ f.x))); is = rw seam is } in
        let back : b - 48 ≡ d.digit = omega arith in
        let same : t ≡ (s ++ b ∷ []) ++ f.x = sym (append_assoc s (b ∷ []) f.x) in
        let place : length s + 1 ≡ length (s ++ b ∷ []) = sym (length-append s (b ∷ [])) in
        record {
          x = b ∷ f.x;
          value = f.value;
          size = omega (arith, f.size);
          heads = λ c y e. let eq : b ≡ c = cc in rw (← eq) is;
          least = f.least;
          most = f.most;
          reads = digits_from_suc lo hi n v t (length s) here ∙ rw (seam, back, same, place) f.reads;
        }

-- the digits that a field still wants, wherever it stands open
abbrev pub DigitByte : ℕ → Type 0
DigitByte c = is_digit c ≡ true

abbrev pub From : ℕ → ℕ → ℕ → Type 0
From lo hi v = (lo ≤ v) × (v ≤ hi)

-- a narrower range that can be reached wherever the field's own can
abbrev pub Narrows : ℕ → ℕ → ℕ → ℕ → Type 0
Narrows lo hi lo' hi' = (n v : ℕ) → reach lo hi (suc n) v ≡ true → reach lo' hi' (suc n) v ≡ true

record Completed (lo hi lo' hi' n v : ℕ) (s : List ℕ) (at : ℕ) : Type 0 where
  first : ℕ
  rest : List ℕ
  value : ℕ
  digit : is_digit first ≡ true
  few : suc (length rest) ≤ n
  within : From lo' hi' value
  reads : digits_from lo hi n v (s ++ first ∷ rest) at ≡ got value (length (s ++ first ∷ rest))

of_filled : (lo hi lo' hi' n v : ℕ) (s : List ℕ) → Filled lo hi lo' hi' (suc n) v s → Completed lo hi lo' hi' (suc n) v s (length s)
of_filled lo hi lo' hi' n v s f = go f.x refl
  where
    go : (x : List ℕ) → f.x ≡ x → Completed lo hi lo' hi' (suc n) v s (length s)
    go [] e = absurd (let z = sym f.size ∙ ap length e in omega arith)
    go (c ∷ y) e = record { first = c; rest = y; value = f.value; digit = f.heads c y e; few = omega (arith, f.size, ap length e); within = (f.least, f.most); reads = rw e at f.reads }

completed : (lo hi lo' hi' : ℕ) → lo ≤ lo' → hi' ≤ hi → lo' ≤ hi' → Narrows lo hi lo' hi' → (n v : ℕ) (s : List ℕ) (at : ℕ) → at ≤ length s → digits_more lo hi n v s at ≡ true → Completed lo hi lo' hi' n v s at
unfolding digits_more
completed lo hi lo' hi' a b ab k zero v s at le h = absurd (true≢false (sym h))
completed lo hi lo' hi' a b ab k (suc n) v s at le h = go (ltb at (length s)) (is_digit (get_or s at 0)) refl refl h (completed lo hi lo' hi' a b ab k n (v * 10 + (get_or s at 0 - 48)) s (at + 1))
  where
    go : (t d : Bool) → ltb at (length s) ≡ t → is_digit (get_or s at 0) ≡ d → pick t (pick (and t d) (digits_more lo hi n (v * 10 + (get_or s at 0 - 48)) s (at + 1)) false) (reach lo hi (suc n) v) ≡ true → (at + 1 ≤ length s → digits_more lo hi n (v * 10 + (get_or s at 0 - 48)) s (at + 1) ≡ true → Completed lo hi lo' hi' n (v * 10 + (get_or s at 0 - 48)) s (at + 1)) → Completed lo hi lo' hi' (suc n) v s at
    go true true i d h ih =
        let e = ih (omega (arith, ltb-true at (length s) i)) h in
        let x = e.first ∷ e.rest in
        let here : DigitAt s at = record { inside = i; is = d } in
        let g : get_or (s ++ x) at 0 ≡ get_or s at 0 = get_or-append s x 0 at (ltb-true at (length s) i) in
        record { first = e.first; rest = e.rest; value = e.value; digit = e.digit; few = omega (arith, e.few); within = e.within; reads = digits_from_suc lo hi n v (s ++ x) at (digit_stays s x at here) ∙ rw g e.reads }
    go true false i d h ih = absurd (true≢false (sym h))
    go false d i _ h ih =
        let here : length s ≡ at = omega (arith, ltb-false at (length s) i) in
        rw (← here) (of_filled lo hi lo' hi' n v s (filled lo hi lo' hi' a b ab (suc n) v s (k n v h)))

pub field_hopeful_in : (n lo hi lo' hi' : ℕ) → lo ≤ lo' → hi' ≤ hi → lo' ≤ hi' → Narrows lo hi lo' hi' → Hopeful n (From lo' hi') (field n lo hi)
unfolding field
field_hopeful_in n lo hi lo' hi' a b ab k s at le h =
    let e = completed lo hi lo' hi' a b ab k n 0 s at le h in
    record { first = e.first; rest = e.rest; value = e.value; begins = tt; few = e.few; fact = e.within; reads = e.reads }

pub field_starts : (n lo hi lo' hi' : ℕ) → lo ≤ lo' → hi' ≤ hi → lo' ≤ hi' → reach lo' hi' (suc n) 0 ≡ true → Starts (suc n) DigitByte (From lo' hi') (field (suc n) lo hi)
unfolding field
field_starts n lo hi lo' hi' a b ab r s =
    let e = of_filled lo hi lo' hi' n 0 s (filled lo hi lo' hi' a b ab (suc n) 0 s r) in
    record { first = e.first; rest = e.rest; value = e.value; begins = e.digit; few = e.few; fact = e.within; reads = e.reads }

digits_definite : (lo hi n v : ℕ) (s : List ℕ) (at a m : ℕ) → digits_from lo hi n v s at ≡ got a m → digits_more lo hi n v s at ≡ false
unfolding digits_from digits_more
digits_definite lo hi zero v s at a m e = refl
digits_definite lo hi (suc n) v s at a m e = go (ltb at (length s)) (is_digit (get_or s at 0)) e (digits_definite lo hi n (v * 10 + (get_or s at 0 - 48)) s (at + 1) a m)
  where
    go : (t d : Bool) → pick (and t d) (digits_from lo hi n (v * 10 + (get_or s at 0 - 48)) s (at + 1)) no ≡ got a m → (digits_from lo hi n (v * 10 + (get_or s at 0 - 48)) s (at + 1) ≡ got a m → digits_more lo hi n (v * 10 + (get_or s at 0 - 48)) s (at + 1) ≡ false) → pick t (pick (and t d) (digits_more lo hi n (v * 10 + (get_or s at 0 - 48)) s (at + 1)) false) (reach lo hi (suc n) v) ≡ false
    go true true e ih = ih e
    go true false e ih = refl
    go false d e ih = absurd (no≢got e)

pub field_definite : (n lo hi : ℕ) → Definite (field n lo hi)
unfolding field
field_definite n lo hi s at a m e = digits_definite lo hi n 0 s at a m e

digits_within : (lo hi n v : ℕ) (s : List ℕ) (at a m : ℕ) → digits_from lo hi n v s at ≡ got a m → From lo hi a
unfolding digits_from
digits_within lo hi zero v s at a m e = go (leb lo v) (leb v hi) refl refl e
  where
    go : (t u : Bool) → leb lo v ≡ t → leb v hi ≡ u → pick (and t u) (got v at) no ≡ got a m → From lo hi a
    go true true l h e = let same : v ≡ a = cc in (rw (← same) (leb-true lo v l), rw (← same) (leb-true v hi h))
    go true false l h e = absurd (no≢got e)
    go false u l h e = absurd (no≢got e)
digits_within lo hi (suc n) v s at a m e = go (and (ltb at (length s)) (is_digit (get_or s at 0))) e (digits_within lo hi n (v * 10 + (get_or s at 0 - 48)) s (at + 1) a m)
  where
    go : (t : Bool) → pick t (digits_from lo hi n (v * 10 + (get_or s at 0 - 48)) s (at + 1)) no ≡ got a m → (digits_from lo hi n (v * 10 + (get_or s at 0 - 48)) s (at + 1) ≡ got a m → From lo hi a) → From lo hi a
    go true e ih = ih e
    go false e ih = absurd (no≢got e)

-- a field's number lies in its range
pub field_within : (n lo hi : ℕ) (s : List ℕ) (at a m : ℕ) → (field n lo hi).reads s at ≡ got a m → From lo hi a
unfolding field
field_within n lo hi s at a m e = digits_within lo hi n 0 s at a m e

-- and what lies in a range is read in a wider one too
digits_wider : (lo hi lo' hi' n v : ℕ) (s : List ℕ) (at a m : ℕ) → lo' ≤ lo → hi ≤ hi' → digits_from lo hi n v s at ≡ got a m → digits_from lo' hi' n v s at ≡ got a m
unfolding digits_from
digits_wider lo hi lo' hi' zero v s at a m l h e = go (leb lo v) (leb v hi) refl refl e
  where
    go : (t u : Bool) → leb lo v ≡ t → leb v hi ≡ u → pick (and t u) (got v at) no ≡ got a m → pick (and (leb lo' v) (leb v hi')) (got v at) no ≡ got a m
    go true true x y e = rw (le-leb lo' v (omega (arith, leb-true lo v x)), le-leb v hi' (omega (arith, leb-true v hi y))) e
    go true false x y e = absurd (no≢got e)
    go false u x y e = absurd (no≢got e)
digits_wider lo hi lo' hi' (suc n) v s at a m l h e = go (and (ltb at (length s)) (is_digit (get_or s at 0))) e (digits_wider lo hi lo' hi' n (v * 10 + (get_or s at 0 - 48)) s (at + 1) a m l h)
  where
    go : (t : Bool) → pick t (digits_from lo hi n (v * 10 + (get_or s at 0 - 48)) s (at + 1)) no ≡ got a m → (digits_from lo hi n (v * 10 + (get_or s at 0 - 48)) s (at + 1) ≡ got a m → digits_from lo' hi' n (v * 10 + (get_or s at 0 - 48)) s (at + 1) ≡ got a m) → pick t (digits_from lo' hi' n (v * 10 + (get_or s at 0 - 48)) s (at + 1)) no ≡ got a m
    go true e ih = ih e
    go false e ih = absurd (no≢got e)

pub field_wider : (n lo hi lo' hi' : ℕ) (s : List ℕ) (at a m : ℕ) → lo' ≤ lo → hi ≤ hi' → (field n lo hi).reads s at ≡ got a m → (field n lo' hi').reads s at ≡ got a m
unfolding field
field_wider n lo hi lo' hi' s at a m l h e = digits_wider lo hi lo' hi' n 0 s at a m l h e

pub preceded_within : (c n lo hi : ℕ) (s : List ℕ) (at a m : ℕ) → (preceded_by c (field n lo hi)).reads s at ≡ got a m → From lo hi a
unfolding seq opt
preceded_within c n lo hi s at a m e = go ((lit c).reads s at) e
  where
    go : (f : Found Unit) → then (lack at f) (λ _ k. (field n lo hi).reads s k) ≡ got a m → From lo hi a
    go no e = field_within n lo hi s at a m e
    go (stop r) e = absurd (stop≢got e)
    go (got u k) e = field_within n lo hi s k a m e

-- a digit is no other byte
pub digit_is_not : (c : ℕ) → is_digit c ≡ false → (b : ℕ) → DigitByte b → eqb b c ≡ false
digit_is_not c h b d = ne_eqb b c (λ e. true≢false (sym d ∙ rw e h))

-- a range from 0 on is reached above 0 too: some digit that is still to come can be 1
pub above_zero : (hi : ℕ) → 1 ≤ hi → Narrows 0 hi 1 hi
unfolding reach lowest highest
above_zero hi h n v r = rw (le-leb 1 (highest n (v * 10 + 9)) (omega (arith, highest_grows n (v * 10 + 9)))) (and_second (leb 0 (highest n (v * 10 + 9))) r)
