-- Laws of digit fields: more digits never make a number smaller, and some n digits reach every number between the least and the greatest.
use Prim.Native.Nat.{ℕ, zero, suc, ◌+◌, ◌*◌, ◌-◌, ◌<◌, ◌≤◌}
use mathlib.Core.List.{List}
use mathlib.Core.Bool.{Bool, true, false}
use mathlib.Core.Path.{◌≡◌, refl, sym, ◌∙◌}
use mathlib.Core.Logic.{◌⊎◌, inl, inr}
use native.Mathlib.Omega.{arith}
use native.Mathlib.Numerals.{sub-one}
use lib.ListN.{length, get_or}
use lib.Dec.{ltb, leb}
use borrow.Author.Tests.{ltb-true, ltb-false, leb-true, leb-false, lt-ltb, le-leb, lt-leb}
use Rattle.parser.specs.Reading.{no, pick, and}
use Rattle.parser.specs.Digits.{is_digit, digits_from, digits_more, lowest, highest, reach}

pub true≢false : true ≡ false → ⊥
true≢false e = let z : ◌≡◌ {A = ℕ} 0 1 = cc in omega arith

pub pick_same : {A : Type 0} (t : Bool) {x y : A} → x ≡ y → pick t x y ≡ y
pick_same true e = e
pick_same false e = refl

pub and_right : (a : Bool) {b : Bool} → b ≡ false → and a b ≡ false
and_right true e = e
and_right false e = refl

pub and_first : (a b : Bool) → and a b ≡ true → a ≡ true
and_first true b e = refl
and_first false b e = e

pub and_true : (a : Bool) → and a true ≡ a
and_true true = refl
and_true false = refl

pub and_second : (a : Bool) {b : Bool} → and a b ≡ true → b ≡ true
and_second true e = e
and_second false e = absurd (true≢false (sym e))

pub lowest_grows : (n v : ℕ) → v ≤ lowest n v
unfolding lowest
lowest_grows zero v = omega arith
lowest_grows (suc n) v = omega (arith, lowest_grows n (v * 10))

pub highest_grows : (n v : ℕ) → v ≤ highest n v
unfolding highest
highest_grows zero v = omega arith
highest_grows (suc n) v = omega (arith, highest_grows n (v * 10 + 9))

-- one digit fewer to come
pub lowest_step : (n v : ℕ) → 0 < n → lowest n v ≡ lowest (n - 1) (v * 10)
unfolding lowest
lowest_step zero v h = absurd (omega arith)
lowest_step (suc n) v h = rw (sub-one (suc n))

pub highest_step : (n v : ℕ) → 0 < n → highest n v ≡ highest (n - 1) (v * 10 + 9)
unfolding highest
highest_step zero v h = absurd (omega arith)
highest_step (suc n) v h = rw (sub-one (suc n))

-- a digit stands at a place
pub record DigitAt (s : List ℕ) (at : ℕ) : Type 0 where
  pub inside : ltb at (length s) ≡ true
  pub is : is_digit (get_or s at 0) ≡ true

pub digits_from_suc : (lo hi n v : ℕ) (s : List ℕ) (at : ℕ) → DigitAt s at → digits_from lo hi (suc n) v s at ≡ digits_from lo hi n (v * 10 + (get_or s at 0 - 48)) s (at + 1)
unfolding digits_from
digits_from_suc lo hi n v s at d = rw (d.inside, d.is)

pub digits_more_suc : (lo hi n v : ℕ) (s : List ℕ) (at : ℕ) → DigitAt s at → digits_more lo hi (suc n) v s at ≡ digits_more lo hi n (v * 10 + (get_or s at 0 - 48)) s (at + 1)
unfolding digits_more
digits_more_suc lo hi n v s at d = rw (d.inside, d.is)

pub digits_from_step : (lo hi n v : ℕ) (s : List ℕ) (at : ℕ) → 0 < n → DigitAt s at → digits_from lo hi n v s at ≡ digits_from lo hi (n - 1) (v * 10 + (get_or s at 0 - 48)) s (at + 1)
digits_from_step lo hi zero v s at h d = absurd (omega arith)
digits_from_step lo hi (suc n) v s at h d = rw (sub-one (suc n)) (digits_from_suc lo hi n v s at d)

pub digits_more_step : (lo hi n v : ℕ) (s : List ℕ) (at : ℕ) → 0 < n → DigitAt s at → digits_more lo hi n v s at ≡ digits_more lo hi (n - 1) (v * 10 + (get_or s at 0 - 48)) s (at + 1)
digits_more_step lo hi zero v s at h d = absurd (omega arith)
digits_more_step lo hi (suc n) v s at h d = rw (sub-one (suc n)) (digits_more_suc lo hi n v s at d)

-- another byte stands at a place
pub record OtherAt (s : List ℕ) (at : ℕ) : Type 0 where
  pub inside : ltb at (length s) ≡ true
  pub is : is_digit (get_or s at 0) ≡ false

pub digits_from_other : (lo hi n v : ℕ) (s : List ℕ) (at : ℕ) → 0 < n → OtherAt s at → digits_from lo hi n v s at ≡ no
unfolding digits_from
digits_from_other lo hi zero v s at h d = absurd (omega arith)
digits_from_other lo hi (suc n) v s at h d = rw (d.inside, d.is)

pub digits_more_other : (lo hi n v : ℕ) (s : List ℕ) (at : ℕ) → 0 < n → OtherAt s at → digits_more lo hi n v s at ≡ false
unfolding digits_more
digits_more_other lo hi zero v s at h d = refl
digits_more_other lo hi (suc n) v s at h d = rw (d.inside, d.is)

-- which it is, by the byte
pub digit_at : (s : List ℕ) (at : ℕ) → at < length s → 48 ≤ get_or s at 0 → get_or s at 0 ≤ 57 → DigitAt s at
digit_at s at h a b = record { inside = lt-ltb at (length s) h; is = rw (le-leb 48 (get_or s at 0) a, le-leb (get_or s at 0) 57 b) }

pub below_digits : (s : List ℕ) (at : ℕ) → at < length s → get_or s at 0 < 48 → OtherAt s at
below_digits s at h a = record { inside = lt-ltb at (length s) h; is = rw (lt-leb 48 (get_or s at 0) a) }

pub above_digits : (s : List ℕ) (at : ℕ) → at < length s → 57 < get_or s at 0 → OtherAt s at
above_digits s at h a = record { inside = lt-ltb at (length s) h; is = rw (le-leb 48 (get_or s at 0) (omega arith), lt-leb (get_or s at 0) 57 a) }

pub digit_within : (b : ℕ) → is_digit b ≡ true → (48 ≤ b) × (b ≤ 57)
digit_within b e = (leb-true 48 b (and_first (leb 48 b) (leb b 57) e), leb-true b 57 (and_second (leb 48 b) e))

pub other_at : (s : List ℕ) (at : ℕ) → at < length s → (48 ≤ get_or s at 0 → get_or s at 0 ≤ 57 → ⊥) → OtherAt s at
other_at s at h n = go (ltb (get_or s at 0) 48) (ltb 57 (get_or s at 0)) refl refl
  where
    go : (t u : Bool) → ltb (get_or s at 0) 48 ≡ t → ltb 57 (get_or s at 0) ≡ u → OtherAt s at
    go true u e f = below_digits s at h (ltb-true (get_or s at 0) 48 e)
    go false true e f = above_digits s at h (ltb-true 57 (get_or s at 0) f)
    go false false e f = absurd (n (ltb-false (get_or s at 0) 48 e) (ltb-false 57 (get_or s at 0) f))

-- the input has ended
pub digits_from_end : (lo hi n v : ℕ) (s : List ℕ) (at : ℕ) → 0 < n → ltb at (length s) ≡ false → digits_from lo hi n v s at ≡ no
unfolding digits_from
digits_from_end lo hi zero v s at h e = absurd (omega arith)
digits_from_end lo hi (suc n) v s at h e = rw e

pub digits_more_end : (lo hi n v : ℕ) (s : List ℕ) (at : ℕ) → 0 < n → ltb at (length s) ≡ false → digits_more lo hi n v s at ≡ reach lo hi n v
unfolding digits_more
digits_more_end lo hi zero v s at h e = absurd (omega arith)
digits_more_end lo hi (suc n) v s at h e = rw e

lowest_mono : (n v w : ℕ) → v ≤ w → lowest n v ≤ lowest n w
unfolding lowest
lowest_mono zero v w h = h
lowest_mono (suc n) v w h = lowest_mono n (v * 10) (w * 10) (omega arith)

highest_mono : (n v w : ℕ) → v ≤ w → highest n v ≤ highest n w
unfolding highest
highest_mono zero v w h = h
highest_mono (suc n) v w h = highest_mono n (v * 10 + 9) (w * 10 + 9) (omega arith)

-- no n more digits after v make a number from lo to hi
abbrev pub Out : ℕ → ℕ → ℕ → ℕ → Type 0
Out lo hi n v = (highest n v < lo) ⊎ (hi < lowest n v)

pub out_of_reach : (lo hi n v : ℕ) → reach lo hi n v ≡ false → Out lo hi n v
unfolding reach
out_of_reach lo hi n v h = go (leb lo (highest n v)) refl h
  where
    go : (t : Bool) → leb lo (highest n v) ≡ t → and t (leb (lowest n v) hi) ≡ false → Out lo hi n v
    go true e h = inr (leb-false (lowest n v) hi h)
    go false e h = inl (leb-false lo (highest n v) e)

out_step : (lo hi n v d : ℕ) → d ≤ 9 → Out lo hi (suc n) v → Out lo hi n (v * 10 + d)
unfolding lowest highest
out_step lo hi n v d hd (inl h) = inl (omega (arith, h, highest_mono n (v * 10 + d) (v * 10 + 9) (omega arith)))
out_step lo hi n v d hd (inr h) = inr (omega (arith, h, lowest_mono n (v * 10) (v * 10 + d) (omega arith)))

pub out_no : (lo hi n v : ℕ) (s : List ℕ) (at : ℕ) → Out lo hi n v → digits_from lo hi n v s at ≡ no
unfolding digits_from lowest highest
out_no lo hi zero v s at (inl h) = rw (lt-leb lo v h)
out_no lo hi zero v s at (inr h) = rw (and_right (leb lo v) (lt-leb v hi h))
out_no lo hi (suc n) v s at o = go (is_digit (get_or s at 0)) refl (λ h. out_no lo hi n (v * 10 + (get_or s at 0 - 48)) s (at + 1) (out_step lo hi n v (get_or s at 0 - 48) h o))
  where
    go : (t : Bool) → is_digit (get_or s at 0) ≡ t → (get_or s at 0 - 48 ≤ 9 → digits_from lo hi n (v * 10 + (get_or s at 0 - 48)) s (at + 1) ≡ no) → pick (and (ltb at (length s)) (is_digit (get_or s at 0))) (digits_from lo hi n (v * 10 + (get_or s at 0 - 48)) s (at + 1)) no ≡ no
    go true e ih = pick_same (and (ltb at (length s)) (is_digit (get_or s at 0))) (ih (omega (arith, leb-true (get_or s at 0) 57 (and_second (leb 48 (get_or s at 0)) e))))
    go false e ih = rw (and_right (ltb at (length s)) e)

pub out_settled : (lo hi n v : ℕ) (s : List ℕ) (at : ℕ) → Out lo hi n v → digits_more lo hi n v s at ≡ false
unfolding digits_more reach
out_settled lo hi zero v s at o = refl
out_settled lo hi (suc n) v s at o = go (is_digit (get_or s at 0)) refl (λ h. out_settled lo hi n (v * 10 + (get_or s at 0 - 48)) s (at + 1) (out_step lo hi n v (get_or s at 0 - 48) h o))
  where
    not_reached : Out lo hi (suc n) v → and (leb lo (highest (suc n) v)) (leb (lowest (suc n) v) hi) ≡ false
    not_reached (inl h) = rw (lt-leb lo (highest (suc n) v) h)
    not_reached (inr h) = and_right (leb lo (highest (suc n) v)) (lt-leb (lowest (suc n) v) hi h)

    within_input : (t : Bool) → is_digit (get_or s at 0) ≡ t → (get_or s at 0 - 48 ≤ 9 → digits_more lo hi n (v * 10 + (get_or s at 0 - 48)) s (at + 1) ≡ false) → pick (and (ltb at (length s)) (is_digit (get_or s at 0))) (digits_more lo hi n (v * 10 + (get_or s at 0 - 48)) s (at + 1)) false ≡ false
    within_input true e ih = pick_same (and (ltb at (length s)) (is_digit (get_or s at 0))) (ih (omega (arith, leb-true (get_or s at 0) 57 (and_second (leb 48 (get_or s at 0)) e))))
    within_input false e ih = rw (and_right (ltb at (length s)) e)

    go : (t : Bool) → is_digit (get_or s at 0) ≡ t → (get_or s at 0 - 48 ≤ 9 → digits_more lo hi n (v * 10 + (get_or s at 0 - 48)) s (at + 1) ≡ false) → pick (ltb at (length s)) (pick (and (ltb at (length s)) (is_digit (get_or s at 0))) (digits_more lo hi n (v * 10 + (get_or s at 0 - 48)) s (at + 1)) false) (and (leb lo (highest (suc n) v)) (leb (lowest (suc n) v) hi)) ≡ false
    go t e ih = pick_same (ltb at (length s)) (within_input t e ih ∙ sym (not_reached o)) ∙ not_reached o

-- a number above the range stays above it, whatever digits follow
pub above : (lo hi n v : ℕ) → hi < v → Out lo hi n v
above lo hi n v h = inr (omega (arith, lowest_grows n v))
