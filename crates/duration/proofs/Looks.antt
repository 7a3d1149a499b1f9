-- What a look is made of, and what it tells: the part that stands at a place, and whether the input ended there.
use Rattle.std.proofs.Common.{◌≡◌, ℕ, ◌+◌, ◌-◌, ◌*◌, ◌<◌, ◌≤◌, Bool, true, false, ltb, List, length, get_or, sym, refl, ap, ◌∙◌, arith, ltb-false, le-ltb, lt-ltb, eq-eqb, ne_eqb}
use Rattle.parser.specs.Reading.{Found, lit}
use Rattle.parser.specs.Read.{place_after}
use Rattle.parser.specs.Digits.{is_digit, digit}
use Rattle.parser.proofs.Fields.{and_first, and_second, true≢false, digit_within, DigitAt, OtherAt}
use Rattle.parts.specs.Items.{item_at, part_of, absent_part, part_at}
use Rattle.std.specs.declared.result.Result.TheVariants.{Err}
use Rattle.parser.specs.declared.Miss.TheVariants as miss
use Rattle.parts.specs.declared.Part.{Part}
use Rattle.parts.proofs.Items.{end_item, other_item, digit_item, last_digit_item, two_digit_item, last_two_item}
use Rattle.duration.specs.declared.DurationTimeParts.{DurationTimeParts}
use Rattle.duration.specs.Items.{is_cut, unless_too_big}
use Rattle.duration.specs.declared.Looked.{Looked}
use Rattle.duration.specs.declared.Start.{Start}
use Rattle.duration.specs.Looks.{long_run, no_part, Looks, none, one, two, long, Short, Starts}

-- ---- a digit by its test and by its place

module _ (s : List ℕ) (at : ℕ) where
  digit_is : DigitAt s at → digit s at ≡ true
  digit_is d = rw (d.inside, d.is)

  digit_of : digit s at ≡ true → DigitAt s at
  digit_of h = record { inside = and_first (ltb at (length s)) _ h; is = and_second (ltb at (length s)) h }

  not_both : DigitAt s at → OtherAt s at → ⊥
  not_both d o = true≢false (sym d.is ∙ o.is)

  pub digit_bytes : DigitAt s at → (48 ≤ get_or s at 0) × (get_or s at 0 ≤ 57)
  digit_bytes d = digit_within (get_or s at 0) d.is

  other_of : at < length s → is_digit (get_or s at 0) ≡ false → OtherAt s at
  other_of h o = record { inside = lt-ltb at (length s) h; is = o }

-- ---- what a look is made of

module _ (s : List ℕ) (at : ℕ) where
  pub no_room : length s ≤ at + 1 → Looks s at no_part
  no_room h = none refl (λ d. last_digit_item s at (digit_of s at d) h)

  pub no_letter_left : DigitAt s at → DigitAt s (at + 1) → length s ≤ at + 2 → Looks s at no_part
  no_letter_left d e h = none refl (λ _. last_two_item s at d e h)

-- ---- a look at a letter

pub record One (s : List ℕ) (at c : ℕ) : Type 0 where
  pub letter : get_or s (at + 1) 0 ≡ c
  pub room : at + 2 ≤ length s
  pub ends : OtherAt s (at + 1)

pub record Two (s : List ℕ) (at c : ℕ) : Type 0 where
  pub letter : get_or s (at + 2) 0 ≡ c
  pub room : at + 3 ≤ length s
  pub first : DigitAt s at
  pub second : DigitAt s (at + 1)
  pub ends : OtherAt s (at + 2)

module _ (s : List ℕ) (at l c : ℕ) (small : c < 256) where
  pub look_one : Looks s at l → l ≡ c → One s at c
  look_one (none e k) q = absurd (omega arith)
  look_one (one e b r o) q = record { letter = sym e ∙ q; room = r; ends = other_of s (at + 1) (omega arith) o }
  look_one (two e b r d f o) q = absurd (omega arith)
  look_one (long e d) q = absurd (omega arith)

  pub look_two : Looks s at l → l ≡ c + 256 → Two s at c
  look_two (none e k) q = absurd (omega arith)
  look_two (one e b r o) q = absurd (omega arith)
  look_two (two e b r d f o) q = record {
    letter = omega arith;
    room = r;
    first = digit_of s at d;
    second = digit_of s (at + 1) f;
    ends = other_of s (at + 2) (omega arith) o;
  }
  look_two (long e d) q = absurd (omega arith)

-- ---- the part of a letter

module _ (s : List ℕ) (at c : ℕ) where
  one_part : One s at c → DigitAt s at → part_at s at c ≡ part_of (get_or s at 0 - 48) (at + 2)
  one_part o d = rw (digit_item s at d o.ends, eq-eqb _ _ o.letter)

  two_part : Two s at c → part_at s at c ≡ part_of ((get_or s at 0 - 48) * 10 + (get_or s (at + 1) 0 - 48)) (at + 3)
  two_part t = rw (two_digit_item s at t.first t.second t.ends, eq-eqb _ _ t.letter)

-- a place holds a digit, another byte, or the end
data Place (s : List ℕ) (at : ℕ) : Type 0 where
  digit_here : DigitAt s at → Place s at
  other_here : OtherAt s at → Place s at
  end_here : length s ≤ at → Place s at

place : (s : List ℕ) (at : ℕ) → Place s at
place s at = go (ltb at (length s)) (is_digit (get_or s at 0)) refl refl
  where
    go : (t u : Bool) → ltb at (length s) ≡ t → is_digit (get_or s at 0) ≡ u → Place s at
    go true true i e = digit_here (record { inside = i; is = e })
    go true false i e = other_here (record { inside = i; is = e })
    go false u i e = end_here (ltb-false at (length s) i)

-- what stands where a look tells of no long run: no number that is too big; and none is left open but where no part is told
pub record Stands (s : List ℕ) (at l : ℕ) : Type 0 where
  pub small : (f : Found DurationTimeParts) → unless_too_big (item_at s at) f ≡ f
  pub closed : (l ≡ no_part → ⊥) → is_cut (item_at s at) ≡ false

module _ (s : List ℕ) (at l : ℕ) (short : l ≡ long_run → ⊥) where
  pub look_stands : Looks s at l → Stands s at l
  look_stands (none e k) = go (place s at)
    where
      go : Place s at → Stands s at l
      go (digit_here d) = record { small = λ f. rw (k (digit_is s at d)); closed = λ n. absurd (n e) }
      go (other_here o) = record { small = λ f. rw (other_item s at o); closed = λ n. absurd (n e) }
      go (end_here h) = record { small = λ f. rw (end_item s at h); closed = λ n. absurd (n e) }
  look_stands (one e b r o) = go (place s at)
    where
      ends : OtherAt s (at + 1)
      ends = other_of s (at + 1) (omega arith) o

      go : Place s at → Stands s at l
      go (digit_here d) = record { small = λ f. rw (digit_item s at d ends); closed = λ n. rw (digit_item s at d ends) }
      go (other_here x) = record { small = λ f. rw (other_item s at x); closed = λ n. rw (other_item s at x) }
      go (end_here h) = absurd (omega arith)
  look_stands (two e b r d f o) =
      let i = two_digit_item s at (digit_of s at d) (digit_of s (at + 1) f) (other_of s (at + 2) (omega arith) o) in
      record { small = λ f. rw i; closed = λ n. rw i }
  look_stands (long e d) = absurd (short e)

  -- it is no part of a letter that it does not tell
  pub look_absent : (c : ℕ) → Looks s at l → (l ≡ c → OtherAt s at) → (l ≡ c + 256 → ⊥) → part_at s at c ≡ absent_part at
  look_absent c (none e k) n m = go (place s at)
    where
      go : Place s at → part_at s at c ≡ absent_part at
      go (digit_here d) = rw (k (digit_is s at d))
      go (other_here o) = rw (other_item s at o)
      go (end_here h) = rw (end_item s at h)
  look_absent c (one e b r o) n m = go (place s at)
    where
      ends : OtherAt s (at + 1)
      ends = other_of s (at + 1) (omega arith) o

      go : Place s at → part_at s at c ≡ absent_part at
      go (digit_here d) = rw (digit_item s at d ends, ne_eqb (get_or s (at + 1) 0) c (λ z. not_both s at d (n (e ∙ z))))
      go (other_here x) = rw (other_item s at x)
      go (end_here h) = absurd (omega arith)
  look_absent c (two e b r d f o) n m =
      let i = two_digit_item s at (digit_of s at d) (digit_of s (at + 1) f) (other_of s (at + 2) (omega arith) o) in
      rw (i, ne_eqb (get_or s (at + 2) 0) c (λ z. m (omega arith)))
  look_absent c (long e d) n m = absurd (short e)

module _ (s : List ℕ) (at l : ℕ) where
  -- where no part is told and a digit stands, the input ended
  pub look_open : Looks s at l → l ≡ no_part → DigitAt s at → item_at s at ≡ Err miss.Cut
  look_open (none e k) q d = k (digit_is s at d)
  look_open (one e b r o) q d = absurd (omega arith)
  look_open (two e b r x f o) q d = absurd (omega arith)
  look_open (long e x) q d = absurd (omega arith)

  -- where a long run is told, a digit stands
  look_long : Looks s at l → l ≡ long_run → DigitAt s at
  look_long (none e k) q = absurd (omega arith)
  look_long (one e b r o) q = absurd (omega arith)
  look_long (two e b r x f o) q = absurd (omega arith)
  look_long (long e x) q = digit_of s at x

-- ---- whether the input ended where a part could still be written

-- where no part is told, a digit says so
pub digit_open : (s : List ℕ) (at : ℕ) → Looks s at no_part → at < length s → is_digit (get_or s at 0) ≡ is_cut (item_at s at)
digit_open s at l h = go (place s at)
  where
    go : Place s at → is_digit (get_or s at 0) ≡ is_cut (item_at s at)
    go (digit_here d) = rw (d.is, look_open s at no_part l refl d)
    go (other_here o) = rw (o.is, other_item s at o)
    go (end_here e) = absurd (omega arith)

-- ---- a part that is tried by a look

module _ (s : List ℕ) (at c l : ℕ) (r : Looked) where
  pub short_one : One s at c → l < 256 → DigitAt s at → (v : ℕ) → v ≡ get_or s at 0 - 48 → r.part ≡ part_of v (at + 2) → Looks s (at + 2) r.look → Short s at c l r
  short_one o small d v e p k = record {
    part = λ _. p ∙ rw e (sym (one_part s at c o d));
    behind = rw p k;
    long = λ h. absurd (omega arith);
  }

  pub short_two : Two s at c → l < 512 → (v : ℕ) → v ≡ (get_or s at 0 - 48) * 10 + (get_or s (at + 1) 0 - 48) → r.part ≡ part_of v (at + 3) → Looks s (at + 3) r.look → Short s at c l r
  short_two t small v e p k = record {
    part = λ _. p ∙ rw e (sym (two_part s at c t));
    behind = rw p k;
    long = λ h. absurd (omega arith);
  }

  pub short_absent : Looks s at l → (l ≡ c → OtherAt s at) → (l ≡ c + 256 → ⊥) → (r.part ≡ absent_part at) × (r.look ≡ l) → Short s at c l r
  short_absent k n m (p, q) = record {
    part = λ h. p ∙ sym (look_absent s at l h c k n m);
    behind = rw (p, q) k;
    long = λ h. (q ∙ h, ap (λ (z : Part). z.next) p);
  }

-- ---- where a time starts

module _ (s : List ℕ) (at l : ℕ) (r : Start) where
  abbrev start : ℕ
  start = place_after at ((lit 84).reads s at)

  same_start : start ≡ at → Looks s at l → r.next ≡ at → r.look ≡ l → Starts s at l r
  same_start e k p q = record { next = p ∙ sym e; behind = rw (p, q) k; long = λ h. q ∙ h }

  pub starts_at_end : length s ≤ at → Looks s at l → r.next ≡ at → r.look ≡ l → Starts s at l r
  unfolding lit
  starts_at_end h = same_start (rw (le-ltb at (length s) h))

  pub starts_here : at < length s → (get_or s at 0 ≡ 84 → ⊥) → Looks s at l → r.next ≡ at → r.look ≡ l → Starts s at l r
  unfolding lit
  starts_here h n = same_start (rw (lt-ltb at (length s) h, ne_eqb (get_or s at 0) 84 n))

  pub starts_behind : at < length s → get_or s at 0 ≡ 84 → Looks s at l → r.next ≡ at + 1 → Looks s (at + 1) r.look → Starts s at l r
  unfolding lit
  starts_behind h e k p q = record {
    next = p ∙ rw (lt-ltb at (length s) h, eq-eqb (get_or s at 0) 84 e);
    behind = rw p q;
    long = λ x. absurd (omega (arith, (digit_bytes s at (look_long s at l k x)).1));
  }
