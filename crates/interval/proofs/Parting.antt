-- Two rules that part where a colon or a digit stands: one stops the reading there, or goes on as the other does. What is made of both, and a
-- minute or second that must be 0 beside one of two zeros.
use Prim.Native.Nat.{ℕ, zero, suc, ◌+◌, ◌*◌, ◌-◌}
use mathlib.Core.List.{List}
use mathlib.Core.Bool.{Bool, true, false}
use mathlib.Core.Option.{some, none}
use mathlib.Core.Path.{◌≡◌, refl, sym, ◌∙◌}
use mathlib.Core.Logic.{◌⊎◌, inl, inr}
use native.Mathlib.Omega.{arith}
use lib.ListN.{length, get_or}
use lib.Dec.{ltb, leb, eqb}
use borrow.Author.Tests.{leb-true, leb-false, le-leb, eq-eqb, ne_eqb}
use Rattle.parser.specs.Reading.{Found, no, got, stop, Reader, seq, then, opt, lack, alt, or_else, must, keep, pick, within, Says}
use Rattle.parser.specs.Digits.{is_digit, digit, digits_from, digits_more, field, reach, lowest, highest}
use Rattle.parser.proofs.Fields.{and_true, and_right, and_first, and_second, DigitAt, digit_within}
use Rattle.parser.proofs.Places.{no≢got}
use Rattle.parser.proofs.Stops.{field_stops}
use Rattle.parser.proofs.Hopeful.{Definite}
use Rattle.parser.proofs.Leaves.{field_definite}
use Rattle.parser.proofs.Alike.{SameFrom, AlikeAt, alike_refl, alt_same, opt_alike, same_says}
use Rattle.parser.proofs.General.{field_eager, preceded_same, field_no}
use Rattle.parser.proofs.Says.{says_opt, says_seq_got, says_seq_no, says_alt_no, says_alt_got}
use Rattle.time.proofs.EndOfDay.{zero_field}
use Rattle.interval.specs.Followed.{zeros, not_zero, held_at}
use Rattle.interval.proofs.Shut.{Shut, not_zero_digit, behind_colon, held_behind, digit_shuts, zero_field_eager, not_zero_field}

-- q finds f, whatever follows; p stops the reading, or finds the same, and then H holds
pub record Apart {A : Type 0} (s : List ℕ) (p q : Reader A) (at : ℕ) (f : Found A) (H : Type 0) : Type 0 where
  pub says : Says q s at f false
  pub other : (p.reads s at ≡ stop 1) ⊎ ((p.reads s at ≡ f) × H)

-- what is made of both, where a stop is left as it is
pub other_made : {A B : Type 0} {s : List ℕ} {at from : ℕ} {f : Found A} {g : Found B} {H K : Type 0} (p : Reader A) (p' : Reader B) (h : Found A → Found B) → p'.reads s at ≡ h (p.reads s from) → h (stop 1) ≡ stop 1 → h f ≡ g → (H → K) → (p.reads s from ≡ stop 1) ⊎ ((p.reads s from ≡ f) × H) → (p'.reads s at ≡ stop 1) ⊎ ((p'.reads s at ≡ g) × K)
other_made p p' h e stopped kept k (inl i) = inl (e ∙ rw i stopped)
other_made p p' h e stopped kept k (inr (i, x)) = inr (e ∙ rw i kept, k x)

-- p and q are read alike; or, where O allows that, q finds nothing at a place that is shut; or, where G allows that, a value that ends at one
pub data Parting {A : Type 0} (O G : Type 0) (held : A → ℕ → Bool) (s : List ℕ) (p q : Reader A) (at : ℕ) : Type 0 where
  alike : AlikeAt p q s at → Parting O G held s p q at
  out : O → Shut s at → Apart s p q at no (held_at s at ≡ true) → Parting O G held s p q at
  parted : G → (a : A) (n : ℕ) → Shut s n → Apart s p q at (got a n) (held a n ≡ true) → Parting O G held s p q at

-- ---- one law for each combinator

module _ {A : Type 0} {s : List ℕ} {p q : Reader A} {at : ℕ} where
  pub opt_parting : {O G : Type 0} → Parting O G (λ _. held_at s) s p q at → Parting ⊥ Unit (λ _. held_at s) s (opt p) (opt q) at
  unfolding opt
  opt_parting (alike e) = alike (opt_alike p s at q e)
  opt_parting (out o sh x) = parted tt none at sh (record { says = says_opt q s at no false x.says; other = other_made p (opt p) (lack at) refl refl refl (λ h. h) x.other })
  opt_parting (parted g a n sh x) = parted tt (some a) n sh (record { says = says_opt q s at (got a n) false x.says; other = other_made p (opt p) (lack at) refl refl refl (λ h. h) x.other })

  -- an alternative that is not read where the place is shut
  pub alt_parting : {O G : Type 0} {held : A → ℕ → Bool} (r : Reader A) → (Shut s at → Says r s at no false) → Parting O G held s p q at → Parting O G held s (alt p r) (alt q r) at
  unfolding alt
  alt_parting r k (alike e) = alike (alt_same e (λ _. alike_refl r s at))
  alt_parting r k (out o sh x) = out o sh (record { says = says_alt_no q s at r false no false x.says (k sh); other = other_made p (alt p r) (λ f. or_else f (r.reads s at)) refl refl (sym (k sh).found) (λ h. h) x.other })
  alt_parting r k (parted g a n sh x) = parted g a n sh (record { says = says_alt_got q s at r a n false x.says; other = other_made p (alt p r) (λ f. or_else f (r.reads s at)) refl refl refl (λ h. h) x.other })

  -- what follows both, and takes nothing where the place is shut
  pub then_parting : {B G : Type 0} {held : A → ℕ → Bool} {kept : B → ℕ → Bool} (k : A → Reader B) (b : A → B) → ((a : A) (n : ℕ) → Shut s n → Says (k a) s n (got (b a) n) false) → ((a : A) (n : ℕ) → held a n ≡ true → kept (b a) n ≡ true) → Parting ⊥ G held s p q at → Parting ⊥ Unit kept s (seq p k) (seq q k) at
  unfolding seq
  then_parting k b quiet on (alike e) = alike (record { reads = rw e.reads; more = rw (e.reads, e.more) })
  then_parting k b quiet on (out o sh x) = absurd o
  then_parting k b quiet on (parted g a n sh x) =
      let y = quiet a n sh in
      parted tt (b a) n sh (record { says = says_seq_got q s at k a n false _ false x.says y; other = other_made p (seq p k) (λ f. then f (λ c m. (k c).reads s m)) refl refl (sym y.found) (on a n) x.other })

  -- what follows each, behind a part that is settled where it is read
  pub seq_parting : {B : Type 0} {held : A → ℕ → Bool} {kept : B → ℕ → Bool} (f g : A → Reader B) → Definite q → ((a : A) (n : ℕ) → Parting ⊥ Unit kept s (f a) (g a) n) → Parting Unit ⊥ held s p q at → Parting Unit Unit kept s (seq p f) (seq q g) at
  unfolding seq
  seq_parting {B} {held} {kept} f g dq rest (alike e) = go (q.reads s at) refl
    where
      on : (a : A) (n : ℕ) → q.reads s at ≡ got a n → Parting ⊥ Unit kept s (f a) (g a) n → Parting Unit Unit kept s (seq p f) (seq q g) at
      on a n i (alike j) = alike (record { reads = rw (e.reads, i, j.reads); more = rw (e.reads, e.more, i, j.more) })
      on a n i (out o sh x) = absurd o
      on a n i (parted u b m sh x) = parted tt b m sh (record {
        says = says_seq_got q s at g a n false (got b m) false (record { found = sym i; more = sym (dq s at a n i) }) x.says;
        other = rw (e.reads, i) x.other;
      })

      go : (x : Found A) → q.reads s at ≡ x → Parting Unit Unit kept s (seq p f) (seq q g) at
      go no i = alike (record { reads = rw (e.reads, i); more = rw (e.reads, e.more, i) })
      go (stop r) i = alike (record { reads = rw (e.reads, i); more = rw (e.reads, e.more, i) })
      go (got a n) i = on a n i (rest a n)
  seq_parting f g dq rest (out o sh x) = out tt sh (record { says = says_seq_no q s at g false x.says; other = other_made p (seq p f) (λ h. then h (λ c m. (f c).reads s m)) refl refl refl (λ h. h) x.other })
  seq_parting f g dq rest (parted u a n sh x) = absurd u

-- ---- a field that must be 0 beside one that reads 00 alone, at the place behind an optional colon

-- 0 is what any range from 0 on reads, where that is 0
zero_reads : (hi n v : ℕ) (s : List ℕ) (at : ℕ) → digits_from 0 0 n v s at ≡ keep (λ w. eqb w 0) (digits_from 0 hi n v s at)
unfolding digits_from
zero_reads hi zero v s at = go (leb v 0) refl (leb v hi) refl
  where
    least : leb 0 v ≡ true
    least = le-leb 0 v (omega arith)

    go : (t : Bool) → leb v 0 ≡ t → (u : Bool) → leb v hi ≡ u → pick (within 0 0 v) (got v at) no ≡ keep (λ w. eqb w 0) (pick (within 0 hi v) (got v at) no)
    go true e u f = rw (least, e, le-leb v hi (omega (arith, leb-true v 0 e)), eq-eqb v 0 (omega (arith, leb-true v 0 e)))
    go false e true f = rw (least, e, f, ne_eqb v 0 (λ i. omega (arith, leb-false v 0 e)))
    go false e false f = rw (least, e, f)
zero_reads hi (suc n) v s at = go (digit s at) _ (zero_reads hi n (v * 10 + (get_or s at 0 - 48)) s (at + 1))
  where
    go : (t : Bool) {f : Found ℕ} (g : Found ℕ) → f ≡ keep (λ w. eqb w 0) g → pick t f no ≡ keep (λ w. eqb w 0) (pick t g no)
    go true g e = e
    go false g e = refl

-- and they are open alike but at a digit that is not 0
zero_open : (hi : ℕ) (s : List ℕ) (at : ℕ) → not_zero s at ≡ false → (field 2 0 0).more s at ≡ (field 2 0 hi).more s at
unfolding field digits_more reach lowest highest
zero_open hi s at h = go (is_digit (get_or s at 0)) refl
  where
    least : leb 0 hi ≡ true
    least = le-leb 0 hi (omega arith)

    go : (t : Bool) → is_digit (get_or s at 0) ≡ t → (field 2 0 0).more s at ≡ (field 2 0 hi).more s at
    go true d =
        let b = get_or s at 0 in
        let w = digit_within b d in
        let small = leb-false 49 b (rw (le-leb b 57 w.1, and_true (leb 49 b)) at h) in
        let same : b ≡ 48 = omega arith in
        rw (same, least)
    go false d = rw (and_right (ltb at (length s)) d, least)

abbrev must_be_zero : ℕ → Reader ℕ
must_be_zero hi = must (λ v. eqb v 0) 1 (field 2 0 hi)

abbrev FieldsPart : ℕ → List ℕ → ℕ → Type 0
FieldsPart hi s at = AlikeAt (must_be_zero hi) (field 2 0 0) s at ⊎ (DigitAt s at × Apart s (must_be_zero hi) (field 2 0 0) at no (not_zero s at ≡ true))

fields_part : (hi : ℕ) (s : List ℕ) (at : ℕ) → FieldsPart hi s at
unfolding field must
fields_part hi s at = go (not_zero s at) refl ((field 2 0 hi).reads s at) refl (zero_reads hi 2 0 s at)
  where
    digit_there : (w n : ℕ) → (field 2 0 hi).reads s at ≡ got w n → DigitAt s at
    digit_there w n e = by (digit s at) refl
      where
        by : (t : Bool) → digit s at ≡ t → DigitAt s at
        by true d = record { inside = and_first (ltb at (length s)) _ d; is = and_second (ltb at (length s)) d }
        by false d = absurd (no≢got (sym (field_no 2 0 hi (omega arith) s at d) ∙ e))

    read : (z : Bool) → not_zero s at ≡ z → (w n : ℕ) → (field 2 0 hi).reads s at ≡ got w n → (t : Bool) → eqb w 0 ≡ t → (field 2 0 0).reads s at ≡ pick t (got w n) no → FieldsPart hi s at
    read true z w n e true t i = absurd (no≢got ((not_zero_field s at z).found ∙ i))
    read true z w n e false t i = inr (digit_there w n e, record { says = not_zero_field s at z; other = inl (rw (e, t)) })
    read false z w n e true t i = inl (record { reads = rw (e, t, i); more = sym (zero_open hi s at z) })
    read false z w n e false t i = inr (digit_there w n e, record { says = record { found = sym i; more = sym (zero_open hi s at z ∙ field_definite 2 0 hi s at w n e) }; other = inl (rw (e, t)) })

    go : (z : Bool) → not_zero s at ≡ z → (f : Found ℕ) → (field 2 0 hi).reads s at ≡ f → (field 2 0 0).reads s at ≡ keep (λ w. eqb w 0) ((field 2 0 hi).reads s at) → FieldsPart hi s at
    go true z no e i = inr (not_zero_digit s at z, record { says = not_zero_field s at z; other = inr (rw e, z) })
    go false z no e i = inl (record { reads = rw (i, e); more = sym (zero_open hi s at z) })
    go z ez (stop r) e i = absurd ((field_stops {P = λ _. ⊥} 2 0 hi).by s at r e)
    go z ez (got w n) e i = read z ez w n e (eqb w 0) refl (i ∙ rw e)

-- a minute or a second, the colon in front left out or not
pub field_parting : (hi : ℕ) (s : List ℕ) (at : ℕ) → Parting Unit ⊥ (λ _. held_at s) s (zero_field hi) zeros at
unfolding must reach lowest highest
field_parting hi s at = go (fields_part hi s (behind_colon s at))
  where
    musts : SameFrom (zero_field hi) (must_be_zero hi) s at (behind_colon s at)
    musts = preceded_same 58 (must_be_zero hi) (field_eager 2 0 hi (omega arith) (rw (le-leb 0 hi (omega arith)))) s at _ refl

    alone : SameFrom zeros (field 2 0 0) s at (behind_colon s at)
    alone = preceded_same 58 (field 2 0 0) zero_field_eager s at _ refl

    go : FieldsPart hi s (behind_colon s at) → Parting Unit ⊥ (λ _. held_at s) s (zero_field hi) zeros at
    go (inl e) = alike (record { reads = musts.reads ∙ e.reads ∙ sym alone.reads; more = musts.more ∙ e.more ∙ sym alone.more })
    go (inr (d, x)) = out tt (digit_shuts s at d) (record { says = same_says alone x.says; other = other_made (must_be_zero hi) (zero_field hi) (λ f. f) musts.reads refl refl (λ z. held_behind s at ∙ z) x.other })
