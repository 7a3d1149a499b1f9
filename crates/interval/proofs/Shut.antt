-- Where a colon or a digit stands: no fraction, no offset and no `/` is read there, and none of them is open. So it is where a digit that is
-- not 0 stands, or a colon and such a digit; and there no two zeros are read, nor are they open.
use Prim.Native.Nat.{ℕ, ◌+◌, ◌*◌, ◌-◌}
use mathlib.Core.List.{List, [], ◌∷◌}
use mathlib.Core.Bool.{Bool, true, false}
use mathlib.Core.Option.{none}
use mathlib.Core.Path.{◌≡◌, refl, sym, ◌∙◌}
use native.Mathlib.Omega.{arith}
use lib.ListN.{length, get_or, get_or-eq_default}
use lib.Dec.{ltb, leb, eqb}
use borrow.Author.Tests.{ltb-false, leb-true, le-leb, eqb-true}
use Rattle.parser.specs.Reading.{no, got, lit, alt, Says, or}
use Rattle.parser.specs.Digits.{is_digit, field, reach, lowest, highest}
use Rattle.parser.specs.Read.{place_after}
use Rattle.parser.proofs.Fields.{true≢false, and_first, and_second, DigitAt, digits_from_suc, digits_more_suc, out_no, out_settled, above}
use Rattle.parser.proofs.Places.{no≢got}
use Rattle.parser.proofs.Alike.{same_says}
use Rattle.parser.proofs.General.{Eager, field_eager, preceded_same, field_wrong}
use Rattle.parser.proofs.Lawful.{member, Outside, told_apart}
use Rattle.parser.proofs.Says.{says_map, says_opt, says_seq_no, says_alt_no}
use Rattle.offset.specs.Rules.{offset, offset_hour, offset_zulu}
use Rattle.types.specs.Sums.{zero_offset}
use Rattle.time.specs.declared.Clock.{Clock}
use Rattle.time.specs.declared.TimeUnit.{TimeUnit}
use Rattle.time.specs.Rules.{whole_clock, or_whole, clock_of, time_of, time_fraction, millisecond, time_offset}
use Rattle.time.proofs.Unmarked.{mark}
use Rattle.interval.specs.Followed.{zeros, not_zero, held_at}

abbrev colon_or_digit : ℕ → Bool
colon_or_digit b = or (is_digit b) (member (58 ∷ []) b)

pub record Shut (s : List ℕ) (n : ℕ) : Type 0 where
  pub inside : ltb n (length s) ≡ true
  pub is : colon_or_digit (get_or s n 0) ≡ true

module _ {s : List ℕ} {n : ℕ} (h : Shut s n) where
  pub shut_lit : (c : ℕ) → Outside (58 ∷ []) c → Says (lit c) s n no false
  unfolding lit
  shut_lit c o =
      let e = told_apart colon_or_digit (get_or s n 0) c (λ e. true≢false (sym h.is ∙ e ∙ o)) in
      record { found = rw (h.inside, e); more = rw h.inside }

  pub shut_fraction : (u : TimeUnit) (z : Bool) (mi se : ℕ) → Says (time_fraction u z mi se) s n no false
  unfolding time_fraction
  shut_fraction u z mi se = says_map _ s n (clock_of u mi se) no false (says_seq_no mark s n _ false (says_alt_no (lit 44) s n (lit 46) false no false (shut_lit 44 refl) (shut_lit 46 refl)))

  pub shut_millisecond : (u : TimeUnit) (z : Bool) (mi se : ℕ) → Says (millisecond u z mi se) s n (got (whole_clock mi se) n) false
  unfolding millisecond
  shut_millisecond u z mi se = says_map _ s n (or_whole mi se) _ false (says_opt (time_fraction u z mi se) s n no false (shut_fraction u z mi se))

  pub shut_offset : (hour : ℕ) (k : Clock) → Says (time_offset hour k) s n (got (time_of hour k none) n) false
  unfolding time_offset offset offset_hour offset_zulu
  shut_offset hour k =
      let sign = says_alt_no _ s n _ false no false (says_map (lit 45) s n (λ _. true) no false (shut_lit 45 refl)) (says_map (lit 43) s n (λ _. false) no false (shut_lit 43 refl)) in
      let zulu = says_map (lit 90) s n (λ _. zero_offset) no false (shut_lit 90 refl) in
      says_map _ s n (time_of hour k) _ false (says_opt offset s n no false (says_alt_no _ s n _ false no false (says_seq_no _ s n _ false sign) zulu))

-- ---- what is held

not_zero_inside : (s : List ℕ) (n : ℕ) → not_zero s n ≡ true → ltb n (length s) ≡ true
not_zero_inside s n h = go (ltb n (length s)) refl
  where
    go : (t : Bool) → ltb n (length s) ≡ t → t ≡ true
    go true i = refl
    go false i = rw (get_or-eq_default s 0 (ltb-false n (length s) i)) at h

pub not_zero_digit : (s : List ℕ) (n : ℕ) → not_zero s n ≡ true → DigitAt s n
not_zero_digit s n h =
    let least = leb-true 49 (get_or s n 0) (and_first (leb 49 (get_or s n 0)) _ h) in
    record { inside = not_zero_inside s n h; is = rw (le-leb 48 (get_or s n 0) (omega arith), and_second (leb 49 (get_or s n 0)) h) }

-- at the place behind an optional colon
abbrev pub behind_colon : List ℕ → ℕ → ℕ
behind_colon s n = place_after n ((lit 58).reads s n)

pub held_behind : (s : List ℕ) (n : ℕ) → held_at s n ≡ not_zero s (behind_colon s n)
unfolding lit
held_behind s n = go (ltb n (length s)) refl (eqb (get_or s n 0) 58) refl
  where
    go : (t : Bool) → ltb n (length s) ≡ t → (u : Bool) → eqb (get_or s n 0) 58 ≡ u → held_at s n ≡ not_zero s (behind_colon s n)
    go true i true e = rw (i, e)
    go true i false e = rw (i, e)
    go false i u e = rw (i, get_or-eq_default s 0 (ltb-false n (length s) i))

-- a digit there shuts the place
pub digit_shuts : (s : List ℕ) (n : ℕ) → DigitAt s (behind_colon s n) → Shut s n
unfolding lit
digit_shuts s n d = go (ltb n (length s)) refl (eqb (get_or s n 0) 58) refl
  where
    go : (t : Bool) → ltb n (length s) ≡ t → (u : Bool) → eqb (get_or s n 0) 58 ≡ u → Shut s n
    go true i true e = record { inside = i; is = rw (eqb-true (get_or s n 0) 58 e) }
    go true i false e = record { inside = i; is = rw (rw (i, e) at d.is) }
    go false i u e = absurd (true≢false (sym (rw i at d.inside) ∙ i))

pub held_shut : (s : List ℕ) (n : ℕ) → held_at s n ≡ true → Shut s n
held_shut s n h = digit_shuts s n (not_zero_digit s (behind_colon s n) (sym (held_behind s n) ∙ h))

-- ---- two zeros

pub zero_field_eager : Eager (field 2 0 0)
unfolding reach lowest highest
zero_field_eager = field_eager 2 0 0 (omega arith) refl

pub not_zero_field : (s : List ℕ) (n : ℕ) → not_zero s n ≡ true → Says (field 2 0 0) s n no false
unfolding field
not_zero_field s n h =
    let d = not_zero_digit s n h in
    let least = leb-true 49 (get_or s n 0) (and_first (leb 49 (get_or s n 0)) _ h) in
    let out = above 0 0 1 (0 * 10 + (get_or s n 0 - 48)) (omega arith) in
    record { found = sym (digits_from_suc 0 0 1 0 s n d ∙ out_no 0 0 1 _ s (n + 1) out); more = sym (digits_more_suc 0 0 1 0 s n d ∙ out_settled 0 0 1 _ s (n + 1) out) }

pub held_zeros : (s : List ℕ) (n : ℕ) → held_at s n ≡ true → Says zeros s n no false
held_zeros s n h = same_says (preceded_same 58 (field 2 0 0) zero_field_eager s n _ refl) (not_zero_field s (behind_colon s n) (sym (held_behind s n) ∙ h))

-- and none where a comma or a point stands
pub marked_zeros : (s : List ℕ) (n : ℕ) (x : Unit) (m : ℕ) → mark.reads s n ≡ got x m → Says zeros s n no false
unfolding alt lit
marked_zeros s n x m e = go (ltb n (length s)) refl (eqb (get_or s n 0) 44) refl (eqb (get_or s n 0) 46) refl
  where
    other : ltb n (length s) ≡ true → (b : ℕ) → get_or s n 0 ≡ b → is_digit b ≡ false → eqb b 58 ≡ false → Says zeros s n no false
    other i b eb d c = same_says (preceded_same 58 (field 2 0 0) zero_field_eager s n n (rw (i, eb, c))) (field_wrong 2 0 0 (omega arith) s n (record { inside = i; is = rw eb d }))

    go : (t : Bool) → ltb n (length s) ≡ t → (u : Bool) → eqb (get_or s n 0) 44 ≡ u → (v : Bool) → eqb (get_or s n 0) 46 ≡ v → Says zeros s n no false
    go true i true eu v ev = other i 44 (eqb-true (get_or s n 0) 44 eu) refl refl
    go true i false eu true ev = other i 46 (eqb-true (get_or s n 0) 46 ev) refl refl
    go true i false eu false ev = absurd (no≢got (rw (i, eu, ev) at e))
    go false i u eu v ev = absurd (no≢got (rw i at e))
