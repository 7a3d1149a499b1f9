-- Z and (+|-)HH:MM are what the rule reads, and settled; at the end of the input it reads nothing, and is open.
use Prim.Native.Nat.{ℕ, ◌+◌, ◌-◌, ◌<◌, ◌≤◌}
use mathlib.Core.List.{List}
use mathlib.Core.Bool.{Bool, true, false}
use mathlib.Core.Path.{◌≡◌, refl, sym}
use native.Mathlib.Omega.{arith}
use lib.ListN.{length, get_or}
use lib.Dec.{ltb, leb, eqb}
use Rattle.std.specs.declared.option.Option.{Option}
use Rattle.std.specs.declared.option.Option.TheVariants.{None, Some}
use borrow.Author.Tests.{ltb-false, leb-true, leb-false, lt-ltb, le-ltb, eqb-true}
use Rattle.types.specs.declared.Offset.{Offset}
use Rattle.types.specs.Sums.{signed_offset, zero_offset}
use Rattle.parser.specs.Reading.{no, got, lit, seq, opt, alt, verify, map, and, pick, Says}
use Rattle.parser.specs.Digits.{reach, lowest, highest}
use Rattle.parser.specs.Fields.{hour, minute, signed, preceded_by, or_zero}
use Rattle.parser.proofs.Says.{says_map, says_opt, says_verify, says_seq_got, says_alt_got}
use Rattle.looks.specs.Digits.{two_digits}
use Rattle.looks.specs.Offset.{shift_of, plain_signed, plain_offset}
use Rattle.looks.specs.declared.PlainOffset.TheVariants.{End, Got, Other}
use Rattle.looks.proofs.Choices.{picked_first, picked_second, picked_neither}
use Rattle.looks.proofs.Two.{two_field, preceded_two}
use Rattle.looks.proofs.Parts.{other_got, shift_is}
use Rattle.offset.specs.Rules.{allowed, offset_minute, offset_hour, offset_zulu, offset}

end_got : {o : Offset} {n : ℕ} → End ≡ Got o n → ⊥
end_got e = let z : ◌≡◌ {A = ℕ} 0 1 = cc in omega arith

not_end : {o : Offset} {n : ℕ} → Got o n ≡ End → ⊥
not_end e = end_got (sym e)

other_end : Other ≡ End → ⊥
other_end e = let z : ◌≡◌ {A = ℕ} 0 1 = cc in omega arith

got_once : {o p : Offset} {m n : ℕ} → Got o m ≡ Got p n → (o ≡ p) × (m ≡ n)
got_once e = (cc, cc)

module _ (s : List ℕ) (at : ℕ) where
  -- the end of the input
  pub end_says : length s ≤ at → Says offset s at no true
  unfolding offset offset_hour offset_zulu seq alt map lit
  end_says l = let i = le-ltb at (length s) l in record { found = simp i; more = simp i }

  -- ---- Z

  zulu_says : at < length s → eqb (get_or s at 0) 90 ≡ true → Says offset s at (got zero_offset (at + 1)) false
  unfolding offset offset_hour offset_zulu seq alt map lit
  zulu_says l e = let i = lt-ltb at (length s) l in let b = eqb-true (get_or s at 0) 90 e in record { found = simp (i, b); more = simp (i, b) }

  -- ---- a sign

  sign_says : (m : Bool) → at < length s → get_or s at 0 ≡ pick m 45 43 → Says signed s at (got m (at + 1)) false
  unfolding alt map lit
  sign_says true l e = let i = lt-ltb at (length s) l in record { found = simp (i, e); more = simp (i, e) }
  sign_says false l e = let i = lt-ltb at (length s) l in record { found = simp (i, e); more = simp (i, e) }

  abbrev hour_at : Option ℕ
  hour_at = two_digits (get_or s (at + 1) 0) (get_or s (at + 2) 0) 0 23

  abbrev minute_at : Option ℕ
  minute_at = two_digits (get_or s (at + 4) 0) (get_or s (at + 5) 0) 0 59

  -- what was seen behind it
  record Seen (m : Bool) (o : Offset) (n : ℕ) : Type 0 where
    long : at + 6 ≤ length s
    colon : eqb (get_or s (at + 3) 0) 58 ≡ true
    h : ℕ
    k : ℕ
    hours : hour_at ≡ Some h
    minutes : minute_at ≡ Some k
    fits : allowed m h k ≡ true
    value : signed_offset m h k ≡ o
    next : at + 6 ≡ n

  seen : (m : Bool) {o : Offset} {n : ℕ} → plain_signed m s at ≡ Got o n → Seen m o n
  unfolding plain_signed
  seen m {o} {n} e =
      let a = picked_second (ltb (length s) 6) other_got e in
      let b = picked_second (ltb (length s - 6) at) other_got a.1 in
      let c = picked_first (eqb (get_or s (at + 3) 0) 58) other_got b.1 in
      let x = shift_is m hour_at minute_at (at + 6) o n c.1 in
      let g = picked_second (and m (and (eqb x.hour 0) (eqb x.minute 0))) other_got x.shift in
      let y = got_once g.1 in
      record {
        long = omega (arith, ltb-false (length s) 6 a.0, ltb-false (length s - 6) at b.0);
        colon = c.0;
        h = x.hour;
        k = x.minute;
        hours = x.hour-is;
        minutes = x.minute-is;
        fits = rw g.0;
        value = y.0;
        next = y.1;
      }

  module _ (m : Bool) {o : Offset} {n : ℕ} (x : Seen m o n) where
    hour_says : Says hour s (at + 1) (got x.h (at + 3)) false
    hour_says =
        let p : at + 1 + 1 ≡ at + 2 = omega arith in
        let q : at + 1 + 2 ≡ at + 3 = omega arith in
        rw q at (two_field s (at + 1) 0 23 x.h (omega (arith, x.long)) (rw p x.hours))

    minute_says : Says (preceded_by 58 minute) s (at + 3) (got x.k (at + 6)) false
    unfolding reach lowest highest
    minute_says =
        let p : at + 3 + 1 ≡ at + 4 = omega arith in
        let q : at + 3 + 2 ≡ at + 5 = omega arith in
        let r : at + 3 + 3 ≡ at + 6 = omega arith in
        rw r at (preceded_two s (at + 3) 58 0 59 x.k (omega (arith, x.long)) x.colon refl (rw (p, q) x.minutes))

    rest_says : Says (offset_minute m x.h) s (at + 3) (got o n) false
    unfolding offset_minute
    rest_says =
        let p = opt (preceded_by 58 minute) in
        let fits = says_verify p s (at + 3) (λ o. allowed m x.h (or_zero o)) _ false (says_opt (preceded_by 58 minute) s (at + 3) _ false minute_says) in
        rw (x.fits, x.value, x.next) at (says_map (verify (λ o. allowed m x.h (or_zero o)) p) s (at + 3) (λ o. signed_offset m x.h (or_zero o)) _ false fits)

    signed_says : get_or s at 0 ≡ pick m 45 43 → Says offset s at (got o n) false
    unfolding offset offset_hour
    signed_says b =
        says_alt_got offset_hour s at offset_zulu _ _ false
        (says_seq_got signed s at (λ minus. seq hour (offset_minute minus)) m (at + 1) false _ false (sign_says m (omega (arith, x.long)) b)
        (says_seq_got hour s (at + 1) (offset_minute m) x.h (at + 3) false _ false hour_says rest_says))

  -- ---- together

  -- the bytes that a plain offset starts with
  pub data Starts : Type 0 where
    zulu : get_or s at 0 ≡ 90 → Starts
    sign : (m : Bool) → get_or s at 0 ≡ pick m 45 43 → Starts

  pub record Read (o : Offset) (n : ℕ) : Type 0 where
    pub inside : at < length s
    pub starts : Starts
    pub says : Says offset s at (got o n) false

  signed_read : (m : Bool) {o : Offset} {n : ℕ} → get_or s at 0 ≡ pick m 45 43 → plain_signed m s at ≡ Got o n → Read o n
  signed_read m b e =
      let x = seen m e in
      record { inside = omega (arith, x.long); starts = sign m b; says = signed_says m x b }

  pub plain_read : (o : Offset) (n : ℕ) → plain_offset s at ≡ Got o n → Read o n
  unfolding plain_offset
  plain_read o n e =
      let a = picked_second (leb (length s) at) end_got e in
      by_byte (leb-false (length s) at a.0) (eqb (get_or s at 0) 45) (eqb (get_or s at 0) 43) (eqb (get_or s at 0) 90) refl refl refl a.1
    where
      by_byte : at < length s → (t u w : Bool) → eqb (get_or s at 0) 45 ≡ t → eqb (get_or s at 0) 43 ≡ u → eqb (get_or s at 0) 90 ≡ w → pick t (plain_signed true s at) (pick u (plain_signed false s at) (pick w (Got zero_offset (at + 1)) Other)) ≡ Got o n → Read o n
      by_byte l true u w ht hu hw e = signed_read true (eqb-true (get_or s at 0) 45 ht) e
      by_byte l false true w ht hu hw e = signed_read false (eqb-true (get_or s at 0) 43 hu) e
      by_byte l false false true ht hu hw e = let x = got_once e in record { inside = l; starts = zulu (eqb-true (get_or s at 0) 90 hw); says = rw (x.0, x.1) at (zulu_says l hw) }
      by_byte l false false false ht hu hw e = absurd (other_got e)

  shift_end : (m : Bool) (h k : Option ℕ) → shift_of m h k (at + 6) ≡ End → ⊥
  shift_end m (Some h) (Some k) e = picked_neither (and m (and (eqb h 0) (eqb k 0))) other_end not_end e
  shift_end m (Some h) None e = other_end e
  shift_end m None k e = other_end e

  signed_end : (m : Bool) → plain_signed m s at ≡ End → ⊥
  unfolding plain_signed
  signed_end m =
      picked_neither (ltb (length s) 6) other_end
      (picked_neither (ltb (length s - 6) at) other_end (picked_neither (eqb (get_or s (at + 3) 0) 58) (shift_end m hour_at minute_at) other_end))

  pub plain_end : plain_offset s at ≡ End → length s ≤ at
  unfolding plain_offset
  plain_end e = go (leb (length s) at) refl e
    where
      later : pick (eqb (get_or s at 0) 45) (plain_signed true s at) (pick (eqb (get_or s at 0) 43) (plain_signed false s at) (pick (eqb (get_or s at 0) 90) (Got zero_offset (at + 1)) Other)) ≡ End → ⊥
      later =
          picked_neither (eqb (get_or s at 0) 45) (signed_end true)
          (picked_neither (eqb (get_or s at 0) 43) (signed_end false) (picked_neither (eqb (get_or s at 0) 90) not_end other_end))

      go : (t : Bool) → leb (length s) at ≡ t → pick t End (pick (eqb (get_or s at 0) 45) (plain_signed true s at) (pick (eqb (get_or s at 0) 43) (plain_signed false s at) (pick (eqb (get_or s at 0) 90) (Got zero_offset (at + 1)) Other))) ≡ End → length s ≤ at
      go true i e = leb-true (length s) at i
      go false i e = absurd (later e)
