-- A plain time is what the rule reads: a clock, its milliseconds or none, and then the end of the input, where it is open, or an offset.
use Prim.Native.Nat.{ℕ, ◌+◌, ◌*◌, ◌-◌, ◌<◌, ◌≤◌}
use mathlib.Core.List.{List}
use mathlib.Core.Bool.{Bool, true, false}
use mathlib.Core.Option.{some, none}
use mathlib.Core.Path.{◌≡◌, refl, sym, ◌∙◌}
use native.Mathlib.Omega.{arith}
use lib.ListN.{length, get_or}
use lib.Dec.{ltb, eqb}
use borrow.Author.Tests.{ltb-false, lt-ltb, le-ltb, eqb-true, ne_eqb}
use Rattle.types.specs.declared.Choices.{Choices}
use Rattle.types.specs.declared.Edition.{Edition}
use Rattle.types.specs.declared.Edition.TheVariants.{E2004, E2019}
use Rattle.types.specs.declared.Fraction.{Fraction}
use Rattle.types.specs.declared.Time.{Time}
use Rattle.std.specs.Option.{option_or}
use Rattle.std.proofs.lemmas.Option.{none-some}
use Rattle.std.specs.declared.option.Option.{Option}
use Rattle.std.specs.declared.option.Option.TheVariants.{None, Some}
use Rattle.parser.specs.Reading.{no, got, Reader, lit, seq, opt, alt, map, or, Says}
use Rattle.parser.specs.Digits.{is_digit, fraction, reach, lowest, highest}
use Rattle.parser.specs.declared.Got.{Got}
use Rattle.parser.specs.Fields.{hour, minute, second, either, preceded_by, or_zero}
use Rattle.parser.proofs.Fields.{OtherAt}
use Rattle.parser.proofs.Leaves.{field_definite, field_within, field_wider}
use Rattle.parser.proofs.Says.{says_map, says_opt, says_seq_got, says_seq_no}
use Rattle.looks.specs.Digits.{two_digits}
use Rattle.looks.specs.Clock.{plain_clock, plain_millisecond}
use Rattle.looks.specs.Offset.{plain_offset}
use Rattle.looks.specs.declared.PlainClock.{PlainClock}
use Rattle.looks.specs.declared.PlainOffset.{PlainOffset}
use Rattle.looks.specs.declared.PlainOffset.TheVariants as shift
use Rattle.looks.proofs.Choices.{picked_first, picked_second}
use Rattle.looks.proofs.Two.{two_is, two_ends, two_field, preceded_two, digit_no}
use Rattle.looks.proofs.Parts.{ClockIs, clock_is, ThousandthsAre, thousandths_are}
use Rattle.looks.proofs.Thousandths.{milliseconds, three_end, three_other}
use Rattle.offset.specs.Rules.{offset}
use Rattle.offset.proofs.plain.Laws.{Starts, zulu, sign, end_says, plain_end, plain_read}
use Rattle.time.specs.declared.TimeUnit.TheVariants.{Second}
use Rattle.time.specs.Rules.{hour_of, ends_day, no_fraction, or_whole, unit_of, clock_of, time_fraction, millisecond, second_millisecond, minute_second_millisecond, behind_hour, time_of, time_offset, after_hour, base_time, time}
use Rattle.time.specs.Plain.{time_with, with_offset, plain_time, with_millisecond, with_clock, plain_at}
use Rattle.time.proofs.Behind.{of_second, behind_first}

-- ---- what stands behind a plain time

data Behind (s : List ℕ) (at : ℕ) : Bool → Type 0 where
  end : length s ≤ at → Behind s at true
  byte : at < length s → Starts s at → Behind s at false

record Tail (s : List ℕ) (at h m x : ℕ) (n : Fraction) (g : Got Time) : Type 0 where
  behind : Behind s at g.more
  says : Says (time_offset h (clock_of Second m x n)) s at (got g.value g.next) g.more

tail : (s : List ℕ) (at h m x : ℕ) (n : Fraction) (g : Got Time) → with_offset h m x n at (plain_offset s at) ≡ Some g → Tail s at h m x n g
unfolding time_offset
tail s at h m x n g e = go (plain_offset s at) refl e
  where
    go : (o : PlainOffset) → plain_offset s at ≡ o → with_offset h m x n at o ≡ Some g → Tail s at h m x n g
    go shift.End i e =
        let l = plain_end s at i in
        let y : record { value = time_with h m x n None; next = at; more = true } ≡ g = cc in
        rw (← y) (record { behind = end l; says = says_map (opt offset) s at (time_of h (clock_of Second m x n)) _ true (says_opt offset s at no true (end_says s at l)) })
    go (shift.Got o k) i e =
        let r = plain_read s at o k i in
        let y : record { value = time_with h m x n (Some o); next = k; more = false } ≡ g = cc in
        rw (← y) (record { behind = byte r.inside r.starts; says = says_map (opt offset) s at (time_of h (clock_of Second m x n)) _ false (says_opt offset s at (got o k) false r.says) })
    go shift.Other i e = absurd (none-some _ e)

-- ---- the fraction, or none

module _ (s : List ℕ) (at mi se : ℕ) where
  abbrev point : Reader Fraction
  point = seq (either 44 46) (λ _. fraction)

  no_point : (more : Bool) → Behind s at more → Says (either 44 46) s at no more
  unfolding alt lit
  no_point more (end l) = let i = le-ltb at (length s) l in record { found = simp i; more = simp i }
  no_point more (byte l (zulu e)) = let i = lt-ltb at (length s) l in record { found = simp (i, e); more = simp (i, e) }
  no_point more (byte l (sign true e)) = let i = lt-ltb at (length s) l in record { found = simp (i, e); more = simp (i, e) }
  no_point more (byte l (sign false e)) = let i = lt-ltb at (length s) l in record { found = simp (i, e); more = simp (i, e) }

  none_says : (more : Bool) → Behind s at more → Says (millisecond Second false mi se) s at (got (clock_of Second mi se no_fraction) at) more
  unfolding millisecond time_fraction
  none_says more b = says_map (opt (map (clock_of Second mi se) point)) s at (or_whole mi se) _ more (says_opt (map (clock_of Second mi se) point) s at no more (says_map point s at (clock_of Second mi se) no more (says_seq_no (either 44 46) s at (λ _. fraction) more (no_point more b))))

  -- what was seen of a point and three digits
  pub record Point (ms : ℕ) : Type 0 where
    pub long : at + 4 ≤ length s
    point : eqb (get_or s at 0) 46 ≡ true
    digits : ThousandthsAre (two_digits 48 (get_or s (at + 1) 0) 0 9) (two_digits (get_or s (at + 2) 0) (get_or s (at + 3) 0) 0 99) ms

  seen : (ms : ℕ) → plain_millisecond s at ≡ Some ms → Point ms
  unfolding plain_millisecond
  seen ms e =
      let a = picked_second (ltb (length s) 4) (none-some _) e in
      let b = picked_second (ltb (length s - 4) at) (none-some _) a.1 in
      let c = picked_first (eqb (get_or s at 0) 46) (none-some _) b.1 in
      record {
        long = omega (arith, ltb-false (length s) 4 a.0, ltb-false (length s - 4) at b.0);
        point = c.0;
        digits = thousandths_are (two_digits 48 (get_or s (at + 1) 0) 0 9) (two_digits (get_or s (at + 2) 0) (get_or s (at + 3) 0) 0 99) ms c.1;
      }

  point_says : {ms : ℕ} → Point ms → Says (either 44 46) s at (got tt (at + 1)) false
  unfolding alt lit
  point_says x = let i = lt-ltb at (length s) (omega (arith, x.long)) in let b = eqb-true (get_or s at 0) 46 x.point in record { found = simp (i, b); more = simp (i, b) }

  digits_say : (ms : ℕ) → Point ms → (more : Bool) → Behind s (at + 4) more → Says fraction s (at + 1) (got (milliseconds ms) (at + 4)) more
  digits_say ms x more b = rw d.value at (by_end more b)
    where
      d : ThousandthsAre (two_digits 48 (get_or s (at + 1) 0) 0 9) (two_digits (get_or s (at + 2) 0) (get_or s (at + 3) 0) 0 99) ms
      d = x.digits

      p : at + 1 + 1 ≡ at + 2
      p = omega arith

      q : at + 1 + 2 ≡ at + 3
      q = omega arith

      r : at + 1 + 3 ≡ at + 4
      r = omega arith

      other : at + 4 < length s → Starts s (at + 4) → OtherAt s (at + 4)
      other l (zulu e) = record { inside = lt-ltb (at + 4) (length s) l; is = rw e }
      other l (sign true e) = record { inside = lt-ltb (at + 4) (length s) l; is = rw e }
      other l (sign false e) = record { inside = lt-ltb (at + 4) (length s) l; is = rw e }

      by_end : (more : Bool) → Behind s (at + 4) more → Says fraction s (at + 1) (got (milliseconds (d.tenths * 100 + d.rest)) (at + 4)) more
      by_end more (end l) = rw r at (three_end s (at + 1) d.tenths d.rest (omega (arith, x.long)) d.tenths-is (rw (p, q) d.rest-is) (omega (arith, l)))
      by_end more (byte l e) = rw r at (three_other s (at + 1) d.tenths d.rest (omega (arith, x.long)) d.tenths-is (rw (p, q) d.rest-is) (rw r (other l e)))

  some_says : (ms : ℕ) → Point ms → (more : Bool) → Behind s (at + 4) more → Says (millisecond Second false mi se) s at (got (clock_of Second mi se (milliseconds ms)) (at + 4)) more
  unfolding millisecond time_fraction
  some_says ms x more b =
      says_map (opt (map (clock_of Second mi se) point)) s at (or_whole mi se) _ more
      (says_opt (map (clock_of Second mi se) point) s at _ more (says_map point s at (clock_of Second mi se) _ more (says_seq_got (either 44 46) s at (λ _. fraction) tt (at + 1) false _ more (point_says x) (digits_say ms x more b))))

-- ---- the clock

or_same : (m : Bool) → or m m ≡ m
or_same true = refl
or_same false = refl

module _ (s : List ℕ) (at : ℕ) (k : PlainClock) where
  abbrev hour_at : Option ℕ
  hour_at = two_digits (get_or s at 0) (get_or s (at + 1) 0) 0 23

  abbrev minute_at : Option ℕ
  minute_at = two_digits (get_or s (at + 3) 0) (get_or s (at + 4) 0) 0 59

  abbrev second_at : Option ℕ
  second_at = two_digits (get_or s (at + 6) 0) (get_or s (at + 7) 0) 0 60

  -- what was seen of it
  pub record Hands : Type 0 where
    pub long : at + 8 ≤ length s
    first : eqb (get_or s (at + 2) 0) 58 ≡ true
    second : eqb (get_or s (at + 5) 0) 58 ≡ true
    parts : ClockIs hour_at minute_at second_at k

  hands : plain_clock s at ≡ Some k → Hands
  unfolding plain_clock
  hands e =
      let a = picked_second (ltb (length s) 8) (none-some _) e in
      let b = picked_second (ltb (length s - 8) at) (none-some _) a.1 in
      let c = picked_first (eqb (get_or s (at + 2) 0) 58) (none-some _) b.1 in
      let d = picked_first (eqb (get_or s (at + 5) 0) 58) (none-some _) c.1 in
      record {
        long = omega (arith, ltb-false (length s) 8 a.0, ltb-false (length s - 8) at b.0);
        first = c.0;
        second = d.0;
        parts = clock_is hour_at minute_at second_at k d.1;
      }

  module _ (y : Hands) where
    hour_says : Says hour s at (got k.hour (at + 2)) false
    hour_says = two_field s at 0 23 k.hour (omega (arith, y.long)) y.parts.hour-is

    -- an hour of both editions, which ends no day
    hour_of_lem : (e : Edition) → Says (hour_of e) s at (got k.hour (at + 2)) false
    hour_of_lem E2019 = hour_says
    hour_of_lem E2004 = let i = field_wider 2 0 23 0 24 s at k.hour (at + 2) (omega arith) (omega arith) (sym hour_says.found) in record { found = sym i; more = sym (field_definite 2 0 24 s at k.hour (at + 2) i) }

    no_end : (e : Edition) → ends_day e k.hour ≡ false
    no_end E2019 = refl
    no_end E2004 = ne_eqb k.hour 24 (λ i. let r = field_within 2 0 23 s at k.hour (at + 2) (sym hour_says.found) in omega (arith, r.1))

    minute_says : Says (preceded_by 58 minute) s (at + 2) (got k.minute (at + 5)) false
    unfolding reach lowest highest
    minute_says =
        let p : at + 2 + 1 ≡ at + 3 = omega arith in
        let q : at + 2 + 2 ≡ at + 4 = omega arith in
        let r : at + 2 + 3 ≡ at + 5 = omega arith in
        rw r at (preceded_two s (at + 2) 58 0 59 k.minute (omega (arith, y.long)) y.first refl (rw (p, q) y.parts.minute-is))

    second_says : Says (preceded_by 58 second) s (at + 5) (got k.second (at + 8)) false
    unfolding reach lowest highest
    second_says =
        let p : at + 5 + 1 ≡ at + 6 = omega arith in
        let q : at + 5 + 2 ≡ at + 7 = omega arith in
        let r : at + 5 + 3 ≡ at + 8 = omega arith in
        rw r at (preceded_two s (at + 5) 58 0 60 k.second (omega (arith, y.long)) y.second refl (rw (p, q) y.parts.second-is))

    base_says : (c : Choices) (n : Fraction) (place : ℕ) (g : Got Time) → Says (millisecond Second false k.minute k.second) s (at + 8) (got (clock_of Second k.minute k.second n) place) g.more → Tail s place k.hour k.minute k.second n g → Says (base_time c) s at (got g.value g.next) g.more
    unfolding base_time after_hour minute_second_millisecond second_millisecond
    base_says c n place g f b =
        let r = c.reading in
        let m = g.more in
        rw (or_same m) at
        (says_seq_got (hour_of c.edition) s at (λ h. after_hour r (ends_day c.edition h) h) k.hour (at + 2) false (got g.value g.next) (or m m) (hour_of_lem c.edition)
        (rw (no_end c.edition)
        (says_seq_got (opt (behind_hour r false)) s (at + 2) (λ c. time_offset k.hour (or_whole 0 0 c)) (some (clock_of Second k.minute k.second n)) place m (got g.value g.next) m
        (says_opt (behind_hour r false) s (at + 2) (got (clock_of Second k.minute k.second n) place) m
        (behind_first false s (at + 2) r (got (clock_of Second k.minute k.second n) place) m refl
        (says_seq_got (preceded_by 58 minute) s (at + 2) (second_millisecond r false) k.minute (at + 5) false (got (clock_of Second k.minute k.second n) place) m minute_says
        (says_seq_got (opt (preceded_by 58 second)) s (at + 5) (λ se. millisecond (unit_of r se) false k.minute (or_zero se)) (some k.second) (at + 8) false _ m (says_opt (preceded_by 58 second) s (at + 5) _ false second_says) (rw (of_second r k.second) f)))))
        b.says)))

-- ---- room for the places, and for the nanoseconds

pub clock_room : (s : List ℕ) (at : ℕ) (k : PlainClock) → Some k ≡ plain_clock s at → at + 8 ≤ length s
clock_room s at k e = (hands s at k (sym e)).long

pub millisecond_room : (s : List ℕ) (at ms : ℕ) → Some ms ≡ plain_millisecond s at → at + 4 ≤ length s
millisecond_room s at ms e = (seen s at 0 0 ms (sym e)).long

pub millisecond_small : (s : List ℕ) (at ms : ℕ) → Some ms ≡ plain_millisecond s at → ms ≤ 999
millisecond_small s at ms e =
    let d = (seen s at 0 0 ms (sym e)).digits in
    let t = two_is 48 (get_or s (at + 1) 0) 0 9 d.tenths d.tenths-is in
    let r = two_is (get_or s (at + 2) 0) (get_or s (at + 3) 0) 0 99 d.rest d.rest-is in
    omega (arith, d.value, t.value, (two_ends t.is).greatest, r.value, (two_ends r.is).greatest)

-- ---- together

-- what is known of a plain time that starts at a place, with milliseconds or without
pub record Read (c : Choices) (s : List ℕ) (at : ℕ) (g : Got Time) : Type 0 where
  pub inside : at < length s
  pub digit : is_digit (get_or s at 0) ≡ true
  pub says : Says (base_time c) s at (got g.value g.next) g.more

module _ (c : Choices) (s : List ℕ) (at : ℕ) (g : Got Time) where
  read : (k : PlainClock) → Hands s at k → Says (base_time c) s at (got g.value g.next) g.more → Read c s at g
  read k y e = record { inside = omega (arith, y.long); digit = (two_is (get_or s at 0) (get_or s (at + 1) 0) 0 23 k.hour y.parts.hour-is).is.first; says = e }

  exact : (k : PlainClock) → Hands s at k → (ms : ℕ) → plain_millisecond s (at + 8) ≡ Some ms → plain_time s (at + 12) k (milliseconds ms) ≡ Some g → Read c s at g
  exact k y ms i e =
      let b = tail s (at + 12) k.hour k.minute k.second (milliseconds ms) g e in
      let p : at + 8 + 4 ≡ at + 12 = omega arith in
      let z = seen s (at + 8) k.minute k.second ms i in
      read k y (base_says s at k y c (milliseconds ms) (at + 12) g (rw p at (some_says s (at + 8) k.minute k.second ms z g.more (rw p b.behind))) b)

  even : (k : PlainClock) → Hands s at k → plain_time s (at + 8) k no_fraction ≡ Some g → Read c s at g
  even k y e =
      let b = tail s (at + 8) k.hour k.minute k.second no_fraction g e in
      read k y (base_says s at k y c no_fraction (at + 8) g (none_says s (at + 8) k.minute k.second g.more b.behind) b)

  pub plain_base : plain_at s at ≡ Some g → Read c s at g
  plain_base e = by_clock (plain_clock s at) refl e
    where
      by_time : (k : PlainClock) → Hands s at k → (ms : ℕ) → plain_millisecond s (at + 8) ≡ Some ms → (f : Option (Got Time)) → plain_time s (at + 12) k (milliseconds ms) ≡ f → option_or f (plain_time s (at + 8) k no_fraction) ≡ Some g → Read c s at g
      by_time k y ms i (Some f) j e = exact k y ms i (j ∙ e)
      by_time k y ms i None j e = even k y e

      by_millisecond : (k : PlainClock) → Hands s at k → (m : Option ℕ) → plain_millisecond s (at + 8) ≡ m → option_or (with_millisecond s (at + 12) k m) (plain_time s (at + 8) k no_fraction) ≡ Some g → Read c s at g
      by_millisecond k y (Some ms) i e = by_time k y ms i (plain_time s (at + 12) k (milliseconds ms)) refl e
      by_millisecond k y None i e = even k y e

      by_clock : (k : Option PlainClock) → plain_clock s at ≡ k → with_clock s at k ≡ Some g → Read c s at g
      by_clock (Some k) i e = by_millisecond k (hands s at k i) (plain_millisecond s (at + 8)) refl e
      by_clock None i e = absurd (none-some _ e)

-- at the beginning: a digit is no `T`
pub plain_says : (c : Choices) (s : List ℕ) (g : Got Time) → plain_at s 0 ≡ Some g → Says (time c) s 0 (got g.value g.next) g.more
unfolding time
plain_says c s g e =
    let r = plain_base c s 0 g e in
    says_seq_got (opt (lit 84)) s 0 (λ _. base_time c) none 0 false _ g.more (says_opt (lit 84) s 0 no false (digit_no s 0 84 r.inside r.digit refl)) r.says
