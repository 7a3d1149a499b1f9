-- The plain form is what the rule reads, and settled: the year is four digits, no week and no ordinal day starts behind its dash,
-- and the day ends it.
use Prim.Native.Nat.{ℕ, ◌+◌, ◌*◌, ◌<◌, ◌≤◌}
use mathlib.Core.List.{List}
use mathlib.Core.Bool.{true, false}
use mathlib.Core.Option.{none}
use mathlib.Core.Path.{◌≡◌, refl}
use native.Mathlib.Omega.{arith}
use lib.IntN.{ℤ, pos}
use lib.ListN.{length, get_or}
use lib.Dec.{ltb, eqb}
use borrow.Author.Tests.{ltb-false, lt-ltb, eqb-true}
use Rattle.types.specs.Sums.{with_sign}
use Rattle.types.specs.declared.Date.{Date}
use Rattle.types.specs.declared.Date.TheVariants.{YMD, Week, Ordinal}
use Rattle.parser.specs.Reading.{no, got, lit, seq, opt, map, Says}
use Rattle.parser.specs.Digits.{is_digit, field}
use Rattle.parser.specs.Fields.{month, day, signed}
use Rattle.parser.proofs.Alike.{alike_says}
use Rattle.parser.proofs.Fields.{OtherAt}
use Rattle.parser.proofs.Says.{says_map, says_opt, says_seq_got, says_seq_no, says_alt_no}
use Rattle.looks.specs.Date.{plain_date}
use Rattle.std.specs.declared.option.Option.TheVariants.{None, Some}
use Rattle.looks.proofs.Choices.{picked_first, picked_second}
use Rattle.looks.proofs.Parts.{YmdIs, ymd_is}
use Rattle.looks.proofs.Two.{two_is, two_at, two_field, four_field, three_cut, digit_no, byte_says, past_byte}
use Rattle.date.specs.Rules.{minus, digits_of_year, year, dash, week_of_year, week, day_of_week, week_and_day, day_of_year, ordinal, date}
use Rattle.date.specs.Answer.{after_year, dashed_day_of_month, month_and_dashed_day}
use Rattle.date.proofs.Dash.{says_after_dash}
use Rattle.date.proofs.Dashed.{of_day, says_month}
use Rattle.date.proofs.Laws.{date_alike}

none_some : {d : Date} → None ≡ Some d → ⊥
none_some e = let z : ◌≡◌ {A = ℕ} 0 1 = cc in omega arith

-- what was seen of an input in the plain form
record Seen (s : List ℕ) (d : Date) : Type 0 where
  long : 10 ≤ length s
  first : eqb (get_or s 4 0) 45 ≡ true
  second : eqb (get_or s 7 0) 45 ≡ true
  parts : YmdIs (two_at s 0 1 99) (two_at s 2 0 99) (two_at s 5 1 12) (two_at s 8 1 31) d

seen : (s : List ℕ) (d : Date) → plain_date s ≡ Some d → Seen s d
unfolding plain_date
seen s d e =
    let a = picked_second (ltb (length s) 10) none_some e in
    let b = picked_first (eqb (get_or s 4 0) 45) none_some a.1 in
    let c = picked_first (eqb (get_or s 7 0) 45) none_some b.1 in
    record { long = ltb-false (length s) 10 a.0; first = b.0; second = c.0; parts = ymd_is (two_at s 0 1 99) (two_at s 2 0 99) (two_at s 5 1 12) (two_at s 8 1 31) d c.1 }

module _ (s : List ℕ) (d : Date) (x : Seen s d) where
  abbrev p : YmdIs (two_at s 0 1 99) (two_at s 2 0 99) (two_at s 5 1 12) (two_at s 8 1 31) d
  p = x.parts

  abbrev n : ℕ
  n = p.century * 100 + p.rest

  -- no byte stands where two digits do
  byte : (at c lo hi v : ℕ) → at < length s → two_at s at lo hi ≡ Some v → is_digit c ≡ false → Says (lit c) s at no false
  byte at c lo hi v l e k = digit_no s at c l (two_is (get_or s at 0) (get_or s (at + 1) 0) lo hi v e).is.first k

  says_sign : Says signed s 0 no false
  says_sign =
      says_alt_no (map (λ _. true) (lit 45)) s 0 (map (λ _. false) (lit 43)) false no false
      (says_map (lit 45) s 0 (λ _. true) no false (byte 0 45 1 99 p.century (omega (arith, x.long)) p.century-is refl))
      (says_map (lit 43) s 0 (λ _. false) no false (byte 0 43 1 99 p.century (omega (arith, x.long)) p.century-is refl))

  says_year : Says year s 0 (got (pos n) 4) false
  unfolding year
  says_year =
      says_seq_got (opt signed) s 0 (λ o. digits_of_year (minus o)) none 0 false (got (pos n) 4) false (says_opt signed s 0 no false says_sign)
      (says_map (field 4 100 9999) s 0 (with_sign false) (got n 4) false (four_field s 0 p.century p.rest (omega (arith, x.long)) p.century-is p.rest-is))

  module _ (y : ℤ) where
    says_week : Says (week_and_day y) s 5 no false
    unfolding week_and_day
    says_week =
        says_seq_no week s 5 (λ w. map (λ d. Week y w d) day_of_week) false
        (says_seq_no (lit 87) s 5 (λ _. week_of_year) false (byte 5 87 1 12 p.month (omega (arith, x.long)) p.month-is refl))

    says_ordinal : Says (ordinal y) s 5 no false
    unfolding ordinal
    says_ordinal =
        let other : OtherAt s 7 = record { inside = lt-ltb 7 (length s) (omega (arith, x.long)); is = rw (eqb-true (get_or s 7 0) 45 x.second) } in
        says_map day_of_year s 5 (λ d. Ordinal y d) no false (three_cut s 5 1 366 1 12 p.month (omega (arith, x.long)) p.month-is other)

    says_day : Says (month_and_dashed_day y) s 5 (got (YMD y p.month p.day) 10) false
    unfolding month_and_dashed_day
    says_day =
        says_seq_got month s 5 (λ m. map (λ d. YMD y m d) dashed_day_of_month) p.month 7 false _ false (two_field s 5 1 12 p.month (omega (arith, x.long)) p.month-is)
        (says_map dashed_day_of_month s 7 (λ d. YMD y p.month d) _ false
        (of_day s 7 (got p.day 10) false (says_seq_got dash s 7 (λ _. day) tt 8 false _ false (byte_says s 7 45 (omega (arith, x.long)) x.second) (two_field s 8 1 31 p.day (omega (arith, x.long)) p.day-is))))

  says_seen : Says date s 0 (got d 10) false
  says_seen =
      rw (← p.value)
      (alike_says date (seq year after_year) date_alike s 0 _ _
      (says_seq_got year s 0 after_year (pos n) 4 false _ false says_year
      (says_after_dash (pos n) s 4 5 (past_byte s 4 45 (omega (arith, x.long)) x.first) _ _ (omega arith) (says_week (pos n))
      (says_month (pos n) s 5 false _ false (says_ordinal (pos n)) (says_day (pos n))))))

pub plain_says : (s : List ℕ) (d : Date) → plain_date s ≡ Some d → Says date s 0 (got d 10) false
plain_says s d e = says_seen s d (seen s d e)
