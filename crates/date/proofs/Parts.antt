-- The laws of a date's parts, in the rules' order: signs, dashes and days are left out where the input ends, and digits and `W` are read.
use Prim.Native.Nat.{ℕ, ◌+◌, ◌*◌}
use mathlib.Core.List.{List, [], ◌∷◌}
use mathlib.Core.Bool.{Bool}
use mathlib.Core.Path.{◌≡◌, refl}
use native.Mathlib.Omega.{arith}
use lib.Dec.{leb}
use lib.IntN.{ℤ}
use borrow.Author.Tests.{leb-true, le-leb}
use Rattle.parser.specs.Digits.{is_digit, reach, lowest, highest}
use Rattle.parser.proofs.Fields.{and_second, lowest_grows, highest_grows}
use Rattle.parser.proofs.Places.{Fails}
use Rattle.parser.proofs.Hopeful.{Anything}
use Rattle.parser.proofs.Leaves.{Narrows, DigitByte, signed_foreign, digit_is_not}
use Rattle.parser.proofs.Lawful.{byte, Tail, tail_where, map_tail, Item, map_item, alt_item, opt_tail, tested_tail, seq_item, then_item}
use Rattle.parser.proofs.Items.{lit_mark, signed_mark, after_item, left_out_item, preceded_item, lowest_zero, field_item, field_item_in, field_keeps}
use Rattle.date.specs.Rules.{minus, digits_of_year, year, week, day_of_week, week_and_day, md_numeric, ordinal, day_of_month, month_and_day}
use Rattle.date.specs.Answer.{after_year}

-- what a year takes beside digits, `+` and `-`; and a date, these and `W`
abbrev pub signs : List ℕ
signs = 43 ∷ 45 ∷ []

abbrev pub bytes : List ℕ
bytes = 43 ∷ 45 ∷ 87 ∷ []

-- ---- the year: its sign is left out, so that four digits complete it

digits_of_year_item : (m : Bool) → Item signs is_digit 4 4 Anything (digits_of_year m)
digits_of_year_item m = map_item _ (field_item 4 100 9999 refl)

pub digits_of_year_fails : (m : Bool) → Fails (digits_of_year m)
digits_of_year_fails m = (digits_of_year_item m).fails

pub year_item : Item signs is_digit 4 4 Anything year
unfolding year
year_item = left_out_item (signed_mark refl refl) (signed_foreign DigitByte (digit_is_not 45 refl) (digit_is_not 43 refl)) (λ o. digits_of_year_item (minus o))

-- ---- 1. the week: `W` and two digits complete it, and a digit from 1 to 7 its day

week_item : Item bytes (byte 87) 3 3 Anything week
week_item = after_item (lit_mark 87 refl) (λ _. field_item 2 1 52 refl)

-- wherever one digit can follow, a digit from 1 to 7 can
one_to_seven_reached : Narrows 0 9 1 7
unfolding reach lowest highest
one_to_seven_reached n v r =
    let least = leb-true (lowest n (v * 10)) 9 (and_second (leb 0 (highest n (v * 10 + 9))) r) in
    let none_yet : v * 10 ≡ 0 = omega (arith, lowest_grows n (v * 10)) in
    rw (le-leb 1 (highest n (v * 10 + 9)) (omega (arith, highest_grows n (v * 10 + 9))), none_yet, lowest_zero n)

day_of_week_tail : Tail bytes 1 day_of_week
unfolding day_of_week
day_of_week_tail =
    map_tail _ (tail_where (λ _. refl)
    (tested_tail _ (preceded_item 45 refl refl (field_item_in 1 0 9 1 7 refl one_to_seven_reached)) (λ d f. rw (le-leb 1 d f.0, le-leb d 7 f.1))))

pub week_and_day_item : (y : ℤ) → Item bytes (byte 87) 3 3 Anything (week_and_day y)
unfolding week_and_day
week_and_day_item y = seq_item week_item (λ w. map_tail _ day_of_week_tail)

-- ---- 2. to 4. digits complete the others

md_numeric_item : (y : ℤ) → Item bytes is_digit 4 4 Anything (md_numeric y)
unfolding md_numeric
md_numeric_item y = then_item (field_keeps 2 1 12) (field_item 2 1 12 refl) (λ m. map_item _ (field_item 2 1 31 refl))

pub ordinal_item : (y : ℤ) → Item bytes is_digit 3 3 Anything (ordinal y)
unfolding ordinal
ordinal_item y = map_item _ (field_item 3 1 366 refl)

day_of_month_tail : Tail bytes 2 day_of_month
unfolding day_of_month
day_of_month_tail = map_tail _ (opt_tail (preceded_item 45 refl refl (field_item 2 1 31 refl)))

month_and_day_item : (y : ℤ) → Item bytes is_digit 2 2 Anything (month_and_day y)
unfolding month_and_day
month_and_day_item y = seq_item (field_item 2 1 12 refl) (λ m. map_tail _ day_of_month_tail)

pub after_year_item : (y : ℤ) → Item bytes (byte 87) 3 4 Anything (after_year y)
unfolding after_year
after_year_item y =
    alt_item (preceded_item 45 refl refl (week_and_day_item y))
    (alt_item (md_numeric_item y)
    (alt_item (preceded_item 45 refl refl (ordinal_item y)) (after_item (lit_mark 45 refl) (λ _. month_and_day_item y))))
