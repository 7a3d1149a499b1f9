-- What holds of every date that is read: the four alternatives read as the year and what follows it, which a `W` begins.
use Prim.Native.Nat.{ℕ}
use mathlib.Core.List.{List}
use mathlib.Core.Bool.{Bool}
use mathlib.Core.Path.{refl}
use native.Mathlib.Omega.{arith}
use lib.IntN.{ℤ}
use Rattle.types.specs.declared.Date.{Date}
use Rattle.parser.specs.Reading.{Found, Says, seq, alt}
use Rattle.parser.specs.Answer.{begun, Begins, verdict_of}
use Rattle.parser.specs.Digits.{is_digit}
use Rattle.parser.proofs.Places.{Bounded}
use Rattle.parser.proofs.Hopeful.{Anything}
use Rattle.parser.proofs.Alike.{Alike, alike_refl, common_beginning}
use Rattle.parser.proofs.Lawful.{lawful_begins, Item, widen, outside_keeps, then_item, alike_item}
use Rattle.parser.proofs.TooFew.{Takes, fewer_takes, lit_takes, field_takes, map_takes, verify_takes, opt_takes, alt_takes, seq_takes, preceded_takes, signed_takes, alike_takes, TooFew, takes_too_few}
use Rattle.date.specs.Rules.{year, day_of_week, week_and_day, wd, md_numeric, ymd_numeric, ordinal, ddd, yddd, day_of_month, month_and_day, md, ymd, date}
use Rattle.date.specs.Answer.{after_year}
use Rattle.date.proofs.Parts.{bytes, year_item, after_year_item}

-- the four alternatives read as one reading of the year and what follows it
pub date_alike : Alike date (seq year after_year)
unfolding date after_year
date_alike =
    common_beginning year wd (λ y. alt (md_numeric y) (alt (ddd y) (md y))) (alt ymd_numeric (alt yddd ymd))
    (common_beginning year md_numeric (λ y. alt (ddd y) (md y)) (alt yddd ymd) (common_beginning year ddd md ymd (alike_refl ymd)))

-- four digits complete the year, and `W` and a week the date
pub date_item : Item bytes is_digit 7 7 Anything date
date_item = alike_item date_alike (then_item (outside_keeps 87 refl year_item.lawful) (widen refl year_item) after_year_item)

pub date_bounded : Bounded date
date_bounded = date_item.lawful.steady.bounded

-- what code says of the rule at the beginning is what a reader has to promise: an open date has a continuation of at most seven bytes that
-- changes the answer
pub date_begins : (s : List ℕ) (f : Found Date) (m : Bool) → Says date s 0 f m → Begins 7 date s (begun f) (verdict_of m)
date_begins = lawful_begins date_item.lawful

-- ---- a date has seven bytes at least: a year, and three more behind it

year_takes : Takes 4 year
unfolding year
year_takes = seq_takes (opt_takes signed_takes) (λ o. map_takes _ (field_takes 4 100 9999))

week_takes : (y : ℤ) → Takes 3 (week_and_day y)
unfolding week_and_day day_of_week
week_takes y =
    seq_takes (seq_takes (lit_takes 87) (λ _. field_takes 2 1 52))
    (λ w. map_takes _ (map_takes _ (verify_takes _ (opt_takes (preceded_takes 45 (field_takes 1 0 9))))))

month_takes : (y : ℤ) → Takes 2 (month_and_day y)
unfolding month_and_day day_of_month
month_takes y = seq_takes (field_takes 2 1 12) (λ m. map_takes _ (map_takes _ (opt_takes (preceded_takes 45 (field_takes 2 1 31)))))

pub after_year_takes : (y : ℤ) → Takes 3 (after_year y)
unfolding after_year md_numeric ordinal
after_year_takes y =
    alt_takes (preceded_takes 45 (week_takes y))
    (alt_takes (fewer_takes (omega arith) (seq_takes (field_takes 2 1 12) (λ m. map_takes _ (field_takes 2 1 31))))
    (alt_takes (preceded_takes 45 (map_takes _ (field_takes 3 1 366))) (seq_takes (lit_takes 45) (λ _. month_takes y))))

pub date_takes : Takes 7 date
date_takes = alike_takes date_alike (seq_takes year_takes after_year_takes)

pub date_too_few : TooFew 6 date
date_too_few = takes_too_few 6 (omega arith) date_takes date_bounded date_item.fails
