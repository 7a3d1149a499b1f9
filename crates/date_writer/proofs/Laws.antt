-- Dates are read back from their spelling, whatever follows: the dash decides between the alternatives, and then `W`, or how many digits stand
-- behind it.
use Prim.Native.Nat.{ℕ, suc, ◌≤◌}
use mathlib.Core.List.{List, [], ◌∷◌, ◌++◌, append_assoc}
use mathlib.Core.Bool.{Bool, true}
use mathlib.Core.Option.{Option, some, none}
use mathlib.Core.Path.{◌≡◌, refl}
use native.Mathlib.Omega.{arith}
use borrow.Author.Tests.{le-leb, leb-true}
use lib.Dec.{leb}
use lib.IntN.{ℤ, pos, negsuc}
use lib.ListN.{length}
use Rattle.types.specs.declared.Date.{Date}
use Rattle.types.specs.declared.Date.TheVariants.{YMD, Week, Ordinal}
use Rattle.parser.specs.Reading.{lit, opt, and, within}
use Rattle.parser.specs.Digits.{field}
use Rattle.parser.specs.Fields.{signed, preceded_by}
use Rattle.parser.proofs.Fields.{and_first, and_second}
use Rattle.parser.proofs.Leaves.{From}
use Rattle.date.specs.Rules.{minus, year, or_first, one_to_seven, day_of_week, week_and_day, wd, md_numeric, ordinal, ddd, day_of_month, month_and_day, date}
use Rattle.date.specs.Answer.{after_year}
use Rattle.date.proofs.Laws.{date_alike}
use Rattle.writing.specs.Spelling.{padded, year_spelling, date_spelling}
use Rattle.writing.proofs.Texts.{ReadAs, Refuses, lit_reads, seq_reads, seq_refuses, seq_refuses_behind, map_reads, map_refuses, verify_reads, opt_reads, opt_lacks, alt_first, alt_second, alt_refuses, alike_reads, whole}
use Rattle.parser.proofs.Runs.{none}
use Rattle.writing.proofs.Digits.{nat_abs_signed, padded_refuses, padded_digits, length_padded, field_reads, field_refuses}
use Rattle.writing.proofs.Yields.{Yields, OrLeftOut, seq_yields, map_yields, opt_yields, alt_yields, verify_yields, preceded_yields, field_yields, anything}
use Rattle.writing.specs.Writing.{Measures, measure}
use Rattle.writing.proofs.Laws.{Spells, given_measures}
use Rattle.date_writer.specs.Ranges.{year_given, date_given}

within_from : (lo hi v : ℕ) → within lo hi v ≡ true → From lo hi v
within_from lo hi v e = (leb-true lo v (and_first (leb lo v) (leb v hi) e), leb-true v hi (and_second (leb lo v) e))

from_within : (lo hi v : ℕ) → From lo hi v → within lo hi v ≡ true
from_within lo hi v f = rw (le-leb lo v f.0, le-leb v hi f.1)

-- ---- the year

year_reads : (y : ℤ) (x : List ℕ) → year_given y ≡ true → ReadAs year (year_spelling y) x y
unfolding year year_spelling
year_reads (pos n) x e =
    let f = within_from 100 9999 n e in
    let no_sign = opt_lacks (alt_refuses (map_refuses _ (padded_refuses 45 3 n x refl)) (map_refuses _ (padded_refuses 43 3 n x refl))) in
    seq_reads _ no_sign (map_reads _ (field_reads 4 100 9999 n x f.0 f.1 (omega (arith, f.1))))
year_reads (negsuc n) x e =
    let f = within_from 100 9999 (suc n) e in
    seq_reads _ (opt_reads (alt_first _ (map_reads _ (lit_reads 45 _)))) (map_reads _ (field_reads 4 100 9999 (suc n) x f.0 f.1 (omega (arith, f.1))))

-- ---- what follows it

module _ (y : ℤ) where
  -- behind a dash no `W` stands where a digit does
  no_week : (n v : ℕ) (x : List ℕ) → Refuses (wd y) (45 ∷ (padded (suc n) v ++ x))
  unfolding week_and_day
  no_week n v x = seq_refuses_behind _ (opt_reads (lit_reads 45 _)) (seq_refuses _ (seq_refuses _ (padded_refuses 87 n v x refl)))

  -- a month without a dash does not begin with one
  no_month : (x : List ℕ) → Refuses (md_numeric y) (45 ∷ x)
  unfolding md_numeric
  no_month x = seq_refuses _ (field_refuses 2 1 12 (45 ∷ x) none (omega arith) refl)

  -- two digits and a dash are no day of the year
  no_ordinal : (m : ℕ) (x : List ℕ) → Refuses (ddd y) (45 ∷ (padded 2 m ++ 45 ∷ x))
  unfolding ordinal
  no_ordinal m x = seq_refuses_behind _ (opt_reads (lit_reads 45 _)) (map_refuses _ (field_refuses 3 1 366 (45 ∷ x) (padded_digits 2 m) (omega (arith, length_padded 2 m)) refl))

  month_reads : (m d : ℕ) (x : List ℕ) → From 1 12 m → From 1 31 d → ReadAs (after_year y) (45 ∷ (padded 2 m ++ 45 ∷ padded 2 d)) x (YMD y m d)
  unfolding after_year month_and_day day_of_month
  month_reads m d x fm fd =
      let after = append_assoc (padded 2 m) (45 ∷ padded 2 d) x in
      alt_second (rw after (no_week 1 m (45 ∷ (padded 2 d ++ x))))
      (alt_second (no_month ((padded 2 m ++ 45 ∷ padded 2 d) ++ x))
      (alt_second (rw after (no_ordinal m (padded 2 d ++ x)))
      (seq_reads _ (lit_reads 45 _)
      (seq_reads _ (field_reads 2 1 12 m _ fm.0 fm.1 (omega (arith, fm.1)))
      (map_reads _ (map_reads _ (opt_reads (seq_reads _ (opt_reads (lit_reads 45 _)) (field_reads 2 1 31 d x fd.0 fd.1 (omega (arith, fd.1)))))))))))

  week_reads : (w d : ℕ) (x : List ℕ) → From 1 52 w → From 1 7 d → ReadAs (after_year y) (45 ∷ 87 ∷ (padded 2 w ++ 45 ∷ padded 1 d)) x (Week y w d)
  unfolding after_year week_and_day day_of_week
  week_reads w d x fw fd =
      alt_first _
      (seq_reads _ (opt_reads (lit_reads 45 _))
      (seq_reads _ (seq_reads _ (lit_reads 87 _) (field_reads 2 1 52 w _ fw.0 fw.1 (omega (arith, fw.1))))
      (map_reads _
      (map_reads _ (verify_reads _ (from_within 1 7 d fd) (opt_reads (seq_reads _ (opt_reads (lit_reads 45 _)) (field_reads 1 0 9 d x (omega arith) (omega (arith, fd.1)) (omega (arith, fd.1))))))))))

  ordinal_reads : (d : ℕ) (x : List ℕ) → From 1 366 d → ReadAs (after_year y) (45 ∷ padded 3 d) x (Ordinal y d)
  unfolding after_year ordinal
  ordinal_reads d x f = alt_second (no_week 2 d x) (alt_second (no_month (padded 3 d ++ x)) (alt_first _ (seq_reads _ (opt_reads (lit_reads 45 _)) (map_reads _ (field_reads 3 1 366 d x f.0 f.1 (omega (arith, f.1)))))))

-- ---- the whole date

year_then : (y : ℤ) {t x : List ℕ} {v : Date} → year_given y ≡ true → ReadAs (after_year y) t x v → ReadAs date (year_spelling y ++ t) x v
year_then y {t} {x} e h = alike_reads date_alike (seq_reads _ (year_reads y (t ++ x) e) h)

pub date_reads_lem : (d : Date) (x : List ℕ) → date_given d ≡ true → ReadAs date (date_spelling d) x d
unfolding date_given date_spelling
date_reads_lem (YMD y m d) x e =
    let f = and_first (and (within 1 12 m) (within 1 31 d)) (year_given y) e in
    let same : year_spelling y ++ 45 ∷ padded 2 m ++ 45 ∷ padded 2 d ≡ year_spelling y ++ (45 ∷ (padded 2 m ++ 45 ∷ padded 2 d)) = append_assoc (year_spelling y) (45 ∷ padded 2 m) (45 ∷ padded 2 d) in
    rw same (year_then y (and_second (and (within 1 12 m) (within 1 31 d)) e) (month_reads y m d x (within_from 1 12 m (and_first (within 1 12 m) (within 1 31 d) f)) (within_from 1 31 d (and_second (within 1 12 m) f))))
date_reads_lem (Week y w d) x e =
    let f = and_first (and (within 1 52 w) (within 1 7 d)) (year_given y) e in
    let same : year_spelling y ++ 45 ∷ 87 ∷ padded 2 w ++ 45 ∷ padded 1 d ≡ year_spelling y ++ (45 ∷ 87 ∷ (padded 2 w ++ 45 ∷ padded 1 d)) = append_assoc (year_spelling y) (45 ∷ 87 ∷ padded 2 w) (45 ∷ padded 1 d) in
    rw same (year_then y (and_second (and (within 1 52 w) (within 1 7 d)) e) (week_reads y w d x (within_from 1 52 w (and_first (within 1 52 w) (within 1 7 d) f)) (within_from 1 7 d (and_second (within 1 52 w) f))))
date_reads_lem (Ordinal y d) x e = year_then y (and_second (within 1 366 d) e) (ordinal_reads y d x (within_from 1 366 d (and_first (within 1 366 d) (year_given y) e)))

-- ---- what is read lies in the ranges

year_yields : Yields (λ y. year_given y ≡ true) year
unfolding year
year_yields = seq_yields _ (anything (opt signed)) (λ o z. map_yields _ (λ n f. rw (nat_abs_signed (minus o) n) (from_within 100 9999 n f)) (field_yields 4 100 9999))

or_first_lem : (hi : ℕ) (d : Option ℕ) → 1 ≤ hi → OrLeftOut (From 1 hi) d → From 1 hi (or_first d)
or_first_lem hi none h f = (omega arith, h)
or_first_lem hi (some d) h f = f

module _ (y : ℤ) (e : year_given y ≡ true) where
  calendar : (m d : ℕ) → From 1 12 m → From 1 31 d → date_given (YMD y m d) ≡ true
  unfolding date_given
  calendar m d fm fd = rw (from_within 1 12 m fm, from_within 1 31 d fd) e

  weekly : (w d : ℕ) → From 1 52 w → From 1 7 d → date_given (Week y w d) ≡ true
  unfolding date_given
  weekly w d fw fd = rw (from_within 1 52 w fw, from_within 1 7 d fd) e

  daily : (d : ℕ) → From 1 366 d → date_given (Ordinal y d) ≡ true
  unfolding date_given
  daily d f = rw (from_within 1 366 d f) e

-- a day that passed the test of a week's day
one_to_seven_lem : (d : Option ℕ) → one_to_seven d ≡ true → From 1 7 (or_first d)
one_to_seven_lem none t = (omega arith, omega arith)
one_to_seven_lem (some d) t = within_from 1 7 d t

pub date_yields : Yields (λ d. date_given d ≡ true) date
unfolding date week_and_day day_of_week md_numeric ordinal month_and_day day_of_month
date_yields =
    alt_yields
    (seq_yields _ year_yields (λ y e. preceded_yields 45 (seq_yields _ (seq_yields _ (anything (lit 87)) (λ u z. field_yields 2 1 52)) (λ w fw.
    map_yields _ (λ d fd. weekly y e w d fw fd) (map_yields _ (λ d t. one_to_seven_lem d t) (verify_yields _ (λ d z t. t) (anything (opt (preceded_by 45 (field 1 0 9))))))))))
    (alt_yields
    (seq_yields _ year_yields (λ y e. seq_yields _ (field_yields 2 1 12) (λ m fm. map_yields _ (λ d fd. calendar y e m d fm fd) (field_yields 2 1 31))))
    (alt_yields
    (seq_yields _ year_yields (λ y e. preceded_yields 45 (map_yields _ (λ d f. daily y e d f) (field_yields 3 1 366))))
    (seq_yields _ year_yields (λ y e. seq_yields _ (anything (lit 45)) (λ u z. seq_yields _ (field_yields 2 1 12) (λ m fm.
    map_yields _ (λ d fd. calendar y e m d fm fd) (map_yields _ (λ d fd. or_first_lem 31 d (omega arith) fd) (opt_yields (preceded_yields 45 (field_yields 2 1 31))))))))))

pub date_spells : Spells date date_spelling date_given
date_spells = record { back = λ d e. whole (date_reads_lem d [] e); ranges = λ d r. date_yields.fact r.bytes 0 d r.count r.reads }

pub date_measures : (d : Date) {t : Bool} {n : ℕ} → t ≡ date_given d → n ≡ length (date_spelling d) → Measures date d (date_spelling d) (measure t n)
date_measures d e f = given_measures date_spells d e f
