-- What the code reads at one go or in fewer ways.
use Rattle.std.specs.Prelude.{ℕ, ℤ}
use Rattle.types.specs.declared.Date.{Date}
use Rattle.types.specs.declared.Date.TheVariants.{YMD}
use Rattle.parser.specs.Reading.{Reader, seq, opt, alt, map}
use Rattle.parser.specs.Fields.{month, day}
use Rattle.date.specs.Rules.{dash, or_first, wd, md_numeric, ddd, md}

-- what follows the year, which the code reads once for the four alternatives; `proofs/Laws.antt` shows that both read alike
unfoldable pub after_year : ℤ → Reader Date
after_year y = alt (wd y) (alt (md_numeric y) (alt (ddd y) (md y)))

-- rule 4 as the code reads it, "year, `-`, month, then optionally {`-`, day}": behind the year and its dash; `proofs/Dashed.antt`
-- shows that the date's rule with it reads alike
abbrev pub dashed_day : Reader ℕ
dashed_day = seq dash (λ _. day)

unfoldable pub dashed_day_of_month : Reader ℕ
dashed_day_of_month = map or_first (opt dashed_day)

unfoldable pub month_and_dashed_day : ℤ → Reader Date
month_and_dashed_day y = seq month (λ m. map (λ d. YMD y m d) dashed_day_of_month)
