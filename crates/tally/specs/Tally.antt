-- The running sum: "a tally lent to the line step, which adds one line's duration to it".
use Rattle.std.specs.Prelude.{ℕ}
use Rattle.types.specs.Sums.{both}
use Rattle.std.specs.declared.option.Option.{Option}
use Rattle.tally.specs.declared.Tally.{Tally}

-- one line's seconds more: exact, or none where one of both is, or where they pass the limit
abbrev pub with_line : Tally → Option ℕ → Tally
with_line t line = record { sum = both t.sum line }
