-- What the code has of a line, and how it counts.
use Rattle.std.specs.Prelude.{ℕ, ◌+◌, List, [], ltb, get_or, set}
use Rattle.std.proofs.Math.Option.{Option, some, none}
use Rattle.types.specs.Sums.{largest, or_over}
use Rattle.std.specs.declared.option.Option as std_option
use Rattle.std.specs.declared.option.Option.TheVariants.{None, Some}
use Rattle.parser.specs.Reading.{pick}
use Rattle.counts.specs.declared.Counted.{Counted}
use Rattle.counts.specs.Counts.{Line, adds}

-- a line's row, its answer, and the seconds that it adds: exact, or none where they are more than 64 bits hold
abbrev pub seen : Option Line → std_option.Option Counted
seen (some x) = Some (record { row = x.row; answer = x.told.number; seconds = or_over (adds (some x)) })
seen none = None

-- one more, as far as 64 bits hold it
abbrev pub more : ℕ → ℕ
more n = pick (ltb n largest) (n + 1) n

-- the count at a place of the table is raised, and no other
abbrev pub raised_in : ℕ → List ℕ → List ℕ
raised_in j r = set r j (more (get_or r j 0))

unfoldable pub raised : ℕ → ℕ → List (List ℕ) → List (List ℕ)
raised i j t = pick (ltb i 5) (pick (ltb j 4) (set t i (raised_in j (get_or t i []))) t) t

abbrev pub counted : std_option.Option Counted → List (List ℕ) → List (List ℕ)
counted (Some l) t = raised l.row l.answer t
counted None t = t

abbrev pub bad_counted : std_option.Option Counted → ℕ → ℕ
bad_counted (Some l) n = n
bad_counted None n = more n

abbrev pub adding : std_option.Option Counted → std_option.Option ℕ
adding (Some l) = l.seconds
adding None = Some 0
