-- What the loop of `week` leaves: table and state are those of some bytes, which were handed over one block behind the other. No contract says
-- which bytes a read gave.
use Rattle.std.specs.Prelude.{ℕ, List, ◌≡◌, ltb, length}
use Rattle.std.specs.declared.option.Option.{Option}
use Rattle.std.specs.declared.option.Option.TheVariants.{None, Some}
use Rattle.std.specs.declared.result.Result.{Result}
use Rattle.std.specs.declared.result.Result.TheVariants.{Ok, Err}
use Rattle.std.specs.declared.process.ExitCode.{ExitCode}
use Rattle.std.specs.Process.{exit_status}
use Rattle.parser.specs.Reading.{or}
use Rattle.logs.specs.Log.{longest, After, passes, Steps}
use Rattle.week.specs.declared.Progress.{Progress}

-- a block more is counted, and whether bytes came behind the input
pub record Took (p : Progress) (table : List (List ℕ)) (kept : List ℕ) (table' : List (List ℕ)) (kept' : List ℕ) (r : Progress) : Type 0 where
  pub block : List ℕ
  pub steps : Steps p.week block table kept table' kept' r.week
  pub passed : r.past ≡ or p.past (passes p.week block)

-- at the end nothing changes; where a read failed no table is written
abbrev pub Turned : Progress → List (List ℕ) → List ℕ → List (List ℕ) → List ℕ → Result (Option Progress) ExitCode → Type 0
Turned p table kept table' kept' (Ok (Some r)) = Took p table kept table' kept' r
Turned p table kept table' kept' (Ok None) = (table' ≡ table) × (kept' ≡ kept)
Turned p table kept table' kept' (Err status) = exit_status status ≡ 1

-- the table of all that was handed over, and whether that is more than the input
pub record Handed (table : List (List ℕ)) (kept : List ℕ) (p : Progress) : Type 0 where
  pub handed : List ℕ
  pub after : After (length kept) handed table p.week kept
  pub passed : p.past ≡ ltb longest (length handed)

abbrev pub Counted : List (List ℕ) → List ℕ → Result Progress ExitCode → Type 0
Counted table kept (Ok p) = Handed table kept p
Counted table kept (Err status) = exit_status status ≡ 1
