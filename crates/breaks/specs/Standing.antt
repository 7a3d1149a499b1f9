-- How a text stands by one reading of it: what the code goes by, and nothing of what it promises.
use Rattle.std.specs.Prelude.{ℕ, Bool, false, List, eqb}
use Rattle.std.specs.declared.result.Result.TheVariants.{Ok, Err}
use Rattle.kinds.specs.declared.answer.Kind.{Kind}
use Rattle.kinds.specs.Kinds.{Answer}
use Rattle.breaks.specs.declared.Standing.{Standing}
use Rattle.breaks.specs.declared.Standing.TheVariants.{Accepted, Unfinished, Broken}
use Rattle.breaks.specs.Breaks.{Accepts, Completable}

-- an answer is a record of so many bytes
abbrev pub wholly : Answer → ℕ → Bool
wholly (Ok found) all = eqb found.count all
wholly (Err refused) all = false

abbrev pub Stands : Kind → List ℕ → Standing → Type 0
Stands k s Accepted = Accepts k s
Stands k s Unfinished = (Accepts k s → ⊥) × Completable k s
Stands k s Broken = Completable k s → ⊥
