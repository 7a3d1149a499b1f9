-- What stops the reading is left as it is.
use mathlib.Core.Bool.{true}
use mathlib.Core.Path.{◌≡◌, refl}
use Prim.Native.Nat.{ℕ}
use Rattle.std.specs.declared.result.Result.{Result}
use Rattle.std.specs.declared.result.Result.TheVariants.{Ok, Err}
use Rattle.types.specs.declared.Date.{Date}
use Rattle.parser.specs.declared.Miss.{Miss}
use Rattle.parser.specs.declared.Miss.TheVariants as miss
use Rattle.parser.specs.declared.Got.{Got}
use Rattle.parser.specs.Reading.{stop}
use Rattle.parser.specs.Read.{got_found, got_more}
use Rattle.std.proofs.Common.{rules, arith}
use Rattle.date.proofs.opened.Goals as goal

stops : (r : Result (Got Date) Miss) → ((g : Got Date) → r ≡ Ok g → ⊥) → (r ≡ Err miss.Wrong → ⊥) → (r ≡ Err miss.Cut → ⊥) → ((q : ℕ) → got_found r ≡ stop q → ⊥) → got_more r ≡ true
stops (Ok g) o w c n = absurd (o g refl)
stops (Err miss.Wrong) o w c n = absurd (w refl)
stops (Err miss.Cut) o w c n = refl
stops (Err (miss.Stopped q)) o w c n = absurd (n _ refl)

pub returns-in_default-clause-more : goal.returns-in_default-clause-more
returns-in_default-clause-more c = stops c.args.found c.in_default.not-Ok (λ e. search rules) (λ e. grind arith)
