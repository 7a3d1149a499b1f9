-- How far apart two texts are: what the whole reader tells of them, then their moments.
use Rattle.std.specs.Prelude.{ℕ, List, ◌≡◌, length, Result}
use Rattle.std.proofs.Math.Option.{Option, some, none}
use Rattle.std.specs.declared.result.Result.TheVariants.{Err}
use Rattle.types.specs.Numbers.{number_of}
use Rattle.types.specs.declared.Choices.{Choices}
use Rattle.types.specs.declared.DateTime.{DateTime}
use Rattle.types.specs.declared.Refusal.{Refusal}
use Rattle.parser.specs.Answer.{Told, ended}
use Rattle.datetime.specs.Rules.{date_time}
use Rattle.moments.specs.declared.Apart.{Apart}
use Rattle.moments.specs.declared.Faulty.{Faulty}
use Rattle.moments.specs.declared.Faulty.TheVariants.{First, Second}
use Rattle.moments.specs.declared.Fault.{Fault}
use Rattle.moments.specs.declared.Fault.TheVariants.{Text}
use Rattle.moments.specs.Moments.{moment_of, Between}

-- what the whole reader tells of a text
abbrev pub wholly : Choices → List ℕ → Told DateTime
wholly c s = ended (length s) ((date_time c).reads s 0)

-- the refusal of a text, by the paper's number
pub record Refuses (n : ℕ) (which : Fault → Faulty) (r : Result Apart Faulty) : Type 0 where
  pub why : Refusal
  pub number : number_of why ≡ n
  pub is : r ≡ Err (which (Text why))

-- "Refusals: 1 or 3 for the first text, then for the second; then, for the first stamp before the second, 8 [..], then 9"
abbrev pub OfTexts : Option DateTime → ℕ → Option DateTime → ℕ → Result Apart Faulty → Type 0
OfTexts none m y n r = Refuses m First r
OfTexts (some x) m none n r = Refuses n Second r
OfTexts (some x) m (some y) n r = Between (moment_of x) (moment_of y) r

-- "The caller names one edition and one reading for both"
abbrev pub Tells : Choices → List ℕ → List ℕ → Result Apart Faulty → Type 0
Tells c s t r = OfTexts (wholly c s).value (wholly c s).number (wholly c t).value (wholly c t).number r
