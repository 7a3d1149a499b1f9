-- What the search for the two texts of a line tells.
use Rattle.std.specs.Prelude.{ℕ, ◌≤◌, Bool, true, false, List, ◌∷◌, ◌++◌, ◌≡◌, length, drop, get_or, ◌-◌}
use Rattle.types.specs.declared.Choices.{Choices}
use Rattle.std.specs.declared.option.Option.{Option}
use Rattle.std.specs.declared.option.Option.TheVariants.{None, Some}
use Rattle.reply.specs.Line.{head_of}
use Rattle.distances.specs.declared.Asked.{Asked}
use Rattle.distances.specs.Distances.{heading, Asks, AsksNothing}

-- a claim is true, or it is not
abbrev pub Decides : Type 0 → Bool → Type 0
Decides P true = P
Decides P false = P → ⊥

-- the letter `s` stands first, and a space last in the head that `head_of` finds
pub record Headed (l : List ℕ) : Type 0 where
  pub long : (head_of l).from ≤ length l
  pub letter : get_or l 0 0 ≡ 115
  pub space : get_or l ((head_of l).from - 1) 0 ≡ 32

-- the line begins with the head of c and a space, and its texts stand from a place on
pub record Heads (c : Choices) (from : ℕ) (l : List ℕ) : Type 0 where
  pub begins : l ≡ heading c.edition c.reading ++ 32 ∷ drop from l
  pub within : from ≤ length l

abbrev pub Finds : List ℕ → Option Asked → Type 0
Finds l (Some asked) = Asks asked.choices asked.first.now asked.second.now l
Finds l None = AsksNothing l
