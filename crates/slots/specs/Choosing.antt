-- The choices that a number names, for a caller who has numbers alone, and a promise under them.
use Rattle.std.specs.Prelude.{ℕ, List, ◌≡◌, eqb, ℤ}
use Rattle.types.specs.Editions.{document01, edition2004, standard, standard2004}
use Rattle.types.specs.declared.Choices.{Choices}
use Rattle.parser.specs.Reading.{pick}
use Rattle.std.specs.declared.option.Option.{Option}
use Rattle.std.specs.declared.option.Option.TheVariants.{None, Some}

-- 0 is document 01 as it stands, 1 the edition of 2004; 2 and 3 are these in the standard reading; no other number names any
abbrev pub chosen : ℕ → Option Choices
chosen n =
    pick (eqb n 0) (Some document01)
    (pick (eqb n 1) (Some edition2004) (pick (eqb n 2) (Some standard) (pick (eqb n 3) (Some standard2004) None)))

-- no such choice: 254, and nothing is written
abbrev pub Unnamed : List ℤ → List ℤ → ℕ → Type 0
Unnamed before after r = (r ≡ 254) × (after ≡ before)

-- what is promised under the choices that the number names, and what where it names none
pub record Under (n : ℕ) (promised : Choices → Type 0) (refused : Type 0) : Type 0 where
  pub names : (c : Choices) → chosen n ≡ Some c → promised c
  pub unknown : chosen n ≡ None → refused
