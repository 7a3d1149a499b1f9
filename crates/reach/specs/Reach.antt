-- How large a difference of two texts gets.
use Rattle.std.specs.Prelude.{ℕ, ◌≤◌, List, [], ◌∷◌, pos, negsuc, Ok}
use Rattle.std.specs.Int.Signed.{mag}
use Rattle.types.specs.declared.Choices.{Choices}
use Rattle.moments.specs.declared.Apart.{Apart}
use Rattle.gaps.specs.Gaps.{Tells}

-- "No wrapping: the range of the result is stated and shown to fit": from -631,107,763,081 to 631,107,763,080 seconds, since `mag` is k both of k
-- and of -(k + 1)
abbrev pub farthest : ℕ
farthest = 631107763080

abbrev pub WithinReach : Type 0
WithinReach = (c : Choices) (s t : List ℕ) (d : Apart) → Tells c s t (Ok d) → mag d.seconds ≤ farthest

-- Both ends are told of two texts. `-9999-W01-1T00:00:00+23:59`: 1 January of that year, a Monday
unfoldable pub earliest : List ℕ
earliest = 45 ∷ 57 ∷ 57 ∷ 57 ∷ 57 ∷ 45 ∷ 87 ∷ 48 ∷ 49 ∷ 45 ∷ 49 ∷ 84 ∷ 48 ∷ 48 ∷ 58 ∷ 48 ∷ 48 ∷ 58 ∷ 48 ∷ 48 ∷ 43 ∷ 50 ∷ 51 ∷ 58 ∷ 53 ∷ 57 ∷ []

-- `9999-W52-7T23:59:60.999999999-23:59`: 2 January of the year 10000
unfoldable pub latest : List ℕ
latest = 57 ∷ 57 ∷ 57 ∷ 57 ∷ 45 ∷ 87 ∷ 53 ∷ 50 ∷ 45 ∷ 55 ∷ 84 ∷ 50 ∷ 51 ∷ 58 ∷ 53 ∷ 57 ∷ 58 ∷ 54 ∷ 48 ∷ 46 ∷ 57 ∷ 57 ∷ 57 ∷ 57 ∷ 57 ∷ 57 ∷ 57 ∷ 57 ∷ 57 ∷ 45 ∷ 50 ∷ 51 ∷ 58 ∷ 53 ∷ 57 ∷ []

-- `negsuc k` is -(k + 1)
pub record Reached (c : Choices) : Type 0 where
  pub most : Tells c earliest latest (Ok (record { seconds = pos farthest; nanoseconds = 999999999 }))
  pub least : Tells c latest earliest (Ok (record { seconds = negsuc farthest; nanoseconds = 1 }))
