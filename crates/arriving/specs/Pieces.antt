-- Steps from a start: the state that they lead to, and everything accepted so far.
use Rattle.std.specs.Prelude.{ℕ, ◌+◌, List, [], ◌∷◌, ◌++◌, ◌≡◌, length, leb}
use Rattle.parser.specs.Reading.{pick}
use Rattle.parser.specs.declared.answer.Read.{Read}
use Rattle.kinds.specs.declared.answer.Kind.{Kind}
use Rattle.kinds.specs.declared.answer.Record.{Record}
use Rattle.kinds.specs.Kinds.{Answer, Reads, Parses}
use Rattle.arriving.specs.declared.State.{State}
use Rattle.arriving.specs.Keeping.{stepped, Answers, Ends}

-- the state after some pieces, each given to the state that the one before it led to
unfoldable pub steps : State → List (List ℕ) → State
steps st [] = st
steps st (p ∷ ps) = steps (stepped st p).state ps

-- "6, exactly when the accepted bytes would pass 4,294,967,295 in all": a piece is accepted whole, or not at all
abbrev pub accept : List ℕ → List ℕ → List ℕ
accept s p = pick (leb (length s + length p) 4294967295) (s ++ p) s

-- behind what was accepted before
unfoldable pub accepts : List ℕ → List (List ℕ) → List ℕ
accepts s [] = s
accepts s (p ∷ ps) = accepts (accept s p) ps

abbrev pub accepted_of : List (List ℕ) → List ℕ
accepted_of ps = accepts [] ps

-- What is promised of a state that steps from a start lead to, over the bytes accepted so far: "the answer and verdict are those of the
-- beginning reader on everything accepted so far, however it was cut, and an end call gives the whole reader's", and when a step is refused.
pub record Faithful (k : Kind) (s : List ℕ) (st : State) : Type 0 where
  pub answers : (r : Read Record) → Answers st r → Reads k s r
  pub ends : (a : Answer) → Ends st a → Parses k s a
  pub number : (p : List ℕ) → (stepped st p).number ≡ pick (leb (length s + length p) 4294967295) 0 6

-- the pieces, one behind the other
unfoldable pub join_all : List (List ℕ) → List ℕ
join_all [] = []
join_all (p ∷ ps) = p ++ join_all ps
