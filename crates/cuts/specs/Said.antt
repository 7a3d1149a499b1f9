-- What each function here says of any state.
use Rattle.std.specs.Prelude.{ℕ, List, ◌≡◌}
use Rattle.parser.specs.Told.{told}
use Rattle.parser.specs.declared.answer.Read.{Read}
use Rattle.kinds.specs.declared.answer.Record.{Record}
use Rattle.kinds.specs.Kinds.{Answer}
use Rattle.arriving.specs.declared.State.{State}
use Rattle.arriving.specs.Keeping.{Answers, Ends}
use Rattle.cuts.specs.Cuts.{begun_text, end_text}

-- what is said of a state after a piece
pub record SaysAnswer (st : State) (t : List ℕ) : Type 0 where
  pub read : Read Record
  pub answers : Answers st read
  pub says : t ≡ begun_text (told read.answer) read.verdict

-- and at the end
pub record SaysEnd (st : State) (t : List ℕ) : Type 0 where
  pub whole : Answer
  pub ends : Ends st whole
  pub last : Read Record
  pub answers : Answers st last
  pub says : t ≡ end_text (told whole) (told last.answer)
