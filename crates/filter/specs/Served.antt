-- What was handed to the write.
use Rattle.std.specs.Prelude.{ℕ, List, ◌++◌, ◌≡◌, length, take}
use Rattle.std.specs.declared.result.Result.{Result}
use Rattle.std.specs.declared.result.Result.TheVariants.{Ok, Err}
use Rattle.std.specs.declared.process.ExitCode.{ExitCode}
use Rattle.std.specs.Process.{exit_status}
use Rattle.stream.specs.declared.Program.{Program}
use Rattle.stream.specs.Stream.{After}
use Rattle.filter.specs.declared.Buffers.{Buffers}

-- from all bytes so far to these and the block: the text is the responses to the lines that the block ends, one behind the other
pub record Handed (p : Program) (limit : ℕ) (block old new : List ℕ) : Type 0 where
  pub text : List ℕ
  pub goes : (bytes put : List ℕ) → After p limit bytes put old → After p limit (bytes ++ block) (put ++ text) new

-- all of them were handed to writes that took them, or it is told that a write failed
abbrev pub Serves : Program → Buffers → List ℕ → Buffers → Result Unit ExitCode → Type 0
Serves p b block b' (Ok _) = Handed p (length b.kept) block (take b.held b.kept) (take b'.held b'.kept)
Serves p b block b' (Err status) = exit_status status ≡ 1
