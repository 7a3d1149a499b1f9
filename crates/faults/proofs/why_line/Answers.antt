-- What the line asks is what is said.
use Prim.Native.Nat.{◌-◌}
use mathlib.Core.List.{[], ◌∷◌, ◌++◌}
use mathlib.Core.Path.{refl}
use native.Mathlib.Omega.{arith}
use lib.ListN.{length, drop, length-drop}
use lib.Seq.{take_all}
use Rattle.text.proofs.Laws.{then_puts}
use Rattle.words.specs.declared.word.Name.TheVariants.{Unknown}
use Rattle.words.specs.Words.{letters_of}
use Rattle.faults.proofs.why_line.Goals as goal

pub returns-in-Some : goal.returns-in-Some
returns-in-Some c =
    let line = c.args.line.now in
    let text = take_all (length line - 2) (drop 2 line) (simp length-drop (omega arith)) in
    let given = c.explain.ensures in
    record { text = given.text; answer = rw (← c.in-Some.ensures) (rw text at given.answer); puts = given.puts }

pub returns-in-None : goal.returns-in-None
returns-in-None c =
    record { text = letters_of Unknown ++ (10 ∷ []); answer = rw (← c.in-None.ensures) refl; puts = then_puts c.put_name-next.ensures c.put_byte.ensures }
