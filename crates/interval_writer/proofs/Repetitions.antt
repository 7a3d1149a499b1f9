-- How often an interval repeats is read back from its spelling: `R/`, `R` and a number and `/`, or nothing, where no `R` stands behind.
use Prim.Native.Nat.{ℕ}
use mathlib.Core.List.{List}
use mathlib.Core.Bool.{true}
use mathlib.Core.Option.{Option, some, none}
use mathlib.Core.Path.{◌≡◌, refl}
use native.Mathlib.Omega.{arith}
use borrow.Author.Tests.{leb-true}
use Rattle.types.specs.declared.Repetitions.{Repetitions}
use Rattle.types.specs.declared.Repetitions.TheVariants.{Once, Unlimited, Times}
use Rattle.parser.specs.Reading.{lit}
use Rattle.parser.specs.Digits.{number, at_most}
use Rattle.interval.specs.Rules.{repeat_limit, repeat_run, times_of, or_once, repeated, repetitions}
use Rattle.writing.specs.Spelling.{repetitions_spelling}
use Rattle.writing.proofs.Texts.{ReadAs, Refuses, lit_reads, seq_reads, seq_refuses, map_reads, opt_reads, opt_lacks}
use Rattle.writing.proofs.Digits.{run_refuses, decimal_within}
use Rattle.writing.proofs.Yields.{Yields, OrLeftOut, seq_yields, map_yields, opt_yields, run_as_yields, anything}
use Rattle.interval_writer.specs.Ranges.{repetitions_given}

pub repetitions_read : (r : Repetitions) {x : List ℕ} → repetitions_given r ≡ true → Refuses (lit 82) x → ReadAs repetitions (repetitions_spelling r) x r
unfolding repetitions repeated repeat_run repetitions_spelling repetitions_given
repetitions_read Once e h = map_reads or_once (opt_lacks (seq_refuses _ h))
repetitions_read Unlimited e h = map_reads or_once (opt_reads (seq_reads _ (lit_reads 82 _) (seq_reads _ (opt_lacks (run_refuses _ _ _ refl)) (map_reads _ (lit_reads 47 _)))))
repetitions_read (Times n) e h =
    let few = leb-true n repeat_limit e in
    map_reads or_once (opt_reads (seq_reads _ (lit_reads 82 _) (seq_reads _ (opt_reads (decimal_within repeat_limit 2 n _ few (omega arith) refl)) (map_reads _ (lit_reads 47 _)))))

-- ---- what is read

abbrev Given : Repetitions → Type 0
Given r = repetitions_given r ≡ true

run_yields : Yields (λ n. Given (Times n)) repeat_run
unfolding repeat_run repetitions_given
run_yields = run_as_yields number (at_most repeat_limit) 2 (λ l h. h)

times_given : (o : Option ℕ) → OrLeftOut (λ n. Given (Times n)) o → Given (times_of o)
unfolding repetitions_given
times_given none f = refl
times_given (some n) f = f

once_given : (o : Option Repetitions) → OrLeftOut Given o → Given (or_once o)
unfolding repetitions_given
once_given none f = refl
once_given (some r) f = f

pub repetitions_yield : Yields Given repetitions
unfolding repetitions repeated
repetitions_yield =
    map_yields or_once once_given
    (opt_yields
    (seq_yields _ (anything (lit 82)) (λ _ _. seq_yields _ (opt_yields run_yields) (λ n f. map_yields {F = Given} _ (λ _ _. times_given n f) (anything (lit 47))))))
