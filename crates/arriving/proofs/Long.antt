-- A text of any length with its whole count, of which a state keeps four bytes: `P`, so many zeros, and `1Y`.
use Prim.Native.Nat.{ℕ, zero, suc, ◌+◌}
use mathlib.Core.List.{List, [], ◌∷◌}
use mathlib.Core.Bool.{true}
use mathlib.Core.Path.{◌≡◌, refl, ap, ◌∙◌}
use native.Mathlib.Omega.{arith}
use borrow.Author.Tests.{lt-leb}
use Rattle.parser.specs.Reading.{got, lit, seq, opt, verify, map, give}
use Rattle.parser.specs.Answer.{recorded, begun}
use Rattle.parser.specs.Told.{told}
use Rattle.parser.specs.declared.answer.Read.{Read}
use Rattle.parser.specs.Digits.{is_digit, digits, number_from, run_as}
use Rattle.duration.specs.Rules.{part, duration_base_time, duration_time, parts_rule, duration}
use Rattle.kinds.specs.declared.answer.Kind.TheVariants as kind
use Rattle.kinds.specs.declared.answer.Record.{Record}
use Rattle.kinds.specs.declared.answer.Record.TheVariants as record_of
use Rattle.kinds.specs.Kinds.{rule_of}
use Rattle.shortening.proofs.Families.{ZeroCut, zeros, own}
use Rattle.shortening.proofs.Sides.{one_family}
use Rattle.shortening.proofs.EachKind.{shortens}
use Rattle.arriving.specs.Keeping.{started, moved, Answers}
use Rattle.arriving.specs.Pieces.{steps, accepted_of}
use Rattle.arriving.proofs.Moves.{shift}
use Rattle.arriving.proofs.Joined.{simulated}
use Rattle.arriving.proofs.Laws.{faithful}

-- so many zeros and `1Y`
abbrev pub zeros_and_one : ℕ → List ℕ
zeros_and_one zero = 49 ∷ 89 ∷ []
zeros_and_one (suc n) = 48 ∷ zeros_and_one n

abbrev pub one_year : Record
one_year = record_of.Duration (record { years = 1; months = 0; weeks = 0; days = 0; hours = 0; minutes = 0; seconds = 0 })

one_year_lem : (rule_of kind.Duration).reads (80 ∷ 49 ∷ 89 ∷ []) 0 ≡ got one_year 3
unfolding lit seq opt verify map give digits number_from run_as part duration_base_time duration_time parts_rule duration
one_year_lem = refl

-- one zero more stands before a digit, and moves the place behind it
zero_more : (d : ℕ) (y : List ℕ) → is_digit d ≡ true → (rule_of kind.Duration).reads (80 ∷ 48 ∷ d ∷ y) 0 ≡ moved (shift 1) ((rule_of kind.Duration).reads (80 ∷ d ∷ y) 0)
zero_more d y is = let z : ZeroCut = record { before = 80 ∷ []; digit = d; rest = y; starts = refl; is = is } in simulated (own zeros z) (rule_of kind.Duration) 1 ((shortens kind.Duration).simulates zeros z (rw (one_family zeros (80 ∷ [])))) (omega arith) refl refl

pub long_zeros : (n : ℕ) → (rule_of kind.Duration).reads (80 ∷ zeros_and_one n) 0 ≡ got one_year (n + 3)
long_zeros zero = one_year_lem
long_zeros (suc zero) = zero_more 49 (89 ∷ []) refl ∙ ap (moved (shift 1)) one_year_lem
long_zeros (suc (suc n)) = zero_more 48 (zeros_and_one n) refl ∙ ap (moved (shift 1)) (long_zeros (suc n)) ∙ ap (got one_year) (rw (lt-leb (suc n + 3) 1 (omega arith)) (omega arith))

-- so after any pieces that make such a text the answer has its whole count
pub long_counted : (n : ℕ) (ps : List (List ℕ)) → accepted_of ps ≡ 80 ∷ zeros_and_one n → (r : Read Record) → Answers (steps (started kind.Duration) ps) r → told r.answer ≡ recorded one_year (n + 3)
long_counted n ps e r a = ((faithful kind.Duration ps).answers r a).answer ∙ ap begun (ap (λ (s : List ℕ). (rule_of kind.Duration).reads s 0) e ∙ long_zeros n)
