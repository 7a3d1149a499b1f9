-- What never stops the reading, and a run that does not where it is open; and what finds nothing where it is open.
use Prim.Native.Nat.{ℕ, ◌+◌}
use mathlib.Core.List.{List, [], ◌∷◌}
use mathlib.Core.Bool.{Bool, true}
use mathlib.Core.Path.{◌≡◌, refl, sym, ◌∙◌}
use lib.ListN.{length}
use Rattle.parser.specs.Reading.{Found, no, got, stop, Reader, must, pick}
use Rattle.parser.specs.Digits.{number, run_at, of_run, at_the_end, run_as}
use Rattle.parser.specs.Fields.{preceded_by}
use Rattle.parser.proofs.Fields.{true≢false, and_second}
use Rattle.parser.proofs.Places.{no≢stop, stop≢got}
use Rattle.parser.proofs.Stops.{StopsBy}
use Rattle.parser.proofs.Hopeful.{Definite}
use Rattle.parser.proofs.General.{Eager, preceded_same}

abbrev pub Unstopped : {A : Type 0} → Reader A → Type 0
Unstopped p = StopsBy (λ _. ⊥) p

-- a run that is open has a number that it may have
pub run_unstopped : {A : Type 0} (f : List ℕ → A) (may : ℕ → Bool) (r : ℕ) (s : List ℕ) (at q : ℕ) → (run_as f may r).more s at ≡ true → (run_as f may r).reads s at ≡ stop q → ⊥
unfolding run_as
run_unstopped f may r s at q h e = go (run_at s at) (and_second (at_the_end s at) h) e
  where
    go : (d : List ℕ) → may (number d) ≡ true → of_run d no (pick (may (number d)) (got (f d) (at + length d)) (stop r)) ≡ stop q → ⊥
    go [] small e = no≢stop e
    go (b ∷ d) small e = stop≢got (sym (rw small at e))

-- ---- open only where nothing is found

pub record Awaits {A : Type 0} (p : Reader A) : Type 0 where
  pub none : (s : List ℕ) (at : ℕ) → p.more s at ≡ true → p.reads s at ≡ no

pub definite_awaits : {A : Type 0} {p : Reader A} → Definite p → Unstopped p → Awaits p
definite_awaits {A} {p} dp up = record { none = λ s at. go s at (p.reads s at) refl }
  where
    go : (s : List ℕ) (at : ℕ) (f : Found A) → p.reads s at ≡ f → p.more s at ≡ true → f ≡ no
    go s at no ef h = refl
    go s at (stop r) ef h = absurd (up.by s at r ef)
    go s at (got a n) ef h = absurd (true≢false (sym h ∙ dp s at a n ef))

pub must_awaits : {A : Type 0} (f : A → Bool) (r : ℕ) {p : Reader A} → Awaits p → Awaits (must f r p)
unfolding must
must_awaits f r hp = record { none = λ s at h. rw (hp.none s at h) }

pub preceded_awaits : {A : Type 0} (c : ℕ) {p : Reader A} → Eager p → Awaits p → Awaits (preceded_by c p)
preceded_awaits c {p} ep hp = record { none = λ s at h. let e = preceded_same c p ep s at _ refl in e.reads ∙ hp.none s _ (sym e.more ∙ h) }
