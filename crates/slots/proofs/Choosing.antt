-- A promise under choices: what makes it, by what a number was found to name, and that two outcomes which meet it agree where they do under each.
use Prim.Native.Nat.{ℕ}
use mathlib.Core.List.{List}
use mathlib.Core.Path.{◌≡◌, refl, sym, ◌∙◌}
use native.Mathlib.Omega.{arith}
use lib.IntN.{ℤ}
use Rattle.types.specs.declared.Choices.{Choices}
use Rattle.std.specs.declared.option.Option.{Option}
use Rattle.std.specs.declared.option.Option.TheVariants.{None, Some}
use Rattle.slots.specs.Choosing.{chosen, Unnamed, Under}

never : {a b : Option Choices} {c : Choices} → a ≡ b → a ≡ Some c → b ≡ None → ⊥
never e f g = let z : ◌≡◌ {A = ℕ} 0 1 = cc in omega arith

module _ {n : ℕ} {P : Choices → Type 0} {Q : Type 0} {o : Option Choices} (e : o ≡ chosen n) where
  pub named : {c : Choices} → o ≡ Some c → P c → Under n P Q
  named {c} f p = record { names = λ d g. let same : c ≡ d = cc in rw same at p; unknown = λ g. absurd (never e f g) }

  pub not_named : o ≡ None → Q → Under n P Q
  not_named f q = record { names = λ _ g. let i : chosen n ≡ o = cc in absurd (never i g f); unknown = λ _. q }

pub under_once : {n : ℕ} {P R : Choices → Type 0} {Q S T : Type 0} → ((c : Choices) → P c → R c → T) → (Q → S → T) → Under n P Q → Under n R S → T
under_once {n} {T = T} f g x y = go (chosen n) refl
  where
    go : (o : Option Choices) → chosen n ≡ o → T
    go (Some c) e = f c (x.names c e) (y.names c e)
    go None e = g (x.unknown e) (y.unknown e)

pub unnamed_once : {before a b : List ℤ} {q r : ℕ} → Unnamed before a q → Unnamed before b r → (a ≡ b) × (q ≡ r)
unnamed_once i j = (i.1 ∙ sym j.1, i.0 ∙ sym j.0)
