-- What a line asks, by its head and its spaces: its texts are those that the search finds, or it asks nothing.
use Prim.Native.Nat.{ℕ, ◌+◌}
use mathlib.Core.List.{List, ◌∷◌, ◌++◌}
use mathlib.Core.Path.{◌≡◌, sym, ap, ◌∙◌}
use lib.ListN.{drop}
use Rattle.types.specs.declared.Choices.{Choices}
use Rattle.std.specs.declared.option.Option.TheVariants.{None, Some}
use Rattle.lines.specs.Lines.{place_of, between}
use Rattle.distances.specs.Distances.{heading, IsText, Asks, AsksNothing}
use Rattle.distances.specs.Found.{Headed, Heads}
use Rattle.distances.proofs.Parts.{parted_once, never_free, parted, unparted}
use Rattle.distances.proofs.Heads.{headed, head_once}

pub headless : {l : List ℕ} → (Headed l → ⊥) → AsksNothing l
headless h c s t a = h (rw a.form (headed c (s ++ 32 ∷ t)))

module _ {c : Choices} {from : ℕ} {l : List ℕ} (heads : Heads c from l) where
  -- the two texts stand behind the head
  behind : (c' : Choices) (s t : List ℕ) → Asks c' s t l → drop from l ≡ s ++ 32 ∷ t
  behind c' s t a = (head_once c c' (drop from l) (s ++ 32 ∷ t) (sym heads.begins ∙ a.form)).1

  pub no_space : place_of 32 l from ≡ None → AsksNothing l
  no_space e c' s t a = never_free 32 s t (rw (behind c' s t a) at (unparted 32 l from e))

  module _ {space : ℕ} (e : place_of 32 l from ≡ Some space) where
    texts : (c' : Choices) (s t : List ℕ) → Asks c' s t l → (between from space l ≡ s) × (drop (space + 1) l ≡ t)
    texts c' s t a =
        let p = parted 32 l from space e in
        parted_once 32 (between from space l) s (drop (space + 1) l) t p.free a.first.free (sym p.parts ∙ behind c' s t a)

    pub no_first : (IsText (between from space l) → ⊥) → AsksNothing l
    no_first h c' s t a = h (rw (texts c' s t a).0 a.first)

    pub no_second : (IsText (drop (space + 1) l) → ⊥) → AsksNothing l
    no_second h c' s t a = h (rw (texts c' s t a).1 a.second)

    pub finds : IsText (between from space l) → IsText (drop (space + 1) l) → Asks c (between from space l) (drop (space + 1) l) l
    finds first second =
        let p = parted 32 l from space e in
        record { form = heads.begins ∙ ap (λ (x : List ℕ). heading c.edition c.reading ++ 32 ∷ x) p.parts; first = first; second = second }
