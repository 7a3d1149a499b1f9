-- No two texts are said of one line.
use Prim.Native.Nat.{ℕ}
use mathlib.Core.List.{List, [], ◌∷◌, ◌++◌}
use mathlib.Core.Logic.{inl, inr}
use mathlib.Core.Path.{◌≡◌, sym, ap, ◌∙◌}
use Rattle.gaps.specs.Gaps.{Tells}
use Rattle.gaps.proofs.Once.{apart_once}
use Rattle.distances.specs.Distances.{apart_text, Answers, Away, AwayLine}
use Rattle.distances.proofs.Laws.{asks_once}

answers_once : (l t u : List ℕ) → Answers l t → Answers l u → t ≡ u
answers_once l t u a b =
    let same = asks_once l a.choices b.choices a.first b.first a.second b.second a.asks b.asks in
    let told : Tells b.choices b.first b.second a.apart = rw (same.0, same.1.0, same.1.1) at a.tells in
    a.says ∙ ap apart_text (apart_once b.choices b.first b.second a.apart b.apart told b.tells) ∙ sym b.says

away_once : (l t u : List ℕ) → Away l t → Away l u → t ≡ u
away_once l t u (inl a) (inl b) = answers_once l t u a b
away_once l t u (inl a) (inr b) = absurd (b.0 a.choices a.first a.second a.asks)
away_once l t u (inr a) (inl b) = absurd (a.0 b.choices b.first b.second b.asks)
away_once l t u (inr a) (inr b) = a.1 ∙ sym b.1

pub line_once : (l t u : List ℕ) → AwayLine l t → AwayLine l u → t ≡ u
line_once l t u a b = a.ends ∙ ap (λ (x : List ℕ). x ++ 10 ∷ []) (away_once l a.said b.said a.away b.away) ∙ sym b.ends
