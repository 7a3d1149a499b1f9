-- No two reasons are told of one text, and no two parts of it handed back; so each is said exactly when it is true.
use Prim.Native.Nat.{ℕ, ◌+◌, ◌≤◌, ◌<◌}
use mathlib.Core.List.{List}
use mathlib.Core.Path.{◌≡◌, refl, sym, ap, ◌∙◌}
use native.Mathlib.Nat.{le_antisymm, lt_of_not-le}
use native.Mathlib.Omega.{arith}
use lib.ListN.{length, take}
use Rattle.kinds.specs.declared.answer.Kind.{Kind}
use Rattle.breaks.specs.declared.Reason.{Reason}
use Rattle.breaks.specs.declared.Reason.TheVariants.{Ok, Early, Bad}
use Rattle.breaks.specs.Breaks.{Accepts, Completable, BreaksAt, Tells, handed, Hands}
use Rattle.breaks.proofs.Laws.{accepts_completable, part_completable, before_completable}

module _ (k : Kind) (s : List ℕ) where
  -- it is the first: all that the text begins with before the bad byte can be completed, and nothing that has it
  pub before_bad : (n m : ℕ) → BreaksAt k s n → m ≤ n → Completable k (take m s)
  before_bad n m b h = before_completable k m n s h b.before

  pub behind_bad : (n m : ℕ) → BreaksAt k s n → n < m → Completable k (take m s) → ⊥
  behind_bad n m b h c = b.behind (before_completable k (n + 1) m s (omega arith) c)

  pub bad_broken : (n : ℕ) → BreaksAt k s n → Completable k s → ⊥
  bad_broken n b c = b.behind (part_completable k (n + 1) s c)

  not_before : (m n : ℕ) → BreaksAt k s m → BreaksAt k s n → m ≤ n
  not_before m n a b = let h : m < n + 1 = lt_of_not-le (λ (later : n + 1 ≤ m). behind_bad n m b (omega arith) a.before) in omega arith

  breaks_once : (m n : ℕ) → BreaksAt k s m → BreaksAt k s n → m ≡ n
  breaks_once m n a b = le_antisymm (not_before m n a b) (not_before n m b a)

  pub tells_once : (q r : Reason) → Tells k s q → Tells k s r → q ≡ r
  tells_once Ok Ok a b = refl
  tells_once Ok Early a b = absurd (b.0 a)
  tells_once Ok (Bad n) a b = absurd (b.0 (accepts_completable k s a))
  tells_once Early Ok a b = absurd (a.0 b)
  tells_once Early Early a b = refl
  tells_once Early (Bad n) a b = absurd (b.0 a.1)
  tells_once (Bad n) Ok a b = absurd (a.0 (accepts_completable k s b))
  tells_once (Bad n) Early a b = absurd (a.0 b.1)
  tells_once (Bad m) (Bad n) a b = ap Bad (breaks_once m n a.1 b.1)

  pub hands_once : (p q : List ℕ) → Hands k s p → Hands k s q → p ≡ q
  hands_once p q a b = a.part ∙ ap (λ (r : Reason). take (handed (length s) r) s) (tells_once a.reason b.reason a.tells b.tells) ∙ sym b.part

  -- "exactly when": what is true is what is told
  pub ok_told : (r : Reason) → Tells k s r → Accepts k s → r ≡ Ok
  ok_told r t a = tells_once r Ok t a

  pub early_told : (r : Reason) → Tells k s r → (Accepts k s → ⊥) → Completable k s → r ≡ Early
  early_told r t not c = tells_once r Early t (not, c)

  pub bad_told : (r : Reason) (n : ℕ) → Tells k s r → BreaksAt k s n → r ≡ Bad n
  bad_told r n t b = tells_once r (Bad n) t (bad_broken n b, b)
