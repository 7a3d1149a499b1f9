-- The hope of digit runs: a zero begins a run, or is one digit more, and a letter behind it ends it.
use Prim.Native.Nat.{ℕ, suc, ◌+◌, ◌*◌, ◌<◌, ◌≤◌}
use mathlib.Core.List.{List, [], ◌∷◌, ◌++◌}
use mathlib.Core.Bool.{Bool, true, false}
use mathlib.Core.Path.{◌≡◌, refl, ap, ◌∙◌}
use mathlib.Core.Logic.{◌⊎◌, inl, inr}
use native.Mathlib.Omega.{arith}
use native.Mathlib.Nat.{add-zero}
use lib.ListN.{length, drop, length-append, length-drop}
use lib.Seq.{drop-append-le}
use lib.Dec.{ltb}
use borrow.Author.Tests.{ltb-false, leb-true, le-ltb, le-leb, not-true}
use Rattle.parser.specs.Reading.{no, got, stop, Reader, seq, pick}
use Rattle.parser.specs.Digits.{is_digit, digits, number, number_from, run_at, of_run, at_the_end, any, at_most, run_as, limit, run}
use Rattle.parser.proofs.Fields.{and_first, and_second}
use Rattle.parser.proofs.Runs.{run_end, digits_short, number_append}
use Rattle.parser.proofs.Stable.{Growing, most_growing}
use Rattle.parser.proofs.Places.{run_foreign}
use Rattle.parser.proofs.Hopeful.{Ends, AnyByte, Anything, Hopeful, Starts, Keeps, foreign_keeps, ends_after, ends_then_starts, ends_weaken}
use Rattle.parser.proofs.Leaves.{DigitByte}
use Rattle.parser.proofs.General.{Eager}

run_reaches : (s : List ℕ) (at : ℕ) → at ≤ length s → at_the_end s at ≡ true → at + length (run_at s at) ≡ length s
run_reaches s at le h = omega (arith, digits_short (drop at s), length-drop at s, ltb-false (at + length (run_at s at)) (length s) (not-true (ltb (at + length (run_at s at)) (length s)) h))

-- one zero more, behind a run that reaches the end
digits_all : (l x : List ℕ) → length (digits l) ≡ length l → digits (l ++ x) ≡ digits l ++ digits x
unfolding digits
digits_all [] x h = refl
digits_all (b ∷ l) x h = go (is_digit b) h (digits_all l x)
  where
    go : (t : Bool) → length (pick t (b ∷ digits l) []) ≡ suc (length l) → (length (digits l) ≡ length l → digits (l ++ x) ≡ digits l ++ digits x) → pick t (b ∷ digits (l ++ x)) [] ≡ pick t (b ∷ digits l) [] ++ digits x
    go true h ih = ap (λ (d : List ℕ). b ∷ d) (ih (omega arith))
    go false h ih = absurd (omega arith)

zero_more : (s : List ℕ) (at : ℕ) → at ≤ length s → at_the_end s at ≡ true → run_at (s ++ 48 ∷ []) at ≡ run_at s at ++ 48 ∷ []
unfolding digits
zero_more s at le h = rw (drop-append-le at s (48 ∷ []) le) (digits_all (drop at s) (48 ∷ []) (omega (arith, run_reaches s at le h, length-drop at s)))

-- what stands for a run with a digit
pub of_run_lem : {A : Type 0} (d : List ℕ) (a b : A) → 0 < length d → of_run d a b ≡ b
of_run_lem [] a b h = absurd (omega arith)
of_run_lem (c ∷ d) a b h = refl

-- ---- a run that may have a number may have it with a zero more

abbrev pub Padded : (ℕ → Bool) → Type 0
Padded may = (n : ℕ) → may n ≡ true → may (n * 10) ≡ true

pub any_padded : Padded any
any_padded n h = refl

pub zero_padded : Padded (at_most 0)
zero_padded n h = le-leb (n * 10) 0 (omega (arith, leb-true n 0 h))

-- so where it stands open a zero more is read
run_ends : {A : Type 0} (f : List ℕ → A) {may : ℕ → Bool} → Padded may → (r : ℕ) (s : List ℕ) (at : ℕ) → at ≤ length s → at_the_end s at ≡ true → may (number (run_at s at)) ≡ true → Ends 1 DigitByte Anything (run_as f may r) s at
unfolding run_as number_from
run_ends f {may} g r s at le h m =
    let d = run_at s at ++ 48 ∷ [] in
    let size : at + length d ≡ length (s ++ 48 ∷ []) = omega (arith, length-append (run_at s at) (48 ∷ []), run_reaches s at le h, length-append s (48 ∷ [])) in
    let padded : may (number d) ≡ true = rw (number_append (run_at s at) (48 ∷ []) 0, add-zero (number (run_at s at) * 10)) (g (number (run_at s at)) m) in
    record {
      first = 48;
      rest = [];
      value = f d;
      begins = refl;
      few = omega arith;
      fact = tt;
      reads = rw (zero_more s at le h, padded, of_run_lem d no (got (f d) (at + length d)) (omega (arith, length-append (run_at s at) (48 ∷ []))), size);
    }

pub run_hopeful : {A : Type 0} (f : List ℕ → A) {may : ℕ → Bool} → Padded may → (r : ℕ) → Hopeful 1 Anything (run_as f may r)
unfolding run_as
run_hopeful f {may} g r s at le h =
    let m = may (number (run_at s at)) in
    ends_weaken 1 AnyByte Anything (omega arith) (λ c x. tt) (λ a f. f) (run_ends f g r s at le (and_first (at_the_end s at) m h) (and_second (at_the_end s at) h))

end_open : (s : List ℕ) (at : ℕ) → length s ≤ at → at_the_end s at ≡ true
end_open s at h = rw (run_end s at h, le-ltb (at + 0) (length s) (omega arith))

pub run_eager : {A : Type 0} (f : List ℕ → A) {may : ℕ → Bool} → Growing may → (r : ℕ) → Eager (run_as f may r)
unfolding run_as number_from
run_eager f g r s at h = rw (end_open s at h, run_end s at h) g.none

pub run_starts : {A : Type 0} (f : List ℕ → A) {may : ℕ → Bool} → Growing may → (r : ℕ) → Starts 1 DigitByte Anything (run_as f may r)
unfolding run_as number_from
run_starts f g r s =
    let e : run_at (s ++ 48 ∷ []) (length s) ≡ 48 ∷ [] = zero_more s (length s) (omega arith) (end_open s (length s) (omega arith)) ∙ rw (run_end s (length s) (omega arith)) in
    record { first = 48; rest = []; value = f (48 ∷ []); begins = refl; few = omega arith; fact = tt; reads = rw (e, g.none, length-append s (48 ∷ [])) }

-- a run that stands open at the end has no digit yet, or has a value there
pub run_open : {A : Type 0} (f : List ℕ → A) (may : ℕ → Bool) (r : ℕ) (s : List ℕ) (at : ℕ) → at ≤ length s → (run_as f may r).more s at ≡ true → (length s ≡ at) ⊎ ((v : A) × ((run_as f may r).reads s at ≡ got v (length s)))
unfolding run_as
run_open {A} f may r s at le h = go (run_at s at) (run_reaches s at le (and_first (at_the_end s at) (may (number (run_at s at))) h)) (and_second (at_the_end s at) h)
  where
    go : (d : List ℕ) → at + length d ≡ length s → may (number d) ≡ true → (length s ≡ at) ⊎ ((v : A) × (of_run d no (pick (may (number d)) (got (f d) (at + length d)) (stop r)) ≡ got v (length s)))
    go [] e h = inl (omega arith)
    go (b ∷ d) e h = inr (f (b ∷ d), rw (h, e))

-- a run that stands open ends with what follows it, a byte that is no digit first; a zero is wanted where it has no digit yet
module _ {B : Type 0} {k : ℕ} {F : B → Type 0} (X : ℕ → Type 0) (q : ℕ → Reader B) (nd : (c : ℕ) → X c → is_digit c ≡ false) (sq : (v : ℕ) → Starts k X F (q v)) where
  keeps : Keeps X run
  keeps = foreign_keeps X run (run_foreign number (at_most limit) 2 X nd)

  pub run_then_starts : Starts (1 + k) DigitByte F (seq run q)
  run_then_starts s = ends_then_starts 1 k X F run q (omega arith) keeps (λ v _. sq v) (run_starts number (most_growing limit) 2 s)

  pub run_then_ends : (s : List ℕ) (at : ℕ) → at ≤ length s → run.more s at ≡ true → Ends (1 + k) AnyByte F (seq run q) s at
  run_then_ends s at le h = go (run_open number (at_most limit) 2 s at le h)
    where
      go : (length s ≡ at) ⊎ ((v : ℕ) × (run.reads s at ≡ got v (length s))) → Ends (1 + k) AnyByte F (seq run q) s at
      go (inl here) = rw (← here) (ends_weaken (1 + k) AnyByte F (omega arith) (λ c x. tt) (λ b f. f) (run_then_starts s))
      go (inr (v, e)) = ends_weaken (1 + k) AnyByte F (omega arith) (λ c x. tt) (λ b f. f) (ends_after run q s at le keeps v e (sq v))
