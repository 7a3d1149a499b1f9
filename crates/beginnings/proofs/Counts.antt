-- What the functions stand on: the greatest count of one beginning more, and a byte that is accepted.
use Prim.Native.Nat.{ℕ, ◌+◌, ◌-◌, ◌<◌, max}
use mathlib.Core.List.{List}
use mathlib.Core.Path.{◌≡◌, refl, sym, ap, ◌∙◌}
use native.Mathlib.Numerals.{add-one}
use native.Mathlib.Omega.{arith}
use lib.ListN.{length, take, drop, length-drop}
use lib.Seq.{length-take-le, take-add}
use borrow.Author.Tests.{le-leb}
use Rattle.parser.specs.Told.{told}
use Rattle.parser.specs.declared.answer.Read.{Read}
use Rattle.kinds.specs.declared.answer.Kind.{Kind}
use Rattle.kinds.specs.declared.answer.Record.{Record}
use Rattle.arriving.specs.declared.State.{State}
use Rattle.arriving.specs.Keeping.{stepped, Answers}
use Rattle.arriving.specs.Pieces.{accept}
use Rattle.arriving.proofs.Stands.{Stands}
use Rattle.arriving.proofs.Laws.{step_stands, step_kind, answers_reads}
use Rattle.beginnings.specs.Beginnings.{count_of, greatest}

pub greatest_more : (k : Kind) (s : List ℕ) (n : ℕ) → greatest k s (n + 1) ≡ max (greatest k s n) (count_of k (take (n + 1) s))
unfolding greatest
greatest_more k s n = rw (add-one n) refl

-- ---- a state that stands for some bytes of a kind

pub record Holds (k : Kind) (s : List ℕ) (st : State) : Type 0 where
  pub stands : Stands st s
  pub kind : st.kind ≡ k

pub counted : (k : Kind) (s : List ℕ) (st : State) → Holds k s st → (r : Read Record) → Answers st r → (told r.answer).count ≡ count_of k s
counted k s st h r a = ap (λ t. t.count) (rw h.kind at (answers_reads st s h.stands r a)).answer

pub holds_step : (k : Kind) (s p : List ℕ) (st : State) → Holds k s st → Holds k (accept s p) (stepped st p).state
holds_step k s p st h = record { stands = step_stands st s p h.stands; kind = step_kind st p ∙ h.kind }

accept_byte : (s : List ℕ) (i : ℕ) → i < length s → i < 4294967295 → accept (take i s) (take (i + 1 - i) (drop i s)) ≡ take (i + 1) s
accept_byte s i lt most =
    let one : i + 1 - i ≡ 1 = omega arith in
    let before = length-take-le i s (omega arith) in
    let byte = length-take-le 1 (drop i s) (omega (arith, length-drop i s)) in
    rw (one, le-leb (length (take i s) + length (take 1 (drop i s))) 4294967295 (omega (arith, before, byte))) (sym (take-add i 1 s))

pub holds_byte : (k : Kind) (s : List ℕ) (i : ℕ) (st : State) → i < length s → i < 4294967295 → Holds k (take i s) st → Holds k (take (i + 1) s) (stepped st (take (i + 1 - i) (drop i s))).state
holds_byte k s i st lt most h = rw (accept_byte s i lt most) at (holds_step k (take i s) (take (i + 1 - i) (drop i s)) st h)
