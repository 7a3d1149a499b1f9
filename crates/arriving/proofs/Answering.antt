-- What is read of the kept bytes: they are the state's text, and a record ends among them.
use Prim.Native.Nat.{ℕ, ◌≤◌, min}
use mathlib.Core.List.{List}
use mathlib.Core.Bool.{Bool, true, false}
use mathlib.Core.Path.{◌≡◌, refl, sym, ap, ◌∙◌}
use native.Mathlib.Omega.{arith}
use lib.ListN.{length, take, length-take}
use lib.Seq.{take_all}
use lib.Dec.{ltb}
use borrow.Author.Tests.{ltb-true, ltb-false}
use Rattle.parser.specs.Reading.{Found, no, got, stop}
use Rattle.parser.specs.Answer.{Told, recorded, begun}
use Rattle.parser.specs.declared.answer.Counted.{Counted}
use Rattle.parser.proofs.Verdict.{recorded_or_refused}
use Rattle.kinds.specs.declared.answer.Kind.{Kind}
use Rattle.kinds.specs.declared.answer.Record.{Record}
use Rattle.kinds.specs.Kinds.{rule_of}
use Rattle.kinds.proofs.Laws.{bounded}
use Rattle.arriving.specs.declared.State.{State}
use Rattle.arriving.specs.Keeping.{text_of}

-- as many bytes as are kept, and no more than there is room for
pub held_text : (st : State) (n : ℕ) → length st.kept ≡ 200 → n ≡ min st.len 200 → take n st.kept ≡ text_of st
held_text st n all e = go (ltb st.len 200) refl
  where
    go : (t : Bool) → ltb st.len 200 ≡ t → take n st.kept ≡ text_of st
    go true h = let same : n ≡ st.len = omega (arith, ltb-true st.len 200 h) in rw same
    go false h = let full = ltb-false st.len 200 h in take_all n st.kept (omega arith) ∙ sym (take_all st.len st.kept (omega arith))

-- a record that is read ends within the input
within : (k : Kind) (s : List ℕ) (a : Record) (n : ℕ) → recorded a n ≡ begun ((rule_of k).reads s 0) → n ≤ length s
within k s a n e = go ((rule_of k).reads s 0) refl e
  where
    go : (x : Found Record) → (rule_of k).reads s 0 ≡ x → recorded a n ≡ begun x → n ≤ length s
    go (got b m) ex e = omega (arith, bounded k s 0 (omega arith) b m ex, ap (λ (t : Told Record). t.count) e)
    go no ex e = absurd (recorded_or_refused e)
    go (stop r) ex e = absurd (recorded_or_refused e)

-- so a record of the kept bytes has no more bytes than there is room for
pub few : (st : State) (n : ℕ) (r : Counted Record) → length st.kept ≡ 200 → recorded r.value r.count ≡ begun ((rule_of st.kind).reads (take n st.kept) 0) → r.count ≤ 200
few st n r all e = omega (arith, all, length-take n st.kept, within st.kind (take n st.kept) r.value r.count e)
