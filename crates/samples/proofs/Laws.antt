-- The bytes that stand in hexadecimal, a pair at a time; the question of a line; and what a buffer of fixed size makes of both.
use Prim.Native.Nat.{ℕ, ◌+◌, ◌*◌, ◌-◌, ◌≤◌, ◌<◌}
use mathlib.Core.List.{List, [], ◌∷◌, ◌++◌, append-nil}
use mathlib.Core.Bool.{false}
use mathlib.Core.Path.{◌≡◌, refl, sym, ap, ◌∙◌}
use native.Mathlib.Omega.{arith}
use lib.ListN.{length, take, drop, get_or, length-drop, length-take}
use lib.Seq.{take-take, take_all, take_at}
use Rattle.lines.specs.Lines.{between}
use Rattle.text.specs.Text.{output, puts, Puts}
use Rattle.text.proofs.Laws.{puts_fits, puts_clips}
use Rattle.reply.specs.Line.{Answers, Gives, head_of, question_of}
use Rattle.reply.proofs.Asked.{answers_clip}
use Rattle.reply.proofs.Short.{answer_short}
use Rattle.samples.specs.Samples.{nibble_of, unhex, question_in, Told, Tells, Compared}

-- what is left to put, after some pairs, makes the same output as all of it from the start
pub record Left (hex old : List ℕ) (at : ℕ) (out : List ℕ) (next : ℕ) (left : List ℕ) : Type 0 where
  pub same : puts (unhex hex) (output old at) ≡ puts (unhex left) (output out next)

pub left_all : (hex old : List ℕ) (at : ℕ) → Left hex old at old at hex
left_all hex old at = record { same = refl }

module _ {hex old out : List ℕ} {at next : ℕ} {left : List ℕ} (l : Left hex old at out next left) where
  pub left_less : (pair rest : List ℕ) {new : List ℕ} {n : ℕ} → left ≡ pair ++ rest → length pair ≡ 2
      → Puts ((nibble_of (get_or pair 0 0) * 16 + nibble_of (get_or pair 1 0)) ∷ []) out next new n → Left hex old at new n rest
  unfolding puts
  left_less (a ∷ b ∷ []) rest e two one = record { same = rw e at l.same ∙ ap (puts (unhex rest)) (sym one.put) }
  left_less [] rest e two one = absurd (omega arith)
  left_less (a ∷ []) rest e two one = absurd (omega arith)
  left_less (a ∷ b ∷ c ∷ pair) rest e two one = absurd (omega arith)

  pub left_none : length left < 2 → Puts (unhex hex) old at out next
  unfolding puts
  left_none h = record { put = sym (rw (few left h) at l.same) }
    where
      few : (s : List ℕ) → length s < 2 → unhex s ≡ []
      few [] k = refl
      few (a ∷ []) k = refl
      few (a ∷ b ∷ s) k = absurd (omega arith)

-- the question: up to a tab that stands too early, or head and text
module _ (tab : ℕ) (l : List ℕ) where
  pub early_question : tab < (head_of l).from → question_in tab l ≡ take tab l
  unfolding question_in
  early_question h =
      let none : tab - (head_of l).from ≡ 0 = omega arith in
      rw (none, append-nil (take (head_of l).from (take tab l))) (take_all (head_of l).from (take tab l) (rw (length-take tab l) (omega arith)))

  pub later_question : (head_of l).from ≤ tab → question_in tab l ≡ take (head_of l).from l ++ unhex (between (head_of l).from tab l)
  unfolding question_in
  later_question h = rw (take-take (head_of l).from tab l h)

-- a question in a buffer of 205 bytes is answered as the question
pub told_in : (l : List ℕ) (tab : ℕ) (ours : List ℕ) {old new : List ℕ} {n : ℕ} → length old ≡ 205 → Puts (question_in tab l) old 0 new n → Answers false (take n new) ours → Told l tab ours
told_in l tab ours {old} {new} {n} size p a =
    let c = puts_clips p (omega arith) in
    let same : take n new ≡ take 205 (question_in tab l) = rw size at c.front in
    answers_clip false 205 (question_in tab l) ours (omega arith) (rw same at a)

-- our answer in a buffer of 800 bytes is all there
ours_in : (l : List ℕ) (tab : ℕ) {old new : List ℕ} {n : ℕ} → length old ≡ 800 → (g : Gives (Told l tab) old 0 new n) → take n new ≡ g.text
ours_in l tab {old} {new} {n} size g =
    let short = answer_short false (question_of (question_in tab l)) _ g.text g.answer in
    let whole = puts_fits g.puts (omega arith) in
    rw whole.1 (take_at g.text _ n (omega (arith, whole.0)))

-- so what is compared with what stands behind the tab is our answer
pub compared_in : (l : List ℕ) (tab : ℕ) {old new out out' : List ℕ} {n at next : ℕ} → length old ≡ 800 → Gives (Told l tab) old 0 new n
    → Gives (Tells (take n new) (between (tab + 1) (length l) l)) out at out' next → Gives (Compared l tab) out at out' next
compared_in l tab {old} {new} {out} {out'} {n} {at} {next} size g h =
    let all : between (tab + 1) (length l) l ≡ drop (tab + 1) l = take_all (length l - (tab + 1)) (drop (tab + 1) l) (rw (length-drop (tab + 1) l) (omega arith)) in
    record { text = h.text; answer = record { ours = g.text; told = g.answer; tells = rw (ours_in l tab size g, all) at h.answer }; puts = h.puts }
