-- No two texts are the responses of a program to the same lines, and no two outputs what a step puts for the same bytes.
use Prim.Native.Nat.{ℕ, ◌≤◌}
use mathlib.Core.Bool.{true, false}
use mathlib.Core.List.{List, [], ◌∷◌, ◌++◌}
use mathlib.Core.Path.{◌≡◌, sym, ap, ap₂, ◌∙◌}
use lib.ListN.{length, take, drop}
use Rattle.reply.proofs.Once.{line_once}
use Rattle.samples.proofs.Once.{line_once as compared_once}
use Rattle.cuts.proofs.Once.{line_once as said_once}
use Rattle.faults.proofs.Laws.{line_once as why_once}
use Rattle.distances.proofs.Once.{line_once as apart_once}
use Rattle.lines.specs.Lines.{split, lines, between}
use Rattle.text.specs.Text.{Output, output, Puts}
use Rattle.stream.specs.declared.Reached.{Reached}
use Rattle.stream.specs.declared.Program.{Program}
use Rattle.stream.specs.declared.Program.TheVariants.{Answers, Replay, Spell, Pieces, Why, WhyShow, Apart}
use Rattle.stream.specs.Stream.{Responds, Responses, After, Steps, Finishes}

pub responds_once : (p : Program) (l t u : List ℕ) → Responds p l t → Responds p l u → t ≡ u
responds_once Answers l t u a b = line_once l t u a b
responds_once Replay l t u a b = compared_once l t u a b
responds_once Spell l t u a b = a ∙ sym b
responds_once Pieces l t u a b = said_once l t u a b
responds_once Why l t u a b = why_once false l t u a b
responds_once WhyShow l t u a b = why_once true l t u a b
responds_once Apart l t u a b = apart_once l t u a b

pub responses_once : (p : Program) (ls : List (List ℕ)) (t u : List ℕ) → Responses p ls t → Responses p ls u → t ≡ u
responses_once p [] t u a b = a ∙ sym b
responses_once p (l ∷ ls) t u a b =
    a.text ∙ ap₂ (λ (x y : List ℕ). x ++ y) (responds_once p l a.first b.first a.responds b.responds) (responses_once p ls a.next b.next a.behind b.behind) ∙ sym b.text

-- So for bytes so far that agree with what is held, what `step` and `finish` put is fixed, and so is what is held then: by the bytes that are
-- used, which `step` tells.

after_same : (a t u : List ℕ) → a ++ t ≡ a ++ u → t ≡ u
after_same [] t u e = e
after_same (x ∷ a) t u e = after_same a t u (ap (drop 1) e)

put_same : {t u old new new' : List ℕ} {n n' : ℕ} → t ≡ u → Puts t old 0 new n → Puts u old 0 new' n' → (new ≡ new') × (n ≡ n')
put_same {t} {u} {old} {new} {new'} {n} {n'} e a b =
    let same : output new n ≡ output new' n' = a.put ∙ rw e (sym b.put) in
    (ap Output.bytes same, ap Output.next same)

module _ (p : Program) {held : ℕ} {kept out : List ℕ} (room : 1024 ≤ length kept) (bytes put : List ℕ) (after : After p (length kept) bytes put (take held kept)) where
  pub step_once : {from : ℕ} {block kept₁ out₁ kept₂ out₂ : List ℕ} {r q : Reached} → Steps p held block from kept out kept₁ out₁ r → Steps p held block from kept out kept₂ out₂ q
      → r.used ≡ q.used → (out₁ ≡ out₂) × (r.at ≡ q.at) × (take r.held kept₁ ≡ take q.held kept₂)
  step_once {from} {block} {kept₁} {out₁} {kept₂} {out₂} {r} {q} a b e =
      let seen = (split (bytes ++ between from r.used block)).finished in
      let x = a.goes.goes room bytes put after in
      let y = rw (← e) at (b.goes.goes room bytes put after) in
      let text = after_same put a.text b.text (responses_once p seen (put ++ a.text) (put ++ b.text) x.responses y.responses) in
      let outs = put_same text a.puts b.puts in
      (outs.0, outs.1, x.holds ∙ sym y.holds)

  pub finish_once : {out₁ out₂ : List ℕ} {n m : ℕ} → Finishes p held kept out out₁ n → Finishes p held kept out out₂ m → (out₁ ≡ out₂) × (n ≡ m)
  finish_once a b =
      let all = responses_once p (lines bytes) (put ++ a.text) (put ++ b.text) (a.responses room bytes put after) (b.responses room bytes put after) in
      put_same (after_same put a.text b.text all) a.puts b.puts
