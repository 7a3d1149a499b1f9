-- No two texts answer one line: the readers' promises fix all that an answer tells, and what is put fixes the output.
use Prim.Native.Nat.{ℕ}
use mathlib.Core.Bool.{Bool, true}
use mathlib.Core.List.{List}
use mathlib.Core.Path.{◌≡◌, sym, ap, ◌∙◌}
use Rattle.parser.proofs.Verdict.{begins_once}
use Rattle.kinds.specs.declared.answer.Kind.{Kind}
use Rattle.std.specs.declared.option.Option.{Option}
use Rattle.std.specs.declared.option.Option.TheVariants.{None, Some}
use Rattle.kinds.specs.Kinds.{rule_of, bound}
use Rattle.text.specs.Text.{Output, output}
use Rattle.reply.specs.Line.{Answered, question_of, AnswersTo, AnswersLine, Gives}

answered_once : (shown : Bool) (k : Kind) (s t u : List ℕ) → Answered shown k s t → Answered shown k s u → t ≡ u
answered_once shown k s t u a b =
    let x = begins_once (bound k) (rule_of k) s _ _ _ _ a.begins b.begins in
    let whole : a.whole ≡ b.whole = a.ends ∙ sym b.ends in
    a.says ∙ rw (x.0, x.1, whole) (sym b.says)

pub answers_once : (shown : Bool) (q : Option Kind) (s t u : List ℕ) → AnswersTo shown q s t → AnswersTo shown q s u → t ≡ u
answers_once shown (Some k) s t u a b = answered_once shown k s t u a b
answers_once shown None s t u a b = a ∙ sym b

pub line_once : (l t u : List ℕ) → AnswersLine l t → AnswersLine l u → t ≡ u
line_once l t u a b = a.ends ∙ rw (answers_once true (question_of l) _ a.answer b.answer a.answers b.answers) (sym b.ends)

-- What is put is fixed where the text is: the bytes of the output, and the place behind it.
pub gives_once : {A : List ℕ → Type 0} {old new new' : List ℕ} {at next next' : ℕ} → ((t u : List ℕ) → A t → A u → t ≡ u)
    → Gives A old at new next → Gives A old at new' next' → (new ≡ new') × (next ≡ next')
gives_once {A} {old} {new} {new'} {at} {next} {next'} once g h =
    let same : output new next ≡ output new' next' = g.puts.put ∙ rw (once g.text h.text g.answer h.answer) (sym h.puts.put) in
    (ap Output.bytes same, ap Output.next same)
