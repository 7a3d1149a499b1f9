-- No two texts are the response to one line of a sample.
use Prim.Native.Nat.{ℕ}
use mathlib.Core.List.{List}
use mathlib.Core.Bool.{false}
use mathlib.Core.Logic.{inl, inr}
use mathlib.Core.Path.{◌≡◌, sym, ◌∙◌}
use Rattle.std.specs.declared.option.Option.{Option}
use Rattle.std.specs.declared.option.Option.TheVariants.{None, Some}
use Rattle.reply.specs.Line.{question_of}
use Rattle.reply.proofs.Once.{answers_once}
use Rattle.samples.specs.Samples.{question_in, theirs, Tells, ComparedAt, tab_of, ComparesLine}

tells_once : (ours theirs t u : List ℕ) → Tells ours theirs t → Tells ours theirs u → t ≡ u
tells_once ours theirs t u (inl a) (inl b) = a.1 ∙ sym b.1
tells_once ours theirs t u (inl a) (inr b) = absurd (b.0 a.0)
tells_once ours theirs t u (inr a) (inl b) = absurd (a.0 b.0)
tells_once ours theirs t u (inr a) (inr b) = a.1 ∙ sym b.1

compared_once : (e : Option ℕ) (l t u : List ℕ) → ComparedAt e l t → ComparedAt e l u → t ≡ u
compared_once (Some tab) l t u a b =
    let same = answers_once false (question_of (question_in tab l)) _ a.ours b.ours a.told b.told in
    tells_once b.ours (theirs tab l) t u (rw same at a.tells) b.tells
compared_once None l t u a b = a ∙ sym b

pub line_once : (l t u : List ℕ) → ComparesLine l t → ComparesLine l u → t ≡ u
line_once l t u a b = a.ends ∙ rw (compared_once (tab_of l) l a.answer b.answer a.compares b.compares) (sym b.ends)
