-- No two texts are said of one line.
use Prim.Native.Nat.{ℕ}
use mathlib.Core.List.{List, [], ◌∷◌, ◌++◌}
use mathlib.Core.Path.{◌≡◌, sym, ◌∙◌}
use Rattle.parser.proofs.Verdict.{begins_once}
use Rattle.kinds.specs.declared.answer.Kind.{Kind}
use Rattle.std.specs.declared.option.Option.{Option}
use Rattle.std.specs.declared.option.Option.TheVariants.{None, Some}
use Rattle.kinds.specs.Kinds.{rule_of, bound}
use Rattle.reply.specs.Line.{question_of}
use Rattle.cuts.specs.Cuts.{pieces, SaysOf, SaysTo, SaysLine}

said_once : (k : Kind) (ps : List (List ℕ)) (all t u : List ℕ) → SaysOf k all ps t → SaysOf k all ps u → t ≡ u
said_once k [] all t u a b = a ∙ sym b
said_once k (p ∷ ps) all t u a b =
    let x = begins_once (bound k) (rule_of k) (all ++ p) _ _ _ _ a.begins b.begins in
    a.says ∙ rw (x.0, x.1, said_once k ps (all ++ p) a.next b.next a.behind b.behind) (sym b.says)

says_once : (q : Option Kind) (s t u : List ℕ) → SaysTo q s t → SaysTo q s u → t ≡ u
says_once (Some k) s t u a b = said_once k (pieces s) [] t u a b
says_once None s t u a b = a ∙ sym b

pub line_once : (l t u : List ℕ) → SaysLine l t → SaysLine l u → t ≡ u
line_once l t u a b = a.ends ∙ rw (says_once (question_of l) _ a.said b.said a.says b.says) (sym b.ends)
