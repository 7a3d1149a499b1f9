-- What is said of a line is not long, and what is said of a line's first bytes is said of the line.
use Prim.Native.Nat.{ℕ, ◌+◌, ◌*◌, ◌≤◌}
use mathlib.Core.List.{List, [], ◌∷◌, ◌++◌}
use mathlib.Core.Bool.{Bool, true, false}
use mathlib.Core.Path.{◌≡◌, refl}
use native.Mathlib.Omega.{arith}
use lib.Dec.{eqb}
use lib.ListN.{length, take, length-append}
use Rattle.types.specs.declared.Verdict.{Verdict}
use Rattle.types.specs.declared.Verdict.TheVariants.{Settled, Open}
use Rattle.lines.specs.Lines.{pick, after, onto, split_by}
use Rattle.parser.specs.Answer.{Told, begun, ended}
use Rattle.kinds.specs.declared.answer.Kind.{Kind}
use Rattle.kinds.specs.declared.answer.Record.{Record}
use Rattle.std.specs.declared.option.Option.{Option}
use Rattle.std.specs.declared.option.Option.TheVariants.{None, Some}
use Rattle.kinds.specs.Kinds.{rule_of}
use Rattle.words.specs.Words.{letters_of, word_text}
use Rattle.words.specs.Records.{verdict_word}
use Rattle.reply.specs.Line.{record_or_dash, head_of, question_of, text_in}
use Rattle.reply.proofs.Asked.{head_size, names_short, said_clip}
use Rattle.text.proofs.Decimals.{digits_short}
use Rattle.reply.proofs.Short.{text_short, record_few}
use Rattle.cuts.specs.Cuts.{pieces, begun_text, end_text, SaysOf, SaysTo, Says, SaysLine}
use Rattle.lines.proofs.Pinned.{onto_length}

-- each byte could be a `|`
parts_few : (s : List ℕ) → length (split_by 124 s).finished ≤ length s
unfolding split_by
parts_few [] = omega arith
parts_few (b ∷ s) = step (eqb b 124) (parts_few s)
  where
    step : (t : Bool) → length (split_by 124 s).finished ≤ length s → length (pick t (after [] (split_by 124 s)) (onto (b ∷ []) (split_by 124 s))).finished ≤ length (b ∷ s)
    step true h = omega arith
    step false h = omega (arith, onto_length b (split_by 124 s).finished (split_by 124 s).rest)

pieces_few : (s : List ℕ) → length (pieces s) ≤ length s + 1
pieces_few s = omega (arith, length-append (split_by 124 s).finished ((split_by 124 s).rest ∷ []), parts_few s)

verdict_short : (v : Verdict) → length (word_text (verdict_word v)) ≤ 8
unfolding letters_of
verdict_short Settled = omega arith
verdict_short Open = omega arith

begun_short : (t : Told Record) (v : Verdict) → length (begun_text t v) ≤ 52
begun_short t v = simp length-append (omega (arith, digits_short 20 t.number, digits_short 20 t.count, verdict_short v))

end_short : (whole last : Told Record) → length (end_text whole last) ≤ 700
end_short whole last =
    let words = record_or_dash true last.value in
    simp length-append (omega (arith, digits_short 20 whole.number, digits_short 20 whole.count, text_short words, record_few true last.value))

said_short : (k : Kind) (ps : List (List ℕ)) (all t : List ℕ) → SaysOf k all ps t → length t ≤ 52 * length ps + 700
said_short k [] all t e = rw e (end_short (ended (length all) ((rule_of k).reads all 0)) (begun ((rule_of k).reads all 0)))
said_short k (p ∷ ps) all t a =
    let one = begun_short a.told a.verdict in
    let others = said_short k ps (all ++ p) a.next a.behind in
    rw (a.says, length-append (begun_text a.told a.verdict) a.next) (omega (arith, one, others))

says_short : (l t : List ℕ) → Says l t → length t ≤ 16000
unfolding letters_of
says_short l t a = go (question_of l) refl a
  where
    go : (q : Option Kind) → question_of l ≡ q → SaysTo q (text_in l) t → length t ≤ 16000
    go (Some k) e a = omega (arith, said_short k (pieces (text_in l)) [] t a, pieces_few (text_in l), names_short l k e)
    go None e a = rw a (omega arith)

pub line_short : (l t : List ℕ) → SaysLine l t → length t ≤ 16384
line_short l t a = rw (a.ends, length-append a.said (10 ∷ [])) (omega (arith, says_short l a.said a.says))

-- what is said of the first 205 bytes of a line, or more of them, is said of the line
pub says_clip : (limit : ℕ) (l t : List ℕ) → 205 ≤ limit → SaysLine (take limit l) t → SaysLine l t
says_clip limit l t h a = record { said = a.said; says = said_clip head_of (λ m. (head_size m).1) (λ q s. SaysTo q s a.said) (λ s u e. e) limit l h a.says; ends = a.ends }
