-- What is said of a line is not long, what is said of a line's first bytes is said of the line, and no two texts are said of one line.
use Prim.Native.Nat.{ℕ, ◌+◌, ◌≤◌}
use mathlib.Core.Bool.{Bool, true, false}
use mathlib.Core.List.{List}
use mathlib.Core.Path.{◌≡◌, refl, sym, ◌∙◌}
use native.Mathlib.Omega.{arith}
use lib.ListN.{length, take, length-append, length-replicate}
use Rattle.kinds.specs.declared.answer.Kind.{Kind}
use Rattle.std.specs.declared.option.Option.{Option}
use Rattle.std.specs.declared.option.Option.TheVariants.{None, Some}
use Rattle.kinds.specs.Kinds.{among_five}
use Rattle.words.specs.Words.{letters_of}
use Rattle.reply.specs.Line.{plain_head, plain_question, plain_text}
use Rattle.reply.proofs.Asked.{plain_short, said_clip}
use Rattle.std.proofs.lemmas.List.{length-map}
use Rattle.text.proofs.Decimals.{digits_short}
use Rattle.breaks.specs.declared.Reason.{Reason}
use Rattle.breaks.specs.declared.Reason.TheVariants.{Ok, Early, Bad}
use Rattle.breaks.specs.Breaks.{Tells}
use Rattle.breaks.proofs.Once.{tells_once}
use Rattle.faults.specs.Faults.{reason_text, printed_of, drawn, drawing, Explains, WhyTo, WhyLine}

reason_short : (all : ℕ) (r : Reason) → length (reason_text all r) ≤ 26
reason_short all Ok = omega arith
reason_short all Early = simp length-append (omega (arith, digits_short 20 all))
reason_short all (Bad n) = simp length-append (omega (arith, digits_short 20 n))

drawn_short : (s : List ℕ) (n : ℕ) → n ≤ length s → length (drawn s n) ≤ length s + length s + 3
drawn_short s n h = simp length-append (omega (arith, length-map s printed_of, length-replicate {A = ℕ} n 32))

drawing_short : (shown : Bool) (k : Kind) (s : List ℕ) (r : Reason) → Tells k s r → length (drawing shown s r) ≤ length s + length s + 3
drawing_short false k s r t = omega arith
drawing_short true k s Ok t = omega arith
drawing_short true k s Early t = drawn_short s (length s) (omega arith)
drawing_short true k s (Bad n) t = drawn_short s n (omega (arith, t.1.within))

pub line_short : (shown : Bool) (l t : List ℕ) → WhyLine shown l t → length t ≤ 512
unfolding letters_of
line_short shown l t a = go (plain_question l) refl a
  where
    go : (q : Option Kind) → plain_question l ≡ q → WhyTo shown q (plain_text l) t → length t ≤ 512
    go (Some k) e a =
        let s = plain_text l in
        rw a.says (simp length-append (omega (arith, reason_short (length s) a.reason, drawing_short shown k s a.reason a.tells, plain_short l k e)))
    go None e a = rw a (omega arith)

-- what is said of the first 205 bytes of a line, or more of them, is said of the line
pub line_clip : (shown : Bool) (limit : ℕ) (l t : List ℕ) → 205 ≤ limit → WhyLine shown (take limit l) t → WhyLine shown l t
line_clip shown limit l t = said_clip (λ m. plain_head) (λ m. omega arith) (λ q s. WhyTo shown (among_five q) s t) (λ s u e. e) limit l

explains_once : (shown : Bool) (k : Kind) (s t u : List ℕ) → Explains shown k s t → Explains shown k s u → t ≡ u
explains_once shown k s t u a b = a.says ∙ rw (tells_once k s a.reason b.reason a.tells b.tells) (sym b.says)

says_once : (shown : Bool) (q : Option Kind) (s t u : List ℕ) → WhyTo shown q s t → WhyTo shown q s u → t ≡ u
says_once shown (Some k) s t u a b = explains_once shown k s t u a b
says_once shown None s t u a b = a ∙ sym b

pub line_once : (shown : Bool) (l t u : List ℕ) → WhyLine shown l t → WhyLine shown l u → t ≡ u
line_once shown l t u a b = says_once shown (plain_question l) (plain_text l) t u a b
