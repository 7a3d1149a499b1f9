-- What a whole reader gives was read, so that it has a spelling; and no response is long.
use Prim.Native.Nat.{ℕ, ◌≤◌}
use mathlib.Core.List.{List, [], ◌∷◌, ◌++◌}
use mathlib.Core.Bool.{Bool, true, false}
use mathlib.Core.Path.{◌≡◌, refl}
use native.Mathlib.Omega.{arith}
use lib.Dec.{ltb}
use lib.ListN.{length, take, length-append}
use Rattle.parser.specs.Reading.{Found, no, got, stop, pick}
use Rattle.parser.specs.Answer.{recorded, refused, ended}
use Rattle.parser.proofs.Verdict.{ended_got}
use Rattle.kinds.specs.declared.answer.Kind.{Kind}
use Rattle.kinds.specs.declared.answer.Record.{Record}
use Rattle.std.specs.declared.option.Option.{Option}
use Rattle.std.specs.declared.option.Option.TheVariants.{None, Some}
use Rattle.kinds.specs.Kinds.{rule_of, choices_in}
use Rattle.text.specs.Text.{decimal}
use Rattle.words.specs.Words.{letters_of}
use Rattle.reply.specs.Line.{head_of, question_of, text_in}
use Rattle.reply.proofs.Asked.{head_size, said_clip}
use Rattle.text.proofs.Decimals.{digits_short}
use Rattle.writing.specs.Writing.{Readable}
use Rattle.writers.specs.Spellings.{kind_of}
use Rattle.writers.proofs.Laws.{kind_read, spelling_short}
use Rattle.spellings.specs.Said.{refused_word, said, spelled_as, spelled_line}

pub whole_readable : (k : Kind) (s : List ℕ) (r : Record) (n : ℕ) → ended (length s) ((rule_of k).reads s 0) ≡ recorded r n → Readable (rule_of (kind_of (choices_in k) r)) r
whole_readable k s r n e =
    let found = ended_got (length s) ((rule_of k).reads s 0) r n e in
    rw (kind_read k s r n found) (record { bytes = s; count = n; reads = found })

-- a spelling has at most 198 bytes, a refusal fewer
refused_short : (r : ℕ) → length (refused_word ++ decimal r) ≤ 198
refused_short r = rw (length-append refused_word (decimal r)) (omega (arith, digits_short 20 r))

said_short : (k : Kind) (s : List ℕ) → length (said (ended (length s) ((rule_of k).reads s 0))) ≤ 198
said_short k s = go ((rule_of k).reads s 0) refl
  where
    whole : (r : Record) (n : ℕ) (t : Bool) → (rule_of k).reads s 0 ≡ got r n → length (said (pick t (refused 3 n) (recorded r n))) ≤ 198
    whole r n true e = refused_short 3
    whole r n false e = spelling_short (choices_in k) r (rw (kind_read k s r n e) (record { bytes = s; count = n; reads = e }))

    go : (f : Found Record) → (rule_of k).reads s 0 ≡ f → length (said (ended (length s) f)) ≤ 198
    go no e = refused_short 1
    go (stop r) e = refused_short r
    go (got r n) e = whole r n (ltb n (length s)) e

pub line_short : (l : List ℕ) → length (spelled_line l) ≤ 512
unfolding letters_of
line_short l = go (question_of l)
  where
    go : (q : Option Kind) → length (spelled_as q (text_in l) ++ 10 ∷ []) ≤ 512
    go (Some k) = rw (length-append (said (ended (length (text_in l)) ((rule_of k).reads (text_in l) 0))) (10 ∷ [])) (omega (arith, said_short k (text_in l)))
    go None = omega arith

-- what is said of the first 205 bytes of a line, or more of them, is said of the line
pub spelled_clip : (limit : ℕ) (l : List ℕ) → 205 ≤ limit → spelled_line (take limit l) ≡ spelled_line l
spelled_clip limit l h = said_clip head_of (λ m. (head_size m).1) (λ q s. spelled_line (take limit l) ≡ spelled_as q s ++ 10 ∷ []) (λ s u e. e) limit l h refl
