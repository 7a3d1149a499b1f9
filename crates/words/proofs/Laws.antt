-- A row of words is put word by word, and rows stand one behind the other.
use Prim.Native.Nat.{ℕ, ◌+◌, ◌<◌}
use mathlib.Core.List.{List, [], ◌∷◌, ◌++◌, append_assoc, append-nil}
use mathlib.Core.Path.{◌≡◌, refl, sym, ◌∙◌}
use native.Mathlib.Numerals.{add-one}
use lib.ListN.{length, take, get_or}
use lib.Seq.{take-suc}
use Rattle.text.specs.Text.{Puts}
use Rattle.text.proofs.Laws.{then_puts}
use Rattle.words.specs.Words.{word_text, text_of}
use Rattle.words.specs.declared.word.Word.{Word}

pub text_append : (a b : List Word) → text_of (a ++ b) ≡ text_of a ++ text_of b
text_append [] b = refl
text_append (w ∷ a) b = rw (text_append a b) (sym (append_assoc (word_text w) (text_of a) (text_of b)))

module _ (words : List Word) (i : ℕ) (d : Word) {old mid new : List ℕ} {at n next : ℕ} where
  pub words_more : i < length words → Puts (text_of (take i words)) old at mid n → Puts (word_text (get_or words i d)) mid n new next → Puts (text_of (take (i + 1) words)) old at new next
  words_more h e f =
      let more : text_of (take (i + 1) words) ≡ text_of (take i words) ++ word_text (get_or words i d) =
      rw (add-one i, take-suc words i d h, text_append (take i words) (get_or words i d ∷ []), append-nil (word_text (get_or words i d))) in
      rw more (then_puts e f)

pub texts_append : (a b x y : List Word) → text_of a ≡ text_of x → text_of b ≡ text_of y → text_of (a ++ b) ≡ text_of (x ++ y)
texts_append a b x y e f = text_append a b ∙ rw (e, f) (sym (text_append x y))
