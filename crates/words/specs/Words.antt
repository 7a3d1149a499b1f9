-- The words that an answer is made of, and how each is written.
use Rattle.std.specs.Prelude.{ℕ, suc, List, [], ◌∷◌, ◌++◌, ℤ, pos, negsuc}
use Rattle.text.specs.Text.{decimal}
use Rattle.words.specs.declared.word.Name.{Name}
use Rattle.words.specs.declared.word.Name.TheVariants as name
use Rattle.words.specs.declared.word.Word.{Word}
use Rattle.words.specs.declared.word.Word.TheVariants as word

unfoldable pub letters_of : Name → List ℕ
letters_of name.Ymd = 121 ∷ 109 ∷ 100 ∷ []
letters_of name.Week = 119 ∷ 101 ∷ 101 ∷ 107 ∷ []
letters_of name.Ordinal = 111 ∷ 114 ∷ 100 ∷ 105 ∷ 110 ∷ 97 ∷ 108 ∷ []
letters_of name.Time = 116 ∷ 105 ∷ 109 ∷ 101 ∷ []
letters_of name.Offset = 111 ∷ 102 ∷ 102 ∷ 115 ∷ 101 ∷ 116 ∷ []
letters_of name.Duration = 100 ∷ 117 ∷ 114 ∷ 97 ∷ 116 ∷ 105 ∷ 111 ∷ 110 ∷ []
letters_of name.Settled = 115 ∷ 101 ∷ 116 ∷ 116 ∷ 108 ∷ 101 ∷ 100 ∷ []
letters_of name.Open = 111 ∷ 112 ∷ 101 ∷ 110 ∷ []
letters_of name.None = 110 ∷ 111 ∷ 110 ∷ 101 ∷ []
letters_of name.Over = 111 ∷ 118 ∷ 101 ∷ 114 ∷ []
letters_of name.Dash = 45 ∷ []
letters_of name.Unknown = 117 ∷ 110 ∷ 107 ∷ 110 ∷ 111 ∷ 119 ∷ 110 ∷ []
letters_of name.Interval = 105 ∷ 110 ∷ 116 ∷ 101 ∷ 114 ∷ 118 ∷ 97 ∷ 108 ∷ []
letters_of name.Once = 111 ∷ 110 ∷ 99 ∷ 101 ∷ []
letters_of name.Repeat = 82 ∷ []
letters_of name.Stamp = 115 ∷ 116 ∷ 97 ∷ 109 ∷ 112 ∷ []
letters_of name.Slash = 47 ∷ []

-- a word behind its space
abbrev pub spaced : List ℕ → List ℕ
spaced w = 32 ∷ w

-- "one space between words": each word but a line's first stands behind one; "a minus where negative". What is joined to the word before is
-- the rest of it
abbrev pub word_text : Word → List ℕ
word_text (word.Name n) = spaced (letters_of n)
word_text (word.Number n) = spaced (decimal n)
word_text (word.Minus n) = spaced (45 ∷ decimal n)
word_text (word.Joined n) = letters_of n
word_text (word.Digits n) = decimal n
word_text word.Nothing = []

abbrev pub text_of : List Word → List ℕ
text_of [] = []
text_of (w ∷ l) = word_text w ++ text_of l

abbrev pub signed_word : ℤ → Word
signed_word (pos n) = word.Number n
signed_word (negsuc n) = word.Minus (suc n)
