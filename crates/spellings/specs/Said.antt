-- What `spell` prints for a line.
use Rattle.std.specs.Prelude.{ℕ, List, [], ◌∷◌, ◌++◌, length}
use Rattle.std.proofs.Math.Option.{Option, some, none}
use Rattle.parser.specs.Answer.{Told, ended}
use Rattle.kinds.specs.declared.answer.Record.{Record}
use Rattle.kinds.specs.declared.answer.Kind.{Kind}
use Rattle.std.specs.declared.option.Option as std_option
use Rattle.std.specs.declared.option.Option.TheVariants.{None, Some}
use Rattle.kinds.specs.Kinds.{rule_of}
use Rattle.text.specs.Text.{decimal}
use Rattle.words.specs.declared.word.Name.TheVariants as name
use Rattle.words.specs.Words.{letters_of}
use Rattle.reply.specs.Line.{question_of, text_in}
use Rattle.writers.specs.Spellings.{spelling}

-- `refused` and a space
abbrev pub refused_word : List ℕ
refused_word = 114 ∷ 101 ∷ 102 ∷ 117 ∷ 115 ∷ 101 ∷ 100 ∷ 32 ∷ []

-- "The one spelling of the record [..], or `refused N` (1, 2, 3)."
abbrev pub said_of : Option Record → ℕ → List ℕ
said_of (some r) n = spelling r
said_of none n = refused_word ++ decimal n

abbrev pub said : Told Record → List ℕ
said t = said_of t.value t.number

-- "the record that the whole reader gives"; "a line of any other form prints `unknown`"
abbrev pub spelled_as : std_option.Option Kind → List ℕ → List ℕ
spelled_as (Some k) s = said (ended (length s) ((rule_of k).reads s 0))
spelled_as None s = letters_of name.Unknown

abbrev pub spelled : List ℕ → List ℕ
spelled l = spelled_as (question_of l) (text_in l)

-- with the byte 10 that ends its line
abbrev pub spelled_line : List ℕ → List ℕ
spelled_line l = spelled l ++ 10 ∷ []
