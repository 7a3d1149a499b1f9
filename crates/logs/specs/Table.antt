-- The seven lines that `week` prints.
use Rattle.std.specs.Prelude.{ℕ, List, [], ◌∷◌, ◌++◌, get_or}
use Rattle.types.specs.Sums.{or_over}
use Rattle.std.specs.declared.option.Option.{Option}
use Rattle.words.specs.Words.{text_of}
use Rattle.words.specs.Records.{seconds_word}
use Rattle.words.specs.declared.word.Word.{Word}
use Rattle.words.specs.declared.word.Word.TheVariants.{Number}
use Rattle.counts.specs.Counts.{table_of, bad_of, seconds_in_all}

-- `date`, `time`, `offset`, `stamp`, `duration`, `bad`, `seconds`
abbrev pub date_name : List ℕ
date_name = 100 ∷ 97 ∷ 116 ∷ 101 ∷ []

abbrev pub time_name : List ℕ
time_name = 116 ∷ 105 ∷ 109 ∷ 101 ∷ []

abbrev pub offset_name : List ℕ
offset_name = 111 ∷ 102 ∷ 102 ∷ 115 ∷ 101 ∷ 116 ∷ []

abbrev pub stamp_name : List ℕ
stamp_name = 115 ∷ 116 ∷ 97 ∷ 109 ∷ 112 ∷ []

abbrev pub duration_name : List ℕ
duration_name = 100 ∷ 117 ∷ 114 ∷ 97 ∷ 116 ∷ 105 ∷ 111 ∷ 110 ∷ []

abbrev pub bad_name : List ℕ
bad_name = 98 ∷ 97 ∷ 100 ∷ []

abbrev pub seconds_name : List ℕ
seconds_name = 115 ∷ 101 ∷ 99 ∷ 111 ∷ 110 ∷ 100 ∷ 115 ∷ []

-- a name and some words
abbrev pub line_text : List ℕ → List Word → List ℕ
line_text name ws = name ++ text_of ws ++ (10 ∷ [])

-- a name and its four counts
abbrev pub row_text : List ℕ → List ℕ → List ℕ
row_text name row = line_text name (Number (get_or row 0 0) ∷ Number (get_or row 1 0) ∷ Number (get_or row 2 0) ∷ Number (get_or row 3 0) ∷ [])

-- a row for each kind
unfoldable pub table_text : List (List ℕ) → List ℕ
table_text t =
    row_text date_name (get_or t 0 []) ++ row_text time_name (get_or t 1 []) ++ row_text offset_name (get_or t 2 []) ++ row_text stamp_name (get_or t 3 []) ++ row_text duration_name (get_or t 4 [])

-- the table, the bad lines and the sum
unfoldable pub week_text : List (List ℕ) → ℕ → Option ℕ → List ℕ
week_text t bad sum = table_text t ++ line_text bad_name (Number bad ∷ []) ++ line_text seconds_name (seconds_word sum ∷ [])

-- of some lines: each count is how many of them there are, and the sum is the exact one, or `over` where that is above the limit
abbrev pub log_text : List (List ℕ) → List ℕ
log_text ls = week_text (table_of ls) (bad_of ls) (or_over (seconds_in_all ls))
