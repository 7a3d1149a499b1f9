-- The seven lines have at most 1,024 bytes: no word is longer than 21, with its space.
use Prim.Native.Nat.{ℕ, ◌+◌, ◌*◌, ◌≤◌}
use mathlib.Core.List.{List, [], ◌∷◌, ◌++◌}
use mathlib.Core.Path.{◌≡◌, ◌∙◌}
use native.Mathlib.Omega.{arith}
use lib.ListN.{length, get_or, length-append}
use Rattle.std.specs.declared.option.Option.{Option}
use Rattle.reply.proofs.Short.{text_short}
use Rattle.words.specs.Words.{text_of}
use Rattle.words.specs.Records.{seconds_word}
use Rattle.words.specs.declared.word.Word.{Word}
use Rattle.words.specs.declared.word.Word.TheVariants.{Number}
use Rattle.logs.specs.Table.{date_name, time_name, offset_name, stamp_name, duration_name, bad_name, seconds_name, row_text, line_text, table_text, week_text}

three : (a b c : List ℕ) → length (a ++ b ++ c) ≡ length a + length b + length c
three a b c = rw (length-append (a ++ b) c, length-append a b)

five : (a b c d e : List ℕ) → length (a ++ b ++ c ++ d ++ e) ≡ length a + length b + length c + length d + length e
five a b c d e = three (a ++ b ++ c) d e ∙ rw (three a b c)

line_short : (name : List ℕ) (ws : List Word) → length (line_text name ws) ≤ length name + 22 * length ws + 1
line_short name ws = rw (three name (text_of ws) (10 ∷ [])) (omega (arith, text_short ws))

row_short : (name row : List ℕ) → length (row_text name row) ≤ length name + 89
row_short name row = omega (arith, line_short name (Number (get_or row 0 0) ∷ Number (get_or row 1 0) ∷ Number (get_or row 2 0) ∷ Number (get_or row 3 0) ∷ []))

table_short : (t : List (List ℕ)) → length (table_text t) ≤ 480
unfolding table_text
table_short t =
    omega (
      arith,
      five (row_text date_name (get_or t 0 [])) (row_text time_name (get_or t 1 [])) (row_text offset_name (get_or t 2 [])) (row_text stamp_name (get_or t 3 [])) (row_text duration_name (get_or t 4 [])),
      row_short date_name (get_or t 0 []),
      row_short time_name (get_or t 1 []),
      row_short offset_name (get_or t 2 []),
      row_short stamp_name (get_or t 3 []),
      row_short duration_name (get_or t 4 []),
    )

pub week_short : (t : List (List ℕ)) (bad : ℕ) (sum : Option ℕ) → length (week_text t bad sum) ≤ 1024
unfolding week_text
week_short t bad sum =
    omega (
      arith,
      three (table_text t) (line_text bad_name (Number bad ∷ [])) (line_text seconds_name (seconds_word sum ∷ [])),
      table_short t,
      line_short bad_name (Number bad ∷ []),
      line_short seconds_name (seconds_word sum ∷ []),
    )
