-- The counts that are held against each other: of all bytes, and the greatest of their beginnings.
use Rattle.std.specs.Prelude.{ℕ, zero, suc, min, max, List, [], length, take}
use Rattle.parser.specs.Answer.{begun}
use Rattle.kinds.specs.declared.answer.Kind.{Kind}
use Rattle.std.specs.declared.option.Option.{Option}
use Rattle.std.specs.declared.option.Option.TheVariants.{None, Some}
use Rattle.types.specs.Editions.{document01}
use Rattle.kinds.specs.Kinds.{rule_of, letter_of}
use Rattle.arriving.specs.Pieces.{accept}

-- what the beginning reader counts
abbrev pub count_of : Kind → List ℕ → ℕ
count_of k s = (begun ((rule_of k).reads s 0)).count

-- of everything accepted: all the bytes, or none where they are too many
abbrev pub count_accepted : Kind → List ℕ → ℕ
count_accepted k s = count_of k (accept [] s)

-- the greatest count of the beginnings of 1, 2, .. n bytes
unfoldable pub greatest : Kind → List ℕ → ℕ → ℕ
greatest k s zero = 0
greatest k s (suc n) = max (greatest k s n) (count_of k (take (suc n) s))

-- of those that are accepted byte by byte
abbrev pub greatest_count : Kind → List ℕ → ℕ
greatest_count k s = greatest k s (min (length s) 4294967295)

-- of the kind that a letter names, and 0 where it names none
abbrev pub named : (Kind → List ℕ → ℕ) → Option Kind → List ℕ → ℕ
named f (Some k) s = f k s
named f None s = 0

abbrev pub lettered : (Kind → List ℕ → ℕ) → ℕ → List ℕ → ℕ
lettered f letter s = named f (letter_of document01 letter) s
