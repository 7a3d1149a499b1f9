-- What an output is given: bytes one behind the other, from a place on, as far as there is room.
use Rattle.std.specs.Prelude.{ℕ, zero, suc, ◌+◌, ◌/◌, ◌%◌, List, [], ◌∷◌, ◌++◌, ◌≡◌, ltb, length, set}
use Rattle.parser.specs.Reading.{pick}

-- the bytes of an output, and the place of the next
pub record Output : Type 0 where
  pub bytes : List ℕ
  pub next : ℕ

abbrev pub output : List ℕ → ℕ → Output
output l n = record { bytes = l; next = n }

-- a byte that has no room is left out
unfoldable pub puts_one : ℕ → Output → Output
puts_one b o = pick (ltb o.next (length o.bytes)) (output (set o.bytes o.next b) (o.next + 1)) o

unfoldable pub puts : List ℕ → Output → Output
puts [] o = o
puts (b ∷ t) o = puts t (puts_one b o)

-- the text t is put from the place `at` on, and next is the place behind it
pub record Puts (t old : List ℕ) (at : ℕ) (new : List ℕ) (next : ℕ) : Type 0 where
  pub put : output new next ≡ puts t (output old at)

-- the decimal digits of a number that has at most k
unfoldable pub decimal_of : ℕ → ℕ → List ℕ
decimal_of zero n = []
decimal_of (suc k) n = pick (ltb n 10) ((48 + n) ∷ []) (decimal_of k (n / 10) ++ ((48 + n % 10) ∷ []))

-- "All plain decimal": a number of 64 bits has at most 20 digits
abbrev pub decimal : ℕ → List ℕ
decimal n = decimal_of 20 n
