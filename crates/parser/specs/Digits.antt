-- Digits: fields of so many, runs of any number, and the fraction.
use Rattle.std.specs.Prelude.{ℕ, zero, suc, ◌+◌, ◌*◌, ◌-◌, List, [], ◌∷◌, ◌++◌, Bool, true, false, not, length, get_or, take, drop, replicate, ltb, leb}
use Rattle.types.specs.Sums.{largest}
use Rattle.types.specs.declared.Fraction.{Fraction}
use Rattle.parser.specs.Reading.{Found, no, got, stop, Reader, and, pick, within}

-- "A digit is a byte 48 to 57."
abbrev pub is_digit : ℕ → Bool
is_digit b = within 48 57 b

abbrev pub digit : List ℕ → ℕ → Bool
digit s at = and (ltb at (length s)) (is_digit (get_or s at 0))

-- "An N-digit field takes exactly N digits and is then range-checked": n more digits after the number v, the whole from lo to hi
unfoldable pub digits_from : ℕ → ℕ → ℕ → ℕ → List ℕ → ℕ → Found ℕ
digits_from lo hi zero v s at = pick (within lo hi v) (got v at) no
digits_from lo hi (suc n) v s at = pick (digit s at) (digits_from lo hi n (v * 10 + (get_or s at 0 - 48)) s (at + 1)) no

-- the least and the greatest number that n more digits make of v
unfoldable pub lowest : ℕ → ℕ → ℕ
lowest zero v = v
lowest (suc n) v = lowest n (v * 10)

unfoldable pub highest : ℕ → ℕ → ℕ
highest zero v = v
highest (suc n) v = highest n (v * 10 + 9)

-- some n more digits after v make a number from lo to hi
unfoldable pub reach : ℕ → ℕ → ℕ → ℕ → Bool
reach lo hi n v = and (leb lo (highest n v)) (leb (lowest n v) hi)

unfoldable pub digits_more : ℕ → ℕ → ℕ → ℕ → List ℕ → ℕ → Bool
digits_more lo hi zero v s at = false
digits_more lo hi (suc n) v s at =
    pick (ltb at (length s)) (pick (digit s at) (digits_more lo hi n (v * 10 + (get_or s at 0 - 48)) s (at + 1)) false) (reach lo hi (suc n) v)

-- a field of n digits, from lo to hi
unfoldable pub field : ℕ → ℕ → ℕ → Reader ℕ
field n lo hi = record { reads = digits_from lo hi n 0; more = digits_more lo hi n 0 }

-- the digits at the front of a list, as many as there are
unfoldable pub digits : List ℕ → List ℕ
digits [] = []
digits (b ∷ s) = pick (is_digit b) (b ∷ digits s) []

-- the number that digits write, after the number v
unfoldable pub number_from : ℕ → List ℕ → ℕ
number_from v [] = v
number_from v (b ∷ s) = number_from (v * 10 + (b - 48)) s

abbrev pub number : List ℕ → ℕ
number = number_from 0

abbrev pub run_at : List ℕ → ℕ → List ℕ
run_at s at = digits (drop at s)

-- what stands for a run: nothing where it has no digit
abbrev pub of_run : {A : Type 0} → List ℕ → A → A → A
of_run [] none some = none
of_run (b ∷ d) none some = some

-- a run reaches the end of the input
abbrev pub at_the_end : List ℕ → ℕ → Bool
at_the_end s at = not (ltb (at + length (run_at s at)) (length s))

-- which numbers a run may have: any, or those up to a greatest one
abbrev pub any : ℕ → Bool
any n = true

abbrev pub at_most : ℕ → ℕ → Bool
at_most most n = leb n most

-- a digit run, one digit or more, with what its digits are read as; a number that it may not have ends all reading, with refusal r
unfoldable pub run_as : {A : Type 0} → (List ℕ → A) → (ℕ → Bool) → ℕ → Reader A
run_as f may r = record {
  reads = λ s at.
      of_run (run_at s at) no (pick (may (number (run_at s at))) (got (f (run_at s at)) (at + length (run_at s at))) (stop r));
  more = λ s at. and (at_the_end s at) (may (number (run_at s at)));
}

-- request W9, in the place of document 01's 4,294,967,295: "Digit runs in a duration now reach 18,446,744,073,709,551,615, and refusal 2
-- starts above that"
abbrev pub limit : ℕ
limit = largest

abbrev pub run : Reader ℕ
run = run_as number (at_most limit) 2

-- "the first nine digits, padded with zeros on the right; further digits are read and dropped"
abbrev pub nanoseconds : List ℕ → ℕ
nanoseconds d = number (take 9 (d ++ replicate 9 48))

-- request W7: "the number of fraction digits written, 0 to 9, with more than nine stored as 9"
abbrev pub up_to_nine : ℕ → ℕ
up_to_nine n = pick (ltb 9 n) 9 n

abbrev pub fraction_of : List ℕ → Fraction
fraction_of d = record { nanosecond = nanoseconds d; digits = up_to_nine (length d) }

-- "one or more digits", as a fraction: whatever number they write, so that the 1 is never given
abbrev pub fraction : Reader Fraction
fraction = run_as fraction_of any 1
