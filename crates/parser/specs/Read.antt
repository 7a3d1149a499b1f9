-- The code's answers as what `Reading` speaks of.
use Rattle.std.specs.Prelude.{ℕ, Bool, true, false, Result}
use Rattle.std.proofs.Math.Option.{Option, some, none}
use Rattle.std.specs.declared.result.Result.TheVariants.{Ok, Err}
use Rattle.types.specs.Numbers.{number_of}
use Rattle.parser.specs.Reading.{Found, no, got, stop}
use Rattle.parser.specs.declared.Miss.{Miss}
use Rattle.parser.specs.declared.Miss.TheVariants as miss
use Rattle.parser.specs.declared.Exact.{Exact}
use Rattle.parser.specs.declared.Got.{Got}

-- nothing was read: a refusal that ends all reading, or no form
abbrev pub missed : {A : Type 0} → Miss → Found A
missed (miss.Stopped why) = stop (number_of why)
missed miss.Wrong = no
missed miss.Cut = no

-- ... and where the input ended, a byte more could matter
abbrev pub cut : Miss → Bool
cut (miss.Stopped why) = false
cut miss.Wrong = false
cut miss.Cut = true

abbrev pub mark_found : Result ℕ Miss → Found Unit
mark_found (Ok n) = got tt n
mark_found (Err m) = missed m

abbrev pub mark_more : Result ℕ Miss → Bool
mark_more (Ok n) = false
mark_more (Err m) = cut m

abbrev pub exact_found : {A : Type 0} → Result (Exact A) Miss → Found A
exact_found (Ok g) = got g.value g.next
exact_found (Err m) = missed m

abbrev pub exact_more : {A : Type 0} → Result (Exact A) Miss → Bool
exact_more (Ok g) = false
exact_more (Err m) = cut m

abbrev pub got_found : {A : Type 0} → Result (Got A) Miss → Found A
got_found (Ok g) = got g.value g.next
got_found (Err m) = missed m

abbrev pub got_more : {A : Type 0} → Result (Got A) Miss → Bool
got_more (Ok g) = g.more
got_more (Err m) = cut m

-- what was read to its end, where that lies further on; where it does not, nothing was, for good or where the end of the input cut it short
abbrev pub further : {A : Type 0} → Bool → Bool → A → ℕ → Result (Got A) Miss
further true more v n = Ok (record { value = v; next = n; more = more })
further false true v n = Err miss.Cut
further false false v n = Err miss.Wrong

-- the place after an optional item
abbrev pub place_after : {A : Type 0} → ℕ → Found A → ℕ
place_after at (got a n) = n
place_after at no = at
place_after at (stop r) = at

-- what an optional item is read as, and what stands for it where it is left out
abbrev pub or_value : {A : Type 0} → A → Option A → A
or_value absent none = absent
or_value absent (some a) = a
