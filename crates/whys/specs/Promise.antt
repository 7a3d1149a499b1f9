-- What broke a text, told to a C caller, who names a kind by its letter.
use Rattle.std.specs.Prelude.{ℕ, List, ◌≡◌, length}
use Rattle.types.specs.Editions.{document01}
use Rattle.kinds.specs.declared.answer.Kind.{Kind}
use Rattle.std.specs.declared.option.Option.{Option}
use Rattle.std.specs.declared.option.Option.TheVariants.{None, Some}
use Rattle.kinds.specs.Kinds.{letter_of, among_five}
use Rattle.breaks.specs.declared.Reason.{Reason}
use Rattle.breaks.specs.Breaks.{Tells, handed, numbered}

-- 0 ok, 1 early, 2 bad, and the length of the part handed back
pub record WhyTold (k : Kind) (s : List ℕ) (n r : ℕ) : Type 0 where
  pub reason : Reason
  pub tells : Tells k s reason
  pub number : r ≡ numbered reason
  pub place : n ≡ handed (length s) reason

-- a letter that names no kind, or the intervals': 253, and nothing is written
abbrev pub WhyTellsTo : Option Kind → List ℕ → ℕ → ℕ → ℕ → Type 0
WhyTellsTo (Some k) s before after r = WhyTold k s after r
WhyTellsTo None s before after r = (r ≡ 253) × (after ≡ before)

abbrev pub WhyTells : ℕ → List ℕ → ℕ → ℕ → ℕ → Type 0
WhyTells letter s before after r = WhyTellsTo (among_five (letter_of document01 letter)) s before after r
