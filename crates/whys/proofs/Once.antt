-- No two outcomes meet the promise: a text has one reason.
use Prim.Native.Nat.{ℕ}
use mathlib.Core.List.{List}
use mathlib.Core.Path.{◌≡◌, sym, ◌∙◌}
use Rattle.types.specs.Editions.{document01}
use Rattle.kinds.specs.declared.answer.Kind.{Kind}
use Rattle.std.specs.declared.option.Option.{Option}
use Rattle.std.specs.declared.option.Option.TheVariants.{None, Some}
use Rattle.kinds.specs.Kinds.{letter_of, among_five}
use Rattle.breaks.proofs.Once.{tells_once}
use Rattle.whys.specs.Promise.{WhyTellsTo, WhyTells}

why_to_once : (q : Option Kind) (s : List ℕ) (before a b m n : ℕ) → WhyTellsTo q s before a m → WhyTellsTo q s before b n → (a ≡ b) × (m ≡ n)
why_to_once (Some k) s before a b m n i j =
    let same = tells_once k s i.reason j.reason i.tells j.tells in
    (i.place ∙ rw same (sym j.place), i.number ∙ rw same (sym j.number))
why_to_once None s before a b m n i j = (i.1 ∙ sym j.1, i.0 ∙ sym j.0)

pub why_once : (letter : ℕ) (s : List ℕ) (before a b m n : ℕ) → WhyTells letter s before a m → WhyTells letter s before b n → (a ≡ b) × (m ≡ n)
why_once letter = why_to_once (among_five (letter_of document01 letter))
