-- Minus zero has been sent away, and within the ranges the constructor refuses nothing.
use Prim.Native.Nat.{ℕ, ◌≤◌}
use mathlib.Core.Bool.{Bool}
use mathlib.Core.Path.{◌≡◌, sym, ap, ◌∙◌}
use borrow.Author.Tests.{not-false, le-leb}
use Rattle.types.specs.declared.Offset.{Offset}
use Rattle.std.specs.declared.option.Option.TheVariants.{Some}
use Rattle.std.proofs.lemmas.Option.{none-some}
use Rattle.types.specs.Sums.{made, signed_offset}
use Rattle.parser.specs.Reading.{got}
use Rattle.offset.specs.Rules.{allowed}
use Rattle.offset.proofs.signed_offset.Goals as goal

made_within : (minus : Bool) (h m : ℕ) → h ≤ 23 → m ≤ 59 → made minus h m ≡ Some (signed_offset minus h m)
unfolding made
made_within minus h m a b = rw (le-leb h 23 a, le-leb m 59 b)

made_value : {a b : Offset} → Some a ≡ Some b → a ≡ b
made_value e = cc

pub returns-in-Some-clause-found : goal.returns-in-Some-clause-found
returns-in-Some-clause-found c =
    let a = c.args in
    let z = not-false (allowed a.minus a.hour a.minute) (sym c.minus_zero.ensures ∙ c.if-minus_zero.false) in
    let m = made_within a.minus a.hour a.minute c.requires.0 c.requires.1 in
    let same = made_value (sym m ∙ (sym c.new.ensures ∙ c.in-Some.is)) in
    rw z (ap (λ (o : Offset). got o a.next) (sym same))

pub returns-in-None-clause-found : goal.returns-in-None-clause-found
returns-in-None-clause-found c =
    let a = c.args in
    let m = made_within a.minus a.hour a.minute c.requires.0 c.requires.1 in
    absurd (none-some _ (sym (sym m ∙ (sym c.new.ensures ∙ c.in-None.is))))
