-- Part by part: what is refused on the way is refused in the end.
use Prim.Native.Nat.{◌+◌, ◌*◌}
use mathlib.Core.Path.{◌≡◌, refl, ap, ◌∙◌}
use native.Mathlib.Omega.{arith}
use Rattle.types.specs.Sums.{seconds_of, or_over, in_seconds}
use Rattle.types.proofs.Laws.{then_plus}
use Rattle.types.proofs.Duration.in_seconds.Goals as goal

pub returns : goal.returns
unfolding in_seconds
returns c =
    let d = c.args.self in
    let years = then_plus (d.years * 31536000) (record { is = refl }) c.plus-sum.ensures in
    let months = then_plus (d.months * 2592000) years c.plus-sum-2.ensures in
    let weeks = then_plus (d.weeks * 604800) months c.plus-sum-3.ensures in
    let days = then_plus (d.days * 86400) weeks c.plus-sum-4.ensures in
    let hours = then_plus (d.hours * 3600) days c.plus-sum-5.ensures in
    let minutes = then_plus (d.minutes * 60) hours c.plus-sum-6.ensures in
    let seconds = then_plus (d.seconds * 1) minutes c.plus.ensures in
    let all : 0 + d.years * 31536000 + d.months * 2592000 + d.weeks * 604800 + d.days * 86400 + d.hours * 3600 + d.minutes * 60 + d.seconds * 1 ≡ seconds_of d = omega arith in
    seconds.is ∙ ap or_over all
