-- No difference of two texts lies outside the range.
use Prim.Native.Nat.{ℕ, suc, ◌+◌, ◌*◌, ◌≤◌, ◌<◌}
use mathlib.Core.Bool.{Bool, true, false}
use mathlib.Core.List.{List}
use mathlib.Core.Option.{Option, some, none}
use mathlib.Core.Path.{◌≡◌, refl, sym, ap, ap₂, subst₂, ◌∙◌}
use native.Mathlib.Omega.{arith}
use lib.Dec.{ltb}
use lib.IntN.{ℤ, pos, negsuc, ◌-ℤ◌}
use lib.ListN.{length}
use lib.Signed.{mag}
use mir.Syntax.{w64}
use mir.Val.{SFits}
use Rattle.std.specs.Prelude.{Ok}
use Rattle.types.specs.declared.Choices.{Choices}
use Rattle.types.specs.declared.DateTime.{DateTime}
use Rattle.parser.specs.Reading.{Found, no, got, stop, pick}
use Rattle.parser.specs.Answer.{recorded, refused, ended}
use Rattle.datetime.specs.Rules.{date_time}
use Rattle.calendar.proofs.Integers.{◌⊖◌, minus, of_pos, across}
use Rattle.moments.specs.Moments.{in_nanoseconds, Exactly, Between}
use Rattle.moments.specs.declared.Apart.{Apart}
use Rattle.moments.proofs.Differences.{placed_both}
use Rattle.moments.proofs.Laws.{nanoseconds_from}
use Rattle.gaps.specs.Gaps.{wholly, Tells}
use Rattle.gaps.proofs.Laws.{both}
use Rattle.datetime_writer.specs.Ranges.{date_time_given}
use Rattle.datetime_writer.proofs.Laws.{date_time_yields}
use Rattle.reach.specs.Reach.{farthest, WithinReach}
use Rattle.reach.proofs.Counted.{of_neg}
use Rattle.reach.proofs.Seconds.{start_second, InReach, moment_counted}

-- what is read from a whole text lies in the ranges
none≢some : {x : DateTime} → ◌≡◌ {A = Option DateTime} none (some x) → ⊥
none≢some e = cc

whole_given : (c : Choices) (s : List ℕ) (x : DateTime) → (wholly c s).value ≡ some x → date_time_given c x ≡ true
whole_given c s x e = go ((date_time c).reads s 0) refl e
  where
    is_read : (t : Bool) (y : DateTime) (n : ℕ) → (pick t (refused 3 n) (recorded y n)).value ≡ some x → y ≡ x
    is_read true y n e = absurd (none≢some e)
    is_read false y n e = cc

    go : (f : Found DateTime) → (date_time c).reads s 0 ≡ f → (ended (length s) f).value ≡ some x → date_time_given c x ≡ true
    go no h e = absurd (none≢some e)
    go (stop r) h e = absurd (none≢some e)
    go (got y n) h e = rw (is_read (ltb n (length s)) y n e) at ((date_time_yields c).fact s 0 y n h)

-- two moments, and nanoseconds in all that are their difference
module _ {a b : ℤ} {m k : ℕ} (x : InReach a m) (y : InReach b k) where
  abbrev from : ℕ
  from = x.seconds.number * 1000000000 + m

  abbrev to : ℕ
  to = y.seconds.number * 1000000000 + k

  abbrev start : ℕ
  start = start_second * 1000000000

  difference : in_nanoseconds b k -ℤ in_nanoseconds a m ≡ (to + start) ⊖ (start + from)
  difference =
      ap₂ (λ (v u : ℤ). in_nanoseconds v k -ℤ in_nanoseconds u m) y.seconds.is x.seconds.is
      ∙ ap₂ ◌-ℤ◌ (nanoseconds_from y.seconds.number start_second k) (nanoseconds_from x.seconds.number start_second m) ∙ minus to start from start

  sums : (d : ℤ) (n p q : ℕ) → d ≡ p ⊖ q → in_nanoseconds d n ≡ in_nanoseconds b k -ℤ in_nanoseconds a m → p * 1000000000 + n + from ≡ to + q * 1000000000
  sums d n p q is e =
      let told = ap (λ (z : ℤ). in_nanoseconds z n) is ∙ nanoseconds_from p q n in
      omega (arith, across (p * 1000000000 + n) (q * 1000000000) (to + start) (start + from) (sym told ∙ e ∙ difference))

  no_further : (d : ℤ) (n : ℕ) → n < 1000000000 → in_nanoseconds d n ≡ in_nanoseconds b k -ℤ in_nanoseconds a m → mag d ≤ farthest
  no_further (pos p) n h e = omega (arith, sums (pos p) n p 0 (of_pos p) e, x.seconds.above, y.seconds.below, y.nanoseconds)
  no_further (negsuc p) n h e = omega (arith, sums (negsuc p) n 0 (suc p) (of_neg p) e, x.seconds.below, y.seconds.above, x.nanoseconds)

pub within_reach : WithinReach
within_reach c s t d h =
    let b = both c s t d h in
    let p = placed_both _ _ d b.between in
    let x = moment_counted c b.first p.first p.first_n (whole_given c s b.first b.first_is) p.first_is in
    let y = moment_counted c b.second p.second p.second_n (whole_given c t b.second b.second_is) p.second_is in
    let exactly : Exactly p.first p.first_n p.second p.second_n d = subst₂ (λ v w. Between v w (Ok d)) p.first_is p.second_is b.between in
    no_further x y d.seconds d.nanoseconds exactly.below p.exact

-- so it fits 64 bits with a sign
pub fits : (c : Choices) (s t : List ℕ) (d : Apart) → Tells c s t (Ok d) → SFits w64 d.seconds
fits c s t d h = record { sfits = omega (arith, within_reach c s t d h) }
