-- Differences: exchanged they are negated, over three moments they add up, and of one moment there is none.
use Prim.Native.Nat.{ℕ, ◌+◌}
use mathlib.Core.Path.{◌≡◌, refl, sym, ap, ap₂, ◌∙◌}
use native.Mathlib.Omega.{arith}
use lib.IntN.{ℤ, pos, neg_ℤ, ◌+ℤ◌, ◌-ℤ◌, +ℤ_invr}
use Rattle.std.specs.declared.result.Result.{Result}
use Rattle.std.specs.declared.result.Result.TheVariants.{Ok, Err}
use Rattle.calendar.proofs.Integers.{plus, minus, negated, same, parted}
use Rattle.moments.specs.declared.Apart.{Apart}
use Rattle.moments.specs.declared.Faulty.{Faulty}
use Rattle.moments.specs.Moments.{Moment, no_day, no_offset, at, in_nanoseconds, Between}
use Rattle.moments.proofs.Once.{fixed}

-- ---- of integers

opposite : (x y : ℤ) → y -ℤ x ≡ neg_ℤ (x -ℤ y)
opposite x y =
    let p = parted x in
    let q = parted y in
    ap₂ ◌-ℤ◌ q.is p.is ∙ minus q.up q.down p.up p.down
    ∙ same (q.up + p.down) (q.down + p.up) (p.down + q.up) (p.up + q.down) (omega arith)
    ∙ sym (ap neg_ℤ (ap₂ ◌-ℤ◌ p.is q.is ∙ minus p.up p.down q.up q.down) ∙ negated (p.up + q.down) (p.down + q.up)
    ∙ same (p.down + q.up) (p.up + q.down) (p.down + q.up) (p.up + q.down) refl)

chained : (x y z : ℤ) → z -ℤ x ≡ (y -ℤ x) +ℤ (z -ℤ y)
chained x y z =
    let p = parted x in
    let q = parted y in
    let r = parted z in
    ap₂ ◌-ℤ◌ r.is p.is ∙ minus r.up r.down p.up p.down
    ∙ same (r.up + p.down) (r.down + p.up) (q.up + p.down + (r.up + q.down)) (q.down + p.up + (r.down + q.up)) (omega arith)
    ∙ sym (ap₂ ◌+ℤ◌ (ap₂ ◌-ℤ◌ q.is p.is ∙ minus q.up q.down p.up p.down) (ap₂ ◌-ℤ◌ r.is q.is ∙ minus r.up r.down q.up q.down)
    ∙ plus (q.up + p.down) (q.down + p.up) (r.up + q.down) (r.down + q.up))

-- ---- of moments

abbrev pub in_all : Apart → ℤ
in_all d = in_nanoseconds d.seconds d.nanoseconds

-- where a difference is told, both are moments
pub record Placed (x y : Moment) (d : Apart) : Type 0 where
  pub first : ℤ
  pub first_n : ℕ
  pub second : ℤ
  pub second_n : ℕ
  pub first_is : x ≡ at first first_n
  pub second_is : y ≡ at second second_n
  pub exact : in_all d ≡ in_nanoseconds second second_n -ℤ in_nanoseconds first first_n

pub placed_both : (x y : Moment) (d : Apart) → Between x y (Ok d) → Placed x y d
placed_both no_day y d h = cc
placed_both no_offset y d h = cc
placed_both (at a m) no_day d h = cc
placed_both (at a m) no_offset d h = cc
placed_both (at a m) (at b k) d h = record { first = a; first_n = m; second = b; second_n = k; first_is = refl; second_is = refl; exact = h.exact }

-- a difference that is so many nanoseconds in all
pub record Told (z : ℤ) (r : Result Apart Faulty) : Type 0 where
  pub apart : Apart
  pub is : r ≡ Ok apart
  pub in_all_is : in_all apart ≡ z

told : {x y : Moment} (r : Result Apart Faulty) (a : ℤ) (m : ℕ) (b : ℤ) (n : ℕ) → x ≡ at a m → y ≡ at b n → Between x y r → Told (in_nanoseconds b n -ℤ in_nanoseconds a m) r
told (Ok d) a m b n e f h = record { apart = d; is = refl; in_all_is = (rw (e, f) at h).exact }
told (Err g) a m b n e f h = absurd (rw (e, f) at h)

-- "Exchanged stamps give the negated difference"
pub exchanged : (x y : Moment) (d : Apart) (r : Result Apart Faulty) → Between x y (Ok d) → Between y x r → Told (neg_ℤ (in_all d)) r
exchanged x y d r h k =
    let p = placed_both x y d h in
    let t = told r p.second p.second_n p.first p.first_n p.second_is p.first_is k in
    let e = opposite (in_nanoseconds p.second p.second_n) (in_nanoseconds p.first p.first_n) ∙ ap neg_ℤ (sym p.exact) in
    record { apart = t.apart; is = t.is; in_all_is = t.in_all_is ∙ e }

-- "differences over three stamps add up"
pub over_three : (x y z : Moment) (d e : Apart) (r : Result Apart Faulty) → Between x y (Ok d) → Between y z (Ok e) → Between x z r → Told (in_all d +ℤ in_all e) r
over_three x y z d e r h k l =
    let p = placed_both x y d h in
    let q = placed_both y z e k in
    let met : at p.second p.second_n ≡ at q.first q.first_n = sym p.second_is ∙ q.first_is in
    let ms : p.second ≡ q.first = cc in
    let mn : p.second_n ≡ q.first_n = cc in
    let far = told r p.first p.first_n q.second q.second_n p.first_is q.second_is l in
    let from = in_nanoseconds p.first p.first_n in
    let to = in_nanoseconds q.second q.second_n in
    let f = chained from (in_nanoseconds q.first q.first_n) to ∙ ap₂ ◌+ℤ◌ (ap (λ (w : ℤ). w -ℤ from) (sym (ap₂ in_nanoseconds ms mn)) ∙ sym p.exact) (sym q.exact) in
    record { apart = far.apart; is = far.is; in_all_is = far.in_all_is ∙ f }

-- one moment is 0 from itself
abbrev pub no_time : Apart
no_time = record { seconds = pos 0; nanoseconds = 0 }

pub zero_apart : (a : ℤ) (m : ℕ) (r : Result Apart Faulty) → Between (at a m) (at a m) r → r ≡ Ok no_time
zero_apart a m (Ok d) h = ap Ok (fixed d no_time h.below (omega arith) (h.exact ∙ +ℤ_invr (in_nanoseconds a m)))
zero_apart a m (Err f) h = absurd h

pub itself : (x : Moment) (d : Apart) → Between x x (Ok d) → d ≡ no_time
itself no_day d h = cc
itself no_offset d h = cc
itself (at a m) d h = let e = zero_apart a m (Ok d) h in cc
