-- No two answers are promised of one pair of moments.
use Prim.Native.Nat.{ℕ, ◌+◌, ◌*◌, ◌<◌}
use mathlib.Core.Path.{◌≡◌, sym, ap, ap₂, ◌∙◌}
use native.Mathlib.Omega.{arith}
use lib.IntN.{ℤ}
use Rattle.std.specs.declared.result.Result.{Result}
use Rattle.std.specs.declared.result.Result.TheVariants.{Ok, Err}
use Rattle.calendar.proofs.Integers.{same, across, parted}
use Rattle.moments.specs.declared.Apart.{Apart}
use Rattle.moments.specs.declared.Faulty.{Faulty}
use Rattle.moments.specs.Moments.{Moment, no_day, no_offset, at, in_nanoseconds, Between}
use Rattle.moments.proofs.Laws.{nanoseconds_from}

-- seconds and nanoseconds below a second are fixed by the nanoseconds in all
pub fixed : (d e : Apart) → d.nanoseconds < 1000000000 → e.nanoseconds < 1000000000 → in_nanoseconds d.seconds d.nanoseconds ≡ in_nanoseconds e.seconds e.nanoseconds → d ≡ e
fixed d e hd he eq =
    let m = d.nanoseconds in
    let n = e.nanoseconds in
    let p = parted d.seconds in
    let q = parted e.seconds in
    let left = ap (λ (z : ℤ). in_nanoseconds z m) p.is ∙ nanoseconds_from p.up p.down m in
    let right = ap (λ (z : ℤ). in_nanoseconds z n) q.is ∙ nanoseconds_from q.up q.down n in
    let sums = across (p.up * 1000000000 + m) (p.down * 1000000000) (q.up * 1000000000 + n) (q.down * 1000000000) (sym left ∙ eq ∙ right) in
    let same-seconds : p.up + q.down ≡ q.up + p.down = omega arith in
    let seconds : d.seconds ≡ e.seconds = p.is ∙ same p.up p.down q.up q.down same-seconds ∙ sym q.is in
    let nanoseconds : m ≡ n = omega arith in
    ap₂ (λ (s : ℤ) (k : ℕ). record { seconds = s; nanoseconds = k }) seconds nanoseconds

pub between_once : (x y : Moment) (q r : Result Apart Faulty) → Between x y q → Between x y r → q ≡ r
between_once no_day y q r h k = h ∙ sym k
between_once no_offset y q r h k = h ∙ sym k
between_once (at s m) no_day q r h k = h ∙ sym k
between_once (at s m) no_offset q r h k = h ∙ sym k
between_once (at s m) (at t n) (Ok d) (Ok e) h k = ap Ok (fixed d e h.below k.below (h.exact ∙ sym k.exact))
between_once (at s m) (at t n) (Ok d) (Err f) h k = absurd k
between_once (at s m) (at t n) (Err f) r h k = absurd h
