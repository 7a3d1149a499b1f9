-- What holds of every part of a rule, hope aside, travels together: stable, within the input, never back from its place, deaf to bytes that
-- it never takes, and stopped by no form or by a number that is too big alone.
use Prim.Native.Nat.{ℕ}
use mathlib.Core.List.{List}
use mathlib.Core.Bool.{Bool, false}
use mathlib.Core.Path.{◌≡◌}
use native.Mathlib.Omega.{arith}
use Rattle.parser.specs.Reading.{Reader, seq, opt, alt, verify, must, map, give}
use Rattle.parser.specs.Digits.{is_digit, run_as}
use Rattle.parser.proofs.Stable.{Stable, give_stable, verify_stable, must_stable, map_stable, opt_stable, seq_stable, alt_stable, Growing, run_stable}
use Rattle.parser.proofs.Places.{Bounded, give_bounded, seq_bounded, opt_bounded, alt_bounded, verify_bounded, must_bounded, map_bounded, run_bounded}
use Rattle.parser.proofs.Least.{Ahead, fewer, run_least, give_least, map_least, verify_least, must_least, opt_least, alt_least, seq_least}
use Rattle.parser.proofs.Places.{Foreign, give_foreign, seq_foreign, opt_foreign, alt_foreign, verify_foreign, must_foreign, map_foreign, run_foreign}
use Rattle.parser.proofs.Stops.{StopsBy, OneOrTwo, give_stops, map_stops, verify_stops, must_stops, opt_stops, alt_stops, seq_stops, run_stops}

pub record Steady {A : Type 0} (X : ℕ → Type 0) (p : Reader A) : Type 0 where
  pub stable : Stable p
  pub bounded : Bounded p
  pub ahead : Ahead p
  pub foreign : Foreign X p
  pub numbered : StopsBy OneOrTwo p

-- ---- one law for each combinator, and for runs

module _ {X : ℕ → Type 0} where
  pub give_steady : {A : Type 0} (a : A) → Steady X (give a)
  give_steady a = record { stable = give_stable a; bounded = give_bounded a; ahead = give_least a; foreign = give_foreign X a; numbered = give_stops a }

  pub map_steady : {A B : Type 0} (f : A → B) {p : Reader A} → Steady X p → Steady X (map f p)
  map_steady f {p} hp = record { stable = map_stable f p hp.stable; bounded = map_bounded f p hp.bounded; ahead = map_least f hp.ahead; foreign = map_foreign X f p hp.foreign; numbered = map_stops f hp.numbered }

  pub verify_steady : {A : Type 0} (f : A → Bool) {p : Reader A} → Steady X p → Steady X (verify f p)
  verify_steady f {p} hp = record { stable = verify_stable f p hp.stable; bounded = verify_bounded f p hp.bounded; ahead = verify_least f hp.ahead; foreign = verify_foreign X f p hp.foreign; numbered = verify_stops f hp.numbered }

  pub must_steady : {A : Type 0} (f : A → Bool) {r : ℕ} → OneOrTwo r → {p : Reader A} → Steady X p → Steady X (must f r p)
  must_steady f {r} w {p} hp = record { stable = must_stable f r p hp.stable; bounded = must_bounded f r p hp.bounded; ahead = must_least f r hp.ahead; foreign = must_foreign X f r p hp.foreign; numbered = must_stops f r w hp.numbered }

  pub opt_steady : {A : Type 0} {p : Reader A} → Steady X p → Steady X (opt p)
  opt_steady {p = p} hp = record { stable = opt_stable p hp.stable; bounded = opt_bounded p hp.bounded; ahead = opt_least hp.ahead; foreign = opt_foreign X p hp.foreign; numbered = opt_stops hp.numbered }

  pub alt_steady : {A : Type 0} {p q : Reader A} → Steady X p → Steady X q → Steady X (alt p q)
  alt_steady {p = p} {q = q} hp hq = record { stable = alt_stable p q hp.stable hq.stable; bounded = alt_bounded p q hp.bounded hq.bounded; ahead = alt_least hp.ahead hq.ahead; foreign = alt_foreign X p q hp.foreign hq.foreign; numbered = alt_stops hp.numbered hq.numbered }

  pub seq_steady : {A B : Type 0} {p : Reader A} {q : A → Reader B} → Steady X p → ((a : A) → Steady X (q a)) → Steady X (seq p q)
  seq_steady {p = p} {q = q} hp hq = record {
    stable = seq_stable p q hp.stable (λ a. (hq a).stable);
    bounded = seq_bounded p q hp.bounded (λ a. (hq a).bounded);
    ahead = seq_least hp.ahead (λ a. (hq a).ahead);
    foreign = seq_foreign X p q hp.bounded hp.foreign (λ a. (hq a).foreign);
    numbered = seq_stops hp.numbered (λ a. (hq a).numbered);
  }

  pub run_steady : {A : Type 0} (f : List ℕ → A) {may : ℕ → Bool} → Growing may → {r : ℕ} → OneOrTwo r → ((c : ℕ) → X c → is_digit c ≡ false) → Steady X (run_as f may r)
  run_steady f {may} g {r} w h = record { stable = run_stable f g r; bounded = run_bounded f may r; ahead = fewer (omega arith) (run_least f may r); foreign = run_foreign f may r X h; numbered = run_stops f may r w }
