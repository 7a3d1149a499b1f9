-- The fraction is there or left out, and stays open where its digits do, or where it was cut short.
use Prim.Native.Nat.{ℕ}
use mathlib.Core.List.{List}
use mathlib.Core.Bool.{Bool, true, false}
use mathlib.Core.Path.{◌≡◌, refl, ◌∙◌}
use Rattle.parser.specs.Reading.{Found, Says, SaysOn, no, got, opt, lack, map_found, or}
use Rattle.parser.specs.Read.{missed, cut, or_value}
use Rattle.parser.specs.declared.Miss.{Miss}
use Rattle.parser.proofs.Says.{says_map, says_on}
use Rattle.time.specs.declared.Clock.{Clock}
use Rattle.time.specs.declared.TimeUnit.{TimeUnit}
use Rattle.time.specs.Rules.{whole_clock, or_whole, time_fraction, millisecond}
use Rattle.parser.proofs.Passed.{missed_got, passed_on, says_map_missed, says_opt_missed, says_opt_got}
use Rattle.time.proofs.Unmarked.{mark, no_fraction}
use Rattle.time.proofs.LeftOut.{or_whole_lem}
use Rattle.time.proofs.time_millisecond.Goals as goal

module _ (u : TimeUnit) (z : Bool) (mi se : ℕ) (s : List ℕ) (at : ℕ) (f : Found Clock) (l : Bool) (h : Says (time_fraction u z mi se) s at f l) where
  -- where the fraction stops the reading nothing was left open
  stopped : (b : Bool) → (b ≡ true → mark.reads s at ≡ no) → (m : Miss) → missed m ≡ map_found (or_value (whole_clock mi se)) (lack at f) → cut m ≡ l → SaysOn b (millisecond u z mi se) s at (missed m) (cut m)
  unfolding millisecond
  stopped true n m e d =
      let i : f ≡ no = h.found ∙ no_fraction u z mi se s at (n refl) in
      absurd (missed_got m (rw i at e))
  stopped false n m e d =
      let p = time_fraction u z mi se in
      let k = says_map_missed (opt p) s at (or_whole mi se) m (says_opt_missed p s at (whole_clock mi se) f l h m e d) in
      record { found = k.found; more = k.more }

  taken : (b : Bool) (k : Clock) (n : ℕ) (m : Bool) → got k n ≡ map_found (or_value (whole_clock mi se)) (lack at f) → m ≡ l → SaysOn b (millisecond u z mi se) s at (got k n) (or b m)
  unfolding millisecond
  taken b k n m e d =
      let p = time_fraction u z mi se in
      let t = says_opt_got p s at (whole_clock mi se) f l h k n m e d in
      says_on (millisecond u z mi se) s at (got k n) b m (rw (or_whole_lem mi se t.item, t.value) at (says_map (opt p) s at (or_whole mi se) (got t.item n) m t.says))

pub returns-in_err-clock : goal.returns-in_err-clock
returns-in_err-clock c =
    let a = c.args in
    let w = a.whole in
    passed_on _ _ c.from_residual.ensures.1
    (stopped w.unit a.zero w.minute w.second a.s.now a.at _ _ c.time_fraction-fraction.ensures a.more c.requires.at_value _ (rw c.clock.ensures at c.in_err-clock.ensures.found) c.in_err-clock.ensures.more)

pub returns : goal.returns
returns c =
    let a = c.args in
    let w = a.whole in
    rw c.either_open.ensures
    (taken w.unit a.zero w.minute w.second a.s.now a.at _ _ c.time_fraction-fraction.ensures a.more _ _ _ (rw c.clock.ensures at c.in_ok-clock.ensures.found) c.in_ok-clock.ensures.more)
