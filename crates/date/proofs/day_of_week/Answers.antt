-- From the place after a dash, if there is one: a digit, or none, which means day 1; the test holds either to 1 to 7.
use Prim.Native.Nat.{ℕ}
use mathlib.Core.List.{List}
use mathlib.Core.Bool.{Bool, true, false}
use mathlib.Core.Option.{Option, some, none}
use mathlib.Core.Path.{◌≡◌, refl}
use native.Mathlib.Omega.{arith}
use Rattle.std.proofs.lemmas.Bool.Decides.{nat_tests}
use Rattle.std.specs.declared.result.Result.{Result}
use Rattle.std.specs.declared.result.Result.TheVariants.{Ok, Err}
use Rattle.parser.specs.declared.Miss.{Miss}
use Rattle.parser.specs.declared.Miss.TheVariants as miss
use Rattle.parser.specs.declared.Exact.{Exact}
use Rattle.parser.specs.declared.Got.{Got}
use Rattle.parser.specs.Reading.{Found, no, got, stop, Says, lit, opt, lack, pick, within, verify, keep, map_found}
use Rattle.parser.specs.Digits.{field, reach, lowest, highest}
use Rattle.parser.specs.Fields.{preceded_by}
use Rattle.parser.specs.Read.{missed, exact_found, exact_more, got_found, got_more, or_value, place_after}
use Rattle.date.specs.Rules.{or_first, one_to_seven, day_of_week}
use Rattle.parser.proofs.Fields.{true≢false}
use Rattle.parser.proofs.Says.{says_map, says_verify, says_opt}
use Rattle.parser.proofs.General.{field_eager, says_past}
use Rattle.parser.proofs.Passed.{passed_got}
use Rattle.date.proofs.day_of_week.Goals as goal

-- the test of what was read, and the same of the day that it means
tested : (f : Found (Option ℕ)) → map_found or_first (keep one_to_seven f) ≡ keep (within 1 7) (map_found (or_value 1) f)
tested no = refl
tested (stop r) = refl
tested (got none n) = refl
tested (got (some d) n) = go (within 1 7 d)
  where
    go : (t : Bool) → map_found or_first (pick t (got (some d) n) no) ≡ pick t (got d n) no
    go true = refl
    go false = refl

keep_missed : {A : Type 0} (t : A → Bool) (m : Miss) → keep t (missed m) ≡ missed m
keep_missed t miss.Wrong = refl
keep_missed t miss.Cut = refl
keep_missed t (miss.Stopped r) = refl

-- a day that fails the test is a digit, and nothing after a digit could matter
settled : (r : Result (Exact ℕ) Miss) (at v n : ℕ) (m : Bool) → got v n ≡ map_found (or_value 1) (lack at (exact_found r)) → m ≡ exact_more r → within 1 7 v ≡ false → m ≡ false
settled (Ok g) at v n m e l h = l
settled (Err miss.Wrong) at v n m e l h = l
settled (Err miss.Cut) at v n m e l h = let first : v ≡ 1 = cc in absurd (true≢false (rw first at h))
settled (Err (miss.Stopped r)) at v n m e l h = l

module _ (s : List ℕ) (at from : ℕ) (e : from ≡ place_after at ((lit 45).reads s at)) (r : Result (Exact ℕ) Miss) (h : Says (field 1 0 9) s from (exact_found r) (exact_more r)) (o : Result (Got ℕ) Miss) (k : got_found o ≡ map_found (or_value 1) (lack at (exact_found r))) (l : got_more o ≡ exact_more r) where
  of_day : Says day_of_week s at (keep (within 1 7) (got_found o)) (got_more o)
  unfolding day_of_week reach lowest highest
  of_day =
      let p = preceded_by 45 (field 1 0 9) in
      rw (k, l, ← tested (lack at (exact_found r)))
      (says_map (verify one_to_seven (opt p)) s at or_first _ _
      (says_verify (opt p) s at one_to_seven _ _ (says_opt p s at _ _ (says_past 45 (field 1 0 9) (field_eager 1 0 9 (omega arith) refl) s at from _ _ e h))))

pub returns-in_err-day : goal.returns-in_err-day
returns-in_err-day c =
    let a = c.args in
    let f = c.in_err-day.ensures in
    passed_got _ _ c.from_residual.ensures.1 (rw (keep_missed (within 1 7)) at (of_day a.s.now a.at _ c.past_sep-from.ensures _ c.digit_1.ensures (Err c.in_err-day.field-0.0) f.found f.more))

pub returns-then-contains : goal.returns-then-contains
returns-then-contains c =
    let a = c.args in
    let f = c.in_ok-day.ensures in
    let inside : within 1 7 c.in_ok-day.day.value ≡ true = grind (arith, nat_tests) in
    rw inside at (of_day a.s.now a.at _ c.past_sep-from.ensures _ c.digit_1.ensures (Ok c.in_ok-day.day) f.found f.more)

pub returns-else-contains : goal.returns-else-contains
returns-else-contains c =
    let a = c.args in
    let f = c.in_ok-day.ensures in
    let out : within 1 7 c.in_ok-day.day.value ≡ false = grind (arith, nat_tests) in
    rw (out, settled _ a.at _ _ _ f.found f.more out) at (of_day a.s.now a.at _ c.past_sep-from.ensures _ c.digit_1.ensures (Ok c.in_ok-day.day) f.found f.more)
