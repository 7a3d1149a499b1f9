-- Three digits and no fourth are a fraction of so many thousandths.
use Prim.Native.Nat.{ℕ, ◌+◌, ◌*◌, ◌<◌, ◌≤◌}
use mathlib.Core.List.{List, [], ◌∷◌}
use mathlib.Core.Bool.{Bool, true, false}
use mathlib.Core.Path.{◌≡◌, sym, ap, ◌∙◌}
use native.Mathlib.Omega.{arith}
use lib.ListN.{length, get_or}
use borrow.Author.Tests.{lt-ltb, ltb-true}
use Rattle.types.specs.declared.Fraction.{Fraction}
use Rattle.parser.specs.Reading.{got, Says}
use Rattle.parser.specs.Digits.{run_as, fraction_of, fraction, run_at, number_from, at_the_end}
use Rattle.parser.proofs.Fields.{DigitAt, OtherAt}
use Rattle.parser.proofs.Runs.{run_step, run_other, run_end, end_is, end_is_not, any_open}
use Rattle.std.specs.declared.option.Option.{Option}
use Rattle.std.specs.declared.option.Option.TheVariants.{Some}
use Rattle.looks.specs.Digits.{two_digits}
use Rattle.looks.proofs.Two.{two_is}

-- so many milliseconds, in three digits
abbrev pub milliseconds : ℕ → Fraction
milliseconds ms = record { nanosecond = ms * 1000000; digits = 3 }

module _ (s : List ℕ) (at : ℕ) where
  abbrev pub tenths : Option ℕ
  tenths = two_digits 48 (get_or s at 0) 0 9

  abbrev pub rest : Option ℕ
  rest = two_digits (get_or s (at + 1) 0) (get_or s (at + 2) 0) 0 99

  module _ (a b : ℕ) (l : at + 2 < length s) (e : tenths ≡ Some a) (f : rest ≡ Some b) where
    run_of_three : run_at s (at + 3) ≡ [] → run_at s at ≡ get_or s at 0 ∷ get_or s (at + 1) 0 ∷ get_or s (at + 2) 0 ∷ []
    run_of_three z =
        let t = (two_is 48 (get_or s at 0) 0 9 a e).is in
        let u = (two_is (get_or s (at + 1) 0) (get_or s (at + 2) 0) 0 99 b f).is in
        let d0 : DigitAt s at = record { inside = lt-ltb at (length s) (omega (arith, l)); is = t.second } in
        let d1 : DigitAt s (at + 1) = record { inside = lt-ltb (at + 1) (length s) (omega (arith, l)); is = u.first } in
        let d2 : DigitAt s (at + 2) = record { inside = lt-ltb (at + 2) (length s) l; is = u.second } in
        let p : at + 1 + 1 ≡ at + 2 = omega arith in
        let q : at + 2 + 1 ≡ at + 3 = omega arith in
        run_step s at d0 ∙ ap (◌∷◌ (get_or s at 0)) (run_step s (at + 1) d1 ∙ ap (◌∷◌ (get_or s (at + 1) 0)) (rw p (run_step s (at + 2) d2 ∙ ap (◌∷◌ (get_or s (at + 2) 0)) (rw q z))))

    says : (m : Bool) → run_at s (at + 3) ≡ [] → at_the_end s at ≡ m → Says fraction s at (got (milliseconds (a * 100 + b)) (at + 3)) m
    unfolding run_as number_from
    says m z em =
        let t = two_is 48 (get_or s at 0) 0 9 a e in
        let u = two_is (get_or s (at + 1) 0) (get_or s (at + 2) 0) 0 99 b f in
        let r = run_of_three z in
        record { found = rw (r, t.value, u.value) (ap (λ (n : ℕ). got (record { nanosecond = n; digits = 3 }) (at + 3)) (omega arith)); more = sym (any_open fraction_of 1 s at ∙ em) }

    -- where the input ends, and where another byte stands
    pub three_end : length s ≤ at + 3 → Says fraction s at (got (milliseconds (a * 100 + b)) (at + 3)) true
    three_end h = let z = run_end s (at + 3) h in says true z (end_is s at (at + 3) (rw (run_of_three z)) h)

    pub three_other : OtherAt s (at + 3) → Says fraction s at (got (milliseconds (a * 100 + b)) (at + 3)) false
    three_other o = let z = run_other s (at + 3) o in says false z (end_is_not s at (at + 3) (rw (run_of_three z)) (ltb-true (at + 3) (length s) o.inside))
