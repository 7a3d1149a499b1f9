-- The ranges, part by part; and every record that is read has its parts within them, for each comes from a run.
use Prim.Native.Nat.{ℕ, ◌≤◌}
use mathlib.Core.Bool.{Bool, true}
use mathlib.Core.Option.{Option, some, none}
use mathlib.Core.Path.{◌≡◌}
use native.Mathlib.Omega.{arith}
use borrow.Author.Tests.{le-leb, leb-true}
use lib.Dec.{leb}
use Rattle.types.specs.declared.Duration.{Duration}
use Rattle.parser.specs.Reading.{and, lit, opt}
use Rattle.parser.specs.Digits.{limit}
use Rattle.parser.specs.Fields.{or_zero}
use Rattle.parser.proofs.Fields.{and_first, and_second}
use Rattle.duration.specs.declared.DurationTimeParts.{DurationTimeParts}
use Rattle.duration.specs.Rules.{part, some_time, time_of, duration_base_time, duration_time, parts_rule, some_part, time_or_zero, duration_of, duration}
use Rattle.writing.proofs.Yields.{Yields, OrLeftOut, seq_yields, map_yields, opt_yields, verify_yields, give_yields, run_yields, anything}
use Rattle.duration_writer.specs.Ranges.{duration_given}

-- every part within the limit
pub record Within (d : Duration) : Type 0 where
  pub years : d.years ≤ limit
  pub months : d.months ≤ limit
  pub weeks : d.weeks ≤ limit
  pub days : d.days ≤ limit
  pub hours : d.hours ≤ limit
  pub minutes : d.minutes ≤ limit
  pub seconds : d.seconds ≤ limit

pub within_given : (d : Duration) → Within d → duration_given d ≡ true
unfolding duration_given
within_given d w =
    rw (le-leb d.years limit w.years, le-leb d.months limit w.months, le-leb d.weeks limit w.weeks, le-leb d.days limit w.days, le-leb d.hours limit w.hours, le-leb d.minutes limit w.minutes, le-leb d.seconds limit w.seconds)

first_within : (n : ℕ) (b : Bool) → and (leb n limit) b ≡ true → n ≤ limit
first_within n b e = leb-true n limit (and_first (leb n limit) b e)

pub given_within : (d : Duration) → duration_given d ≡ true → Within d
unfolding duration_given
given_within d e =
    let months = and_second (leb d.years limit) e in
    let weeks = and_second (leb d.months limit) months in
    let days = and_second (leb d.weeks limit) weeks in
    let hours = and_second (leb d.days limit) days in
    let minutes = and_second (leb d.hours limit) hours in
    record {
      years = first_within d.years _ e;
      months = first_within d.months _ months;
      weeks = first_within d.weeks _ weeks;
      days = first_within d.days _ days;
      hours = first_within d.hours _ hours;
      minutes = first_within d.minutes _ minutes;
      seconds = leb-true d.seconds limit (and_second (leb d.minutes limit) minutes);
    }

-- ---- what is read

part_yields : (letter : ℕ) → Yields (λ v. v ≤ limit) (part letter)
unfolding part
part_yields letter = seq_yields _ run_yields (λ v h. map_yields _ (λ u z. h) (anything (lit letter)))

absent : (m : Option ℕ) → OrLeftOut (λ v. v ≤ limit) m → or_zero m ≤ limit
absent none f = omega arith
absent (some v) f = f

abbrev Small : DurationTimeParts → Type 0
Small t = (t.hours ≤ limit) × (t.minutes ≤ limit) × (t.seconds ≤ limit)

base_yields : Yields Small duration_base_time
unfolding duration_base_time
base_yields =
    map_yields time_of (λ t f. f)
    (verify_yields {F = λ t. Small (time_of t)} some_time (λ t f e. f)
    (seq_yields _ (opt_yields (part_yields 72)) (λ h fh. seq_yields _ (opt_yields (part_yields 77)) (λ m fm. seq_yields _ (opt_yields (part_yields 83)) (λ s fs. give_yields _ _ (absent h fh, absent m fm, absent s fs))))))

time_yields : Yields Small duration_time
unfolding duration_time
time_yields = seq_yields _ (anything (opt (lit 84))) (λ u z. base_yields)

absent_time : (t : Option DurationTimeParts) → OrLeftOut Small t → Small (time_or_zero t)
absent_time none f = (omega arith, omega arith, omega arith)
absent_time (some t) f = f

parts_yields : Yields (λ p. duration_given (duration_of p) ≡ true) parts_rule
unfolding parts_rule
parts_yields =
    seq_yields _ (opt_yields (part_yields 89)) (λ y fy. seq_yields _ (opt_yields (part_yields 77)) (λ mo fmo.
    seq_yields _ (opt_yields (part_yields 87)) (λ w fw. seq_yields _ (opt_yields (part_yields 68)) (λ d fd.
    seq_yields _ (opt_yields time_yields) (λ t ft.
    let small = absent_time t ft in
    give_yields _ _ (within_given _ record { years = absent y fy; months = absent mo fmo; weeks = absent w fw; days = absent d fd; hours = small.0; minutes = small.1; seconds = small.2 }))))))

pub duration_yields : Yields (λ d. duration_given d ≡ true) duration
unfolding duration
duration_yields =
    map_yields duration_of (λ p f. f)
    (verify_yields {F = λ p. duration_given (duration_of p) ≡ true} some_part (λ p f e. f) (seq_yields _ (anything (lit 80)) (λ u z. parts_yields)))
