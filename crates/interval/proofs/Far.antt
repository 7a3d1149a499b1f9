-- A lone `+` needs fourteen bytes: the ten of a date-time behind it, `/`, and the three of a duration. With fewer nothing is found.
use Prim.Native.Nat.{ℕ, ◌+◌, ◌≤◌}
use lib.IntN.{ℤ}
use mathlib.Core.List.{List, [], ◌∷◌}
use mathlib.Core.Bool.{Bool, true, false}
use mathlib.Core.Path.{◌≡◌, refl, sym, ◌∙◌}
use native.Mathlib.Omega.{arith}
use lib.Dec.{ltb}
use lib.ListN.{length}
use borrow.Author.Tests.{lt-ltb}
use Rattle.types.specs.declared.Choices.{Choices}
use Rattle.types.specs.declared.Date.{Date}
use Rattle.types.specs.declared.DateTime.{DateTime}
use Rattle.types.specs.declared.Edition.{Edition}
use Rattle.types.specs.declared.Edition.TheVariants.{E2004, E2019}
use Rattle.types.specs.declared.Reading.{Reading}
use Rattle.types.specs.declared.Reading.TheVariants.{Old, Standard}
use Rattle.parser.specs.Reading.{Found, no, got, stop, Reader, lit, seq, then, opt, alt, map}
use Rattle.parser.specs.Digits.{field, digits_more, lowest, highest, reach, fraction_of}
use Rattle.parser.specs.Fields.{preceded_by, or_zero}
use Rattle.parser.proofs.Places.{from_no, from_stop, made}
use Rattle.parser.proofs.Least.{Least, lit_least, map_least, seq_least, field_least}
use Rattle.parser.proofs.Stops.{StopsBy, lit_stops, field_stops, run_stops, map_stops, must_stops, opt_stops, alt_stops, seq_stops}
use Rattle.parser.proofs.Unstopped.{Unstopped}
use Rattle.offset.proofs.Laws.{offset_unstopped}
use Rattle.time.specs.declared.TimeUnit.{TimeUnit}
use Rattle.time.specs.declared.TimeUnit.TheVariants.{Hour}
use Rattle.time.specs.Rules.{hour_of, ends_day, zero_if, numbers_if, unit_of, time_fraction, millisecond, second_millisecond, minute_second_millisecond, behind_hour, time_offset, after_hour}
use Rattle.date.specs.Rules.{date, year}
use Rattle.date.specs.Answer.{after_year}
use Rattle.date.proofs.Laws.{after_year_takes, date_alike, date_takes}
use Rattle.datetime.specs.Rules.{stamp}
use Rattle.datetime.proofs.Laws.{datetime_too_few}
use Rattle.duration.proofs.Laws.{duration_too_few}
use Rattle.interval.specs.Rules.{repeated, repetitions, no_form_fails, tried}
use Rattle.interval.specs.Rules as rules
use Rattle.interval.specs.Followed.{zero_minute, zero_behind, zero_tail, tail_of, followed_time, followed}
use Rattle.interval.specs.Once.{after_start, stamp_first, duration_first, range_once, interval_once, interval}
use Rattle.interval.proofs.Apart.{duration_out}
use Rattle.interval.proofs.FollowedLaws.{tail_of_lem}
use Rattle.interval.proofs.Alternatives.{interval_alike}

-- ---- what stops the reading of a date-time is no form

abbrev One : ℕ → Type 0
One r = r ≡ 1

never : {A : Type 0} {p : Reader A} → Unstopped p → StopsBy One p
never hp = record { by = λ s at r e. absurd (hp.by s at r e) }

colon_stops : (z : Bool) (hi : ℕ) → StopsBy One (preceded_by 58 (zero_if z (field 2 0 hi)))
colon_stops z hi = seq_stops (opt_stops (lit_stops 58)) (λ _. go z)
  where
    go : (z : Bool) → StopsBy One (zero_if z (field 2 0 hi))
    go true = must_stops _ 1 refl (field_stops 2 0 hi)
    go false = field_stops 2 0 hi

fraction_stops : (u : TimeUnit) (z : Bool) (mi se : ℕ) → StopsBy One (time_fraction u z mi se)
unfolding time_fraction
fraction_stops u z mi se = map_stops _ (seq_stops (alt_stops (lit_stops 44) (lit_stops 46)) (λ _. run_stops fraction_of (numbers_if z) 1 refl))

part_stops : (u : TimeUnit) (z : Bool) (mi se : ℕ) → StopsBy One (millisecond u z mi se)
unfolding millisecond
part_stops u z mi se = map_stops _ (opt_stops (fraction_stops u z mi se))

minute_stops : (r : Reading) (z : Bool) → StopsBy One (minute_second_millisecond r z)
unfolding minute_second_millisecond second_millisecond
minute_stops r z = seq_stops (colon_stops z 59) (λ mi. seq_stops (opt_stops (colon_stops z 60)) (λ se. part_stops (unit_of r se) z mi (or_zero se)))

zero_stops : (r : Reading) → StopsBy One (zero_minute r)
unfolding zero_minute
zero_stops r = seq_stops (colon_stops false 0) (λ mi. seq_stops (opt_stops (colon_stops false 0)) (λ se. part_stops (unit_of r se) true mi (or_zero se)))

tail_stops : (r : Reading) (z : Bool) (h : ℕ) → StopsBy One (tail_of r z h)
unfolding tail_of after_hour behind_hour zero_tail zero_behind time_offset
tail_stops Old false h = seq_stops (opt_stops (minute_stops Old false)) (λ k. map_stops _ (opt_stops (never offset_unstopped)))
tail_stops Standard false h = seq_stops (opt_stops (alt_stops (minute_stops Standard false) (fraction_stops Hour false 0 0))) (λ k. map_stops _ (opt_stops (never offset_unstopped)))
tail_stops Old true h = seq_stops (opt_stops (zero_stops Old)) (λ k. map_stops _ (opt_stops (never offset_unstopped)))
tail_stops Standard true h = seq_stops (opt_stops (alt_stops (zero_stops Standard) (fraction_stops Hour true 0 0))) (λ k. map_stops _ (opt_stops (never offset_unstopped)))

followed_stops : (c : Choices) → StopsBy One (followed c)
unfolding followed followed_time
followed_stops c = seq_stops (never date_takes.unstopped) (λ d. seq_stops (lit_stops 84) (λ _. map_stops _ (seq_stops (hour c.edition) (λ h. tail_stops c.reading (ends_day c.edition h) h))))
  where
    hour : (e : Edition) → StopsBy One (hour_of e)
    hour E2019 = field_stops 2 0 23
    hour E2004 = field_stops 2 0 24

-- ---- behind a `+` a date-time ends eleven bytes on

after_least : {A B : Type 0} (j k : ℕ) (p : Reader A) (q : A → Reader B) (s : List ℕ) (at : ℕ) → ((a : A) (m : ℕ) → p.reads s at ≡ got a m → at + j ≤ m) → ((a : A) → Least k (q a)) → (b : B) (n : ℕ) → (seq p q).reads s at ≡ got b n → at + (j + k) ≤ n
unfolding seq
after_least j k p q s at hp hq b n = made p (λ f. then f (λ a m. (q a).reads s m)) s at from_no (λ _ _. from_stop) (λ a m ef e. omega (arith, hp a m ef, (hq a).spans s m b n e))

inside : (x : List ℕ) → ltb 0 (length (43 ∷ x)) ≡ true
inside x = lt-ltb 0 (length (43 ∷ x)) (omega arith)

year_plus : (x : List ℕ) (y : ℤ) (n : ℕ) → year.reads (43 ∷ x) 0 ≡ got y n → 0 + 5 ≤ n
unfolding year seq opt alt map lit
year_plus x y n e = omega (arith, (map_least _ (field_least 4 100 9999)).spans (43 ∷ x) 1 y n (rw (inside x) at e))

date_plus : (x : List ℕ) (d : Date) (n : ℕ) → date.reads (43 ∷ x) 0 ≡ got d n → 0 + 8 ≤ n
date_plus x d n e = after_least 5 3 year after_year (43 ∷ x) 0 (year_plus x) (λ y. (after_year_takes y).least) d n (sym (date_alike (43 ∷ x) 0).reads ∙ e)

time_least : (c : Choices) → Least 2 (followed_time c)
unfolding followed_time
time_least c = seq_least (hour c.edition) (λ h. (tail_of_lem c.reading (ends_day c.edition h) h).lawful.steady.ahead)
  where
    hour : (e : Edition) → Least 2 (hour_of e)
    hour E2019 = field_least 2 0 23
    hour E2004 = field_least 2 0 24

followed_plus : (c : Choices) (x : List ℕ) (a : DateTime) (n : ℕ) → (followed c).reads (43 ∷ x) 0 ≡ got a n → 0 + 11 ≤ n
unfolding followed
followed_plus c x a n e = after_least 8 3 date (λ d. seq (lit 84) (λ _. map (stamp d) (followed_time c))) (43 ∷ x) 0 (date_plus x) (λ d. seq_least (lit_least 84) (λ _. map_least _ (time_least c))) a n e

-- ---- so with thirteen bytes more nothing is found

start_too_few : (c : Choices) (a : DateTime) (s : List ℕ) (at : ℕ) → length s ≤ at + 2 → (after_start c a).reads s at ≡ no
unfolding after_start alt map tried rules.stamp
start_too_few c a s at h = rw ((datetime_too_few c).nothing s at (omega arith), duration_too_few.nothing s at h)

module _ (c : Choices) (x : List ℕ) (h : length x ≤ 13) where
  slash_plus : (a : DateTime) (n : ℕ) → 11 ≤ n → (f : Found Unit) → (lit 47).reads (43 ∷ x) n ≡ f → then f (λ _ m. (after_start c a).reads (43 ∷ x) m) ≡ no
  slash_plus a n le no e = refl
  slash_plus a n le (stop r) e = absurd ((lit_stops {P = λ _. ⊥} 47).by (43 ∷ x) n r e)
  slash_plus a n le (got u m) e = start_too_few c a (43 ∷ x) m (omega (arith, (lit_least 47).spans (43 ∷ x) n u m e))

  stamp_plus : (stamp_first c).reads (43 ∷ x) 0 ≡ no
  unfolding stamp_first seq tried
  stamp_plus = go ((followed c).reads (43 ∷ x) 0) refl
    where
      go : (f : Found DateTime) → (followed c).reads (43 ∷ x) 0 ≡ f → then (no_form_fails f) (λ a n. then ((lit 47).reads (43 ∷ x) n) (λ _ m. (after_start c a).reads (43 ∷ x) m)) ≡ no
      go no e = refl
      go (stop r) e = rw ((followed_stops c).by (43 ∷ x) 0 r e)
      go (got a n) e = slash_plus a n (omega (arith, followed_plus c x a n e)) ((lit 47).reads (43 ∷ x) n) refl

  duration_plus : (duration_first c).reads (43 ∷ x) 0 ≡ no
  unfolding duration_first seq
  duration_plus = rw (← (duration_out (43 ∷ x) 0 (inside x) refl).found)

  pub plus_too_few : (interval c).reads (43 ∷ x) 0 ≡ no
  unfolding interval_once repetitions repeated range_once seq map opt alt lit
  plus_too_few = (interval_alike c (43 ∷ x) 0).reads ∙ rw (inside x, stamp_plus, duration_plus)

-- and it is open
pub plus_open : (c : Choices) → (interval c).more (43 ∷ []) 0 ≡ true
unfolding interval interval_once repetitions repeated range_once stamp_first tried followed date year seq map opt alt lit field digits_more reach highest lowest
plus_open c = refl
