-- What is read once reads what the four alternatives do: a date-time and a duration never begin with the same byte, so that the second and
-- the third change places, and two that begin alike read that once.
use Prim.Native.Nat.{ℕ}
use mathlib.Core.List.{List}
use mathlib.Core.Bool.{Bool, true, false}
use mathlib.Core.Path.{◌≡◌, refl, sym}
use mathlib.Core.Logic.{inl, inr}
use lib.Dec.{ltb, eqb}
use lib.ListN.{length, get_or}
use borrow.Author.Tests.{ltb-false, eqb-true}
use Rattle.types.specs.declared.Choices.{Choices}
use Rattle.types.specs.declared.DateTime.{DateTime}
use Rattle.types.specs.declared.Duration.{Duration}
use Rattle.types.specs.declared.IntervalRange.{IntervalRange}
use Rattle.types.specs.declared.IntervalRange.TheVariants as range
use Rattle.types.specs.declared.Repetitions.{Repetitions}
use Rattle.parser.specs.Reading.{Found, no, got, stop, lit, seq, then, opt, lack, alt, or_else, map, map_found}
use Rattle.parser.proofs.General.{or_else_no}
use Rattle.parser.proofs.Alike.{Alike}
use Rattle.datetime.specs.Rules.{date_time}
use Rattle.duration.specs.Rules.{duration}
use Rattle.interval.specs.Rules.{repetitions, no_form_fails, tried, stamp, closed, closed_end, closed_start, range_of, interval_of, interval_rule}
use Rattle.interval.specs.Followed.{followed, held_by}
use Rattle.interval.specs.Once.{after_start, stamp_first, or_open, after_duration, duration_first, range_once, interval_once, interval}
use Rattle.interval.proofs.Apart.{stamp_out, duration_out}
use Rattle.interval.proofs.Beside.{Beside, same, apart, stamp_beside}
use Rattle.duration.proofs.Laws.{duration_item_lem}

module _ (c : Choices) (s : List ℕ) (at : ℕ) (beside : Beside (held_by s) s (date_time c) (followed c) at) where
  -- behind a duration: a `/` and a date-time, or nothing
  behind_duration : (d : Duration) (n : ℕ) (f : Found Unit) (g : ℕ → Found DateTime) → or_else (then f (λ _ m. map_found (range.ClosedEnd d) (g m))) (got (range.Open d) n) ≡ map_found (or_open d) (lack n (then f (λ _ m. g m)))
  behind_duration d n no g = refl
  behind_duration d n (stop r) g = refl
  behind_duration d n (got u m) g = go (g m)
    where
      go : (x : Found DateTime) → or_else (map_found (range.ClosedEnd d) x) (got (range.Open d) n) ≡ map_found (or_open d) (lack n x)
      go no = refl
      go (stop r) = refl
      go (got e k) = refl

  duration_once : or_else ((closed_end c).reads s at) ((map range.Open duration).reads s at) ≡ (duration_first c).reads s at
  unfolding closed_end duration_first after_duration seq map opt
  duration_once = go (duration.reads s at)
    where
      go : (x : Found Duration) → or_else (then x (λ d n. then ((lit 47).reads s n) (λ _ m. map_found (range.ClosedEnd d) ((stamp c).reads s m)))) (map_found range.Open x) ≡ then x (λ d n. map_found (or_open d) (lack n (then ((lit 47).reads s n) (λ _ m. (stamp c).reads s m))))
      go no = refl
      go (stop r) = refl
      go (got d n) = behind_duration d n ((lit 47).reads s n) (λ m. (stamp c).reads s m)

  -- behind a date-time, and `/`: another, or a duration
  abbrev both : Found DateTime → Found IntervalRange
  both x = or_else (then x (λ a n. then ((lit 47).reads s n) (λ _ m. map_found (range.Closed a) ((stamp c).reads s m)))) (then x (λ a n. then ((lit 47).reads s n) (λ _ m. map_found (range.ClosedStart a) (duration.reads s m))))

  abbrev once : Found DateTime → Found IntervalRange
  once x = then x (λ a n. then ((lit 47).reads s n) (λ _ m. or_else (map_found (range.Closed a) ((stamp c).reads s m)) (map_found (range.ClosedStart a) (duration.reads s m))))

  read_once : (x : Found DateTime) → both x ≡ once x
  read_once no = refl
  read_once (stop r) = refl
  read_once (got a n) = go ((lit 47).reads s n)
    where
      go : (y : Found Unit) → or_else (then y (λ _ m. map_found (range.Closed a) ((stamp c).reads s m))) (then y (λ _ m. map_found (range.ClosedStart a) (duration.reads s m))) ≡ then y (λ _ m. or_else (map_found (range.Closed a) ((stamp c).reads s m)) (map_found (range.ClosedStart a) (duration.reads s m)))
      go no = refl
      go (stop r) = refl
      go (got u m) = refl

  stamp_once : or_else ((closed c).reads s at) ((closed_start c).reads s at) ≡ (stamp_first c).reads s at
  unfolding closed closed_start stamp_first after_start stamp tried seq map alt
  stamp_once = go beside
    where
      go : Beside (held_by s) s (date_time c) (followed c) at → both (no_form_fails ((date_time c).reads s at)) ≡ once (no_form_fails ((followed c).reads s at))
      go (same e _ _) = rw e (read_once (no_form_fails ((date_time c).reads s at)))
      go (apart a n e _ slash (inl i)) = rw (e, i, slash.reads)
      go (apart a n e _ slash (inr i)) = rw (e, i.0, slash.reads)

  -- ---- the second and the third change places: one of the two finds nothing

  module _ (e : duration.reads s at ≡ no) where
    not_alone : (map range.Open duration).reads s at ≡ no
    unfolding map
    not_alone = rw e

    not_before : (closed_end c).reads s at ≡ no
    unfolding closed_end seq
    not_before = rw e

    no_duration : (range_of c).reads s at ≡ (range_once c).reads s at
    unfolding range_of range_once alt
    no_duration = rw (← stamp_once, ← duration_once, not_before, not_alone, or_else_no ((closed_start c).reads s at), or_else_no (or_else ((closed c).reads s at) ((closed_start c).reads s at)))

  module _ (e : (date_time c).reads s at ≡ no) where
    not_two : (closed c).reads s at ≡ no
    unfolding closed stamp tried seq
    not_two = rw e

    not_start : (closed_start c).reads s at ≡ no
    unfolding closed_start stamp tried seq
    not_start = rw e

    no_stamp : (range_of c).reads s at ≡ (range_once c).reads s at
    unfolding range_of range_once alt
    no_stamp = rw (← stamp_once, ← duration_once, not_two, not_start)

  range_once_lem : (range_of c).reads s at ≡ (range_once c).reads s at
  range_once_lem = go (ltb at (length s)) refl (eqb (get_or s at 0) 80) refl
    where
      go : (t : Bool) → ltb at (length s) ≡ t → (u : Bool) → eqb (get_or s at 0) 80 ≡ u → (range_of c).reads s at ≡ (range_once c).reads s at
      go false i u p = no_duration (duration_item_lem.fails s at (ltb-false at (length s) i))
      go true i false p = no_duration (sym (duration_out s at i p).found)
      go true i true p = no_stamp (sym (stamp_out s at i (rw (eqb-true (get_or s at 0) 80 p)) c).found)

-- so the rule reads the same, and is open where this is
pub interval_alike : (c : Choices) → Alike (interval c) (interval_once c)
unfolding interval interval_rule interval_once seq map
interval_alike c s at = record { reads = go (repetitions.reads s at); more = refl }
  where
    go : (f : Found Repetitions) → then f (λ r n. map_found (interval_of r) ((range_of c).reads s n)) ≡ then f (λ r n. map_found (interval_of r) ((range_once c).reads s n))
    go no = refl
    go (stop r) = refl
    go (got r n) = rw (range_once_lem c s n (stamp_beside c s n))
