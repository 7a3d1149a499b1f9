-- What code says of a date-time that stands first, by what it says of the date-time and of the `/` behind it: the rule of date-times beside
-- that of one that something must follow.
use Prim.Native.Nat.{ℕ}
use mathlib.Core.List.{List}
use mathlib.Core.Bool.{Bool, true, false, not}
use mathlib.Core.Path.{◌≡◌, refl, sym, ap, ◌∙◌}
use mathlib.Core.Logic.{inl, inr}
use Rattle.types.specs.Numbers.{number_of}
use Rattle.types.specs.declared.Choices.{Choices}
use Rattle.types.specs.declared.DateTime.{DateTime}
use Rattle.types.specs.declared.IntervalRange.{IntervalRange}
use Rattle.parser.specs.Reading.{Found, no, got, stop, Reader, lit, seq, and, or, Says}
use Rattle.parser.specs.Read.{missed, cut}
use Rattle.parser.specs.declared.Miss.{Miss}
use Rattle.parser.specs.declared.Miss.TheVariants as miss
use Rattle.parser.proofs.Fields.{true≢false, and_right}
use Rattle.parser.proofs.Places.{no≢got, stop≢got, got_place, got_value}
use Rattle.parser.proofs.Lawful.{open_behind}
use Rattle.parser.proofs.Stops.{lit_stops}
use Rattle.parser.proofs.Says.{or_true, says_seq_got, says_seq_no}
use Rattle.datetime.specs.Rules.{date_time}
use Rattle.interval.specs.Rules.{no_form_fails, tried, stamp}
use Rattle.interval.specs.Followed.{followed, held_by}
use Rattle.interval.specs.Once.{after_start, stamp_first}
use Rattle.interval.proofs.Beside.{NoSlash, Beside, same, apart, stamp_beside}
use Rattle.interval.proofs.FollowedLaws.{followed_item}
use Rattle.parser.proofs.Passed.{missed_got, missed_no, says_seq_missed}
use Rattle.interval.proofs.Telling.{says_tried}

module _ (c : Choices) (s : List ℕ) (at : ℕ) where
  abbrev behind : DateTime → Reader IntervalRange
  behind a = seq (lit 47) (λ _. after_start c a)

  -- a date-time that is followed is found, or is not
  followed_got : (a : DateTime) (n : ℕ) (m l : Bool) (f : Found IntervalRange) → Says (followed c) s at (got a n) m → Says (behind a) s n f l → Says (stamp_first c) s at f (or m l)
  unfolding stamp_first
  followed_got a n m l f h k = says_seq_got (tried (followed c)) s at behind a n m f l (says_tried (followed c) s at (got a n) m h) k

  no_slash : (a : DateTime) (n : ℕ) → NoSlash s n → Says (behind a) s n no false
  no_slash a n h = says_seq_no (lit 47) s n (λ _. after_start c a) false (record { found = sym h.reads; more = sym h.more })

  -- `/` stands behind it, so that it is settled, and what follows decides
  pub slash_first : (a : DateTime) (n k : ℕ) (m l : Bool) (f : Found IntervalRange) → Says (date_time c) s at (got a n) m → Says (lit 47) s n (got tt k) false → Says (after_start c a) s k f l → Says (stamp_first c) s at f l
  slash_first a n k m l f h mark g = go (stamp_beside c s at)
    where
      closed : (m : Bool) → Says (followed c) s at (got a n) m → m ≡ false
      closed true i = absurd (no≢got (sym (open_behind (followed_item c).lawful 47 refl s at a n i) ∙ sym mark.found))
      closed false i = refl

      go : Beside (held_by s) s (date_time c) (followed c) at → Says (stamp_first c) s at f l
      go (same e o _) =
          let i : Says (followed c) s at (got a n) m = record { found = h.found ∙ sym e; more = h.more ∙ sym o } in
          followed_got a n false l f (rw (closed m i) at i) (says_seq_got (lit 47) s n (λ _. after_start c a) tt k false f l mark g)
      go (apart b j e o none (inl i)) = absurd (stop≢got (sym i ∙ sym h.found))
      go (apart b j e o none (inr i)) = let here : j ≡ n = got_place (sym i.0 ∙ sym h.found) in absurd (no≢got (sym (rw here at none.reads) ∙ sym mark.found))

  -- another byte stands there
  pub other_first : (a : DateTime) (n : ℕ) (m : Bool) → Says (date_time c) s at (got a n) m → Says (lit 47) s n no false → Says (stamp_first c) s at no (and m (not (held_by s a n)))
  other_first a n m h mark = go (stamp_beside c s at)
    where
      none_there : Says (behind a) s n no false
      none_there = says_seq_no (lit 47) s n (λ _. after_start c a) false mark

      as_told : (m : Bool) → (m ≡ true → held_by s a n ≡ false) → or m false ≡ and m (not (held_by s a n))
      as_told true g = rw (g refl)
      as_told false g = refl

      go : Beside (held_by s) s (date_time c) (followed c) at → Says (stamp_first c) s at no (and m (not (held_by s a n)))
      go (same e o free) = rw (as_told m (λ t. free a n (sym h.found) (sym h.more ∙ t))) at (followed_got a n m false no (record { found = h.found ∙ sym e; more = h.more ∙ sym o }) none_there)
      go (apart b j e o none (inl i)) = absurd (stop≢got (sym i ∙ sym h.found))
      go (apart b j e o none (inr i)) =
          let held : held_by s a n ≡ true = rw (← got_value (sym i.0 ∙ sym h.found), ← got_place (sym i.0 ∙ sym h.found)) i.1 in
          rw (held, and_right m refl) (followed_got b j false false no (record { found = sym e; more = sym o }) (no_slash b j none))

  -- the input ends there
  end_first : (a : DateTime) (n : ℕ) (m : Bool) → Says (date_time c) s at (got a n) m → Says (lit 47) s n no true → Says (stamp_first c) s at no true
  end_first a n m h mark = go (stamp_beside c s at)
    where
      go : Beside (held_by s) s (date_time c) (followed c) at → Says (stamp_first c) s at no true
      go (same e o _) = rw (or_true m) at (followed_got a n m true no (record { found = h.found ∙ sym e; more = h.more ∙ sym o }) (says_seq_no (lit 47) s n (λ _. after_start c a) true mark))
      go (apart b j e o none (inl i)) = absurd (stop≢got (sym i ∙ sym h.found))
      go (apart b j e o none (inr i)) = let here : j ≡ n = got_place (sym i.0 ∙ sym h.found) in absurd (true≢false (mark.more ∙ rw here at none.more))

  pub cut_first : (a : DateTime) (n : ℕ) (m : Bool) (x : Miss) → (x ≡ miss.Wrong → ⊥) → Says (date_time c) s at (got a n) m → Says (lit 47) s n (missed x) (cut x) → Says (stamp_first c) s at (missed x) (cut x)
  cut_first a n m (miss.Stopped why) w h mark = absurd ((lit_stops {P = λ _. ⊥} 47).by s n (number_of why) (sym mark.found))
  cut_first a n m miss.Wrong w h mark = absurd (w refl)
  cut_first a n m miss.Cut w h mark = end_first a n m h mark

  -- a date-time that is no form, or is not there
  pub missed_first : (m : Miss) → ((date_time c).reads s at ≡ stop 1 → cut m ≡ false) → Says (stamp c) s at (missed m) (cut m) → Says (stamp_first c) s at (missed m) (cut m)
  unfolding stamp tried stamp_first
  missed_first m settled h = go (stamp_beside c s at)
    where
      go : Beside (held_by s) s (date_time c) (followed c) at → Says (stamp_first c) s at (missed m) (cut m)
      go (same e o _) = says_seq_missed (tried (followed c)) s at behind m (record { found = h.found ∙ ap no_form_fails (sym e); more = h.more ∙ sym o })
      go (apart b j e o none (inl i)) = rw (missed_no m (h.found ∙ ap no_form_fails i), settled i) (followed_got b j false false no (record { found = sym e; more = sym o }) (no_slash b j none))
      go (apart b j e o none (inr i)) = absurd (missed_got m (h.found ∙ ap no_form_fails i.0))
