-- What code says of an interval's parts, from what it says of date-times, durations and runs.
use Prim.Native.Nat.{ℕ, ◌+◌, ◌<◌, ◌≤◌}
use mathlib.Core.List.{List, [], ◌∷◌}
use mathlib.Core.Bool.{Bool, true, false}
use mathlib.Core.Option.{Option, none}
use mathlib.Core.Path.{◌≡◌, refl, sym, ap, ◌∙◌}
use mathlib.Core.Logic.{◌⊎◌, inl, inr}
use native.Mathlib.Omega.{arith}
use lib.Dec.{leb}
use lib.ListN.{length}
use borrow.Author.Tests.{leb-true, leb-false, le-leb, lt-leb}
use Rattle.types.specs.Numbers.{number_of}
use Rattle.types.specs.declared.Choices.{Choices}
use Rattle.types.specs.declared.DateTime.{DateTime}
use Rattle.types.specs.declared.Duration.{Duration}
use Rattle.types.specs.declared.IntervalRange.TheVariants.{Open}
use Rattle.types.specs.declared.Refusal.{Refusal}
use Rattle.types.specs.declared.Repetitions.{Repetitions}
use Rattle.parser.specs.Reading.{Found, no, got, stop, Reader, lit, seq, opt, lack, failed, map_found, pick, or, and, Says, SaysOn}
use Rattle.parser.specs.Digits.{number, number_from, run_at, of_run, at_the_end, at_most, limit, run, run_as}
use Rattle.parser.specs.Read.{missed, cut, place_after}
use Rattle.parser.specs.declared.Miss.{Miss}
use Rattle.parser.specs.declared.Miss.TheVariants as miss
use Rattle.parser.proofs.Fields.{true≢false, and_right}
use Rattle.parser.proofs.Places.{no≢got, no≢stop, stop≢got, got_place, got_value, lit_fails, map_fails, run_fails}
use Rattle.parser.proofs.RunLeaves.{run_open}
use Rattle.parser.proofs.General.{lit_eager, map_eager}
use Rattle.parser.proofs.Says.{says_map, says_seq_got, says_seq_stop, says_opt, says_on}
use Rattle.interval.specs.Rules.{repeat_limit, repeat_run, times_of, slashed, digits_and_slash, no_form_fails, tried, stamp}
use Rattle.interval.specs.Once.{or_open, after_duration}
use Rattle.interval.proofs.Tried.{tried_got}

pub says_tried : {A : Type 0} (p : Reader A) (s : List ℕ) (at : ℕ) (f : Found A) (m : Bool) → Says p s at f m → Says (tried p) s at (no_form_fails f) m
unfolding tried
says_tried p s at f m h = record { found = ap no_form_fails h.found; more = h.more }

-- what is found by what is tried is found
pub says_untried : {A : Type 0} (p : Reader A) (s : List ℕ) (at : ℕ) (a : A) (n : ℕ) (m : Bool) → Says (tried p) s at (got a n) m → Says p s at (got a n) m
unfolding tried
says_untried p s at a n m h = record { found = sym (tried_got (p.reads s at) a n (sym h.found)); more = h.more }

-- ---- behind a duration: `/` and a date-time, or nothing

module _ (c : Choices) (d : Duration) (s : List ℕ) (at : ℕ) where
  abbrev end_of : Reader DateTime
  end_of = seq (lit 47) (λ _. stamp c)

  end_behind : (b : Bool) (f : Found DateTime) (m : Bool) → Says end_of s at f m → SaysOn b (after_duration c d) s at (map_found (or_open d) (lack at f)) (or b m)
  unfolding after_duration
  end_behind b f m h = says_on (after_duration c d) s at _ b m (says_map (opt end_of) s at (or_open d) (lack at f) m (says_opt end_of s at f m h))

  -- where a `/` stands nothing was open before it
  pub end_settled : (b : Bool) (f : Found DateTime) (m : Bool) → (b ≡ true → (lit 47).reads s at ≡ no) → failed f ≡ false → Says end_of s at f m → SaysOn b (after_duration c d) s at (map_found (or_open d) (lack at f)) m
  unfolding seq
  end_settled true f m g e h = absurd (true≢false (rw (h.found, g refl) at e))
  end_settled false f m g e h = end_behind false f m h

  pub left_out : (b : Bool) (x : Miss) → ((why : Refusal) → x ≡ miss.Stopped why → ⊥) → Says end_of s at (missed x) (cut x) → SaysOn b (after_duration c d) s at (got (Open d) at) (or b (cut x))
  left_out b (miss.Stopped why) w h = absurd (w why refl)
  left_out b miss.Wrong w h = end_behind b no false h
  left_out b miss.Cut w h = end_behind b no true h

-- ---- the run behind `R` is a duration's with a smaller limit

module _ (s : List ℕ) (at : ℕ) where
  -- what some digits are found as, where they may be that number or not
  abbrev told : List ℕ → Bool → Found ℕ
  told d u = of_run d no (pick u (got (number d) (at + length d)) (stop 2))

  pub run_small : (v n : ℕ) (m : Bool) → v ≤ repeat_limit → Says run s at (got v n) m → Says repeat_run s at (got v n) m
  unfolding repeat_run run_as
  run_small v n m few h = let r = go (run_at s at) (at_most limit (number (run_at s at))) h.found h.more in record { found = r.0; more = r.1 }
    where
      go : (d : List ℕ) (u : Bool) → got v n ≡ told d u → m ≡ and (at_the_end s at) u → (got v n ≡ told d (at_most repeat_limit (number d))) × (m ≡ and (at_the_end s at) (at_most repeat_limit (number d)))
      go [] u e g = absurd (no≢got (sym e))
      go (b ∷ d) false e g = absurd (stop≢got (sym e))
      go (b ∷ d) true e g = let small : at_most repeat_limit (number (b ∷ d)) ≡ true = rw (← got_value e) (le-leb v repeat_limit few) in (rw small e, rw small g)

  pub run_large : (v n : ℕ) (m : Bool) → repeat_limit < v → Says run s at (got v n) m → Says repeat_run s at (stop 2) false
  unfolding repeat_run run_as
  run_large v n m many h = let r = go (run_at s at) (at_most limit (number (run_at s at))) h.found in record { found = r.0; more = r.1 }
    where
      go : (d : List ℕ) (u : Bool) → got v n ≡ told d u → (stop 2 ≡ told d (at_most repeat_limit (number d))) × (false ≡ and (at_the_end s at) (at_most repeat_limit (number d)))
      go [] u e = absurd (no≢got (sym e))
      go (b ∷ d) false e = absurd (stop≢got (sym e))
      go (b ∷ d) true e = let big : at_most repeat_limit (number (b ∷ d)) ≡ false = rw (← got_value e) (lt-leb v repeat_limit many) in (rw big, sym (and_right (at_the_end s at) big))

  run_past : (r : ℕ) (m : Bool) → Says run s at (stop r) m → Says repeat_run s at (stop r) false
  unfolding repeat_run run_as
  run_past r m h = let k = go (run_at s at) (at_most limit (number (run_at s at))) refl h.found in record { found = k.0; more = k.1 }
    where
      go : (d : List ℕ) (u : Bool) → at_most limit (number d) ≡ u → stop r ≡ told d u → (stop r ≡ told d (at_most repeat_limit (number d))) × (false ≡ and (at_the_end s at) (at_most repeat_limit (number d)))
      go [] u i e = absurd (no≢stop (sym e))
      go (b ∷ d) true i e = absurd (stop≢got e)
      go (b ∷ d) false i e = let big : at_most repeat_limit (number (b ∷ d)) ≡ false = lt-leb (number (b ∷ d)) repeat_limit (omega (arith, leb-false (number (b ∷ d)) limit i)) in (rw big e, sym (and_right (at_the_end s at) big))

  pub run_none : (m : Bool) → Says run s at no m → Says repeat_run s at no m
  unfolding repeat_run run_as number_from
  run_none m h = let r = go (run_at s at) h.found h.more in record { found = r.0; more = r.1 }
    where
      some : (v k : ℕ) (u : Bool) → no ≡ pick u (got v k) (stop 2) → ⊥
      some v k true e = no≢got e
      some v k false e = no≢stop e

      go : (d : List ℕ) → no ≡ told d (at_most limit (number d)) → m ≡ and (at_the_end s at) (at_most limit (number d)) → (no ≡ told d (at_most repeat_limit (number d))) × (m ≡ and (at_the_end s at) (at_most repeat_limit (number d)))
      go [] e g = (refl, g)
      go (b ∷ d) e g = absurd (some (number (b ∷ d)) _ (at_most limit (number (b ∷ d))) e)

-- where a run is open the input ends behind it
run_past_end : (s : List ℕ) (at n : ℕ) (f : Found ℕ) → place_after at f ≡ n → Says repeat_run s at f true → length s ≤ n
unfolding repeat_run
run_past_end s at n f e h = go (leb at (length s)) refl
  where
    past : (length s ≡ at) ⊎ ((v : ℕ) × (repeat_run.reads s at ≡ got v (length s))) → length s ≤ n
    past (inl here) = let none : f ≡ no = h.found ∙ run_fails number (at_most repeat_limit) 2 s at (omega arith) in omega (arith, rw none at e)
    past (inr (w, i)) = let there : f ≡ got w (length s) = h.found ∙ i in omega (arith, rw there at e)

    go : (t : Bool) → leb at (length s) ≡ t → length s ≤ n
    go true le = past (run_open number (at_most repeat_limit) 2 s at (leb-true at (length s) le) (sym h.more))
    go false le = let none : f ≡ no = h.found ∙ run_fails number (at_most repeat_limit) 2 s at (omega (arith, leb-false at (length s) le)) in omega (arith, leb-false at (length s) le, rw none at e)

-- a run, or none, and the `/` behind it
pub digits_then : (s : List ℕ) (at : ℕ) (f : Found ℕ) (o : Option ℕ) (n : ℕ) (m l : Bool) (g : Found Repetitions) → lack at f ≡ got o n → Says repeat_run s at f m → Says (slashed o) s n g l → Says digits_and_slash s at g l
digits_then s at f o n m l g e h k = go m h
  where
    reached : place_after at f ≡ n
    reached = by f e
      where
        by : (f : Found ℕ) → lack at f ≡ got o n → place_after at f ≡ n
        by no e = got_place e
        by (stop r) e = absurd (stop≢got e)
        by (got v j) e = got_place e

    go : (m : Bool) → Says repeat_run s at f m → Says (seq (opt repeat_run) slashed) s at g l
    go false h = says_seq_got (opt repeat_run) s at slashed o n false g l (rw e at (says_opt repeat_run s at f false h)) k
    go true h =
        let ended : l ≡ true = k.more ∙ map_eager (λ _. times_of o) (lit 47) (lit_eager 47) s n (run_past_end s at n f reached h) in
        rw (ended) (says_seq_got (opt repeat_run) s at slashed o n true g l (rw e at (says_opt repeat_run s at f true h)) k)

pub digits_stop : (s : List ℕ) (at r : ℕ) → Says repeat_run s at (stop r) false → Says digits_and_slash s at (stop r) false
digits_stop s at r h = says_seq_stop (opt repeat_run) s at slashed r false (says_opt repeat_run s at (stop r) false h)

-- nothing has come yet
digits_cut : (s : List ℕ) (at : ℕ) → Says repeat_run s at no true → Says digits_and_slash s at no true
digits_cut s at h =
    let past = run_past_end s at at no refl h in
    digits_then s at no none at true true no refl h (record { found = sym (map_fails _ (lit 47) (lit_fails 47) s at past); more = sym (map_eager (λ _. times_of none) (lit 47) (lit_eager 47) s at past) })

-- a run that is too big, or nothing yet
pub digits_missed : (s : List ℕ) (at : ℕ) (m : Miss) → (m ≡ miss.Wrong → ⊥) → Says run s at (missed m) (cut m) → Says digits_and_slash s at (missed m) (cut m)
digits_missed s at (miss.Stopped why) w h = digits_stop s at (number_of why) (run_past s at (number_of why) false h)
digits_missed s at miss.Wrong w h = absurd (w refl)
digits_missed s at miss.Cut w h = digits_cut s at (run_none s at true h)
