-- What code says of an interval, by what it says of the repeat and of the sides.
use Prim.Native.Nat.{ℕ}
use mathlib.Core.List.{List}
use mathlib.Core.Bool.{Bool, true, false}
use mathlib.Core.Option.{Option, none}
use mathlib.Core.Path.{◌≡◌, refl, sym, ◌∙◌}
use lib.Dec.{ltb, eqb}
use lib.ListN.{length, get_or}
use borrow.Author.Tests.{ltb-false, eqb-true}
use Rattle.types.specs.Numbers.{number_of}
use Rattle.types.specs.declared.Choices.{Choices}
use Rattle.types.specs.declared.Interval.{Interval}
use Rattle.types.specs.declared.Repetitions.{Repetitions}
use Rattle.parser.specs.Reading.{Found, no, got, stop, Reader, lit, seq, opt, lack, map, or, Says}
use Rattle.parser.specs.Read.{missed, cut}
use Rattle.parser.specs.declared.Miss.{Miss}
use Rattle.parser.specs.declared.Miss.TheVariants as miss
use Rattle.parser.proofs.Fields.{true≢false}
use Rattle.parser.proofs.Alike.{alike_says}
use Rattle.parser.proofs.Says.{says_map, says_opt, says_seq_got, says_seq_no, says_seq_stop, says_alt_no}
use Rattle.duration.specs.Rules.{duration}
use Rattle.interval.specs.Rules.{digits_and_slash, repeated, or_once, repetitions, tried, interval_of}
use Rattle.interval.specs.Followed.{followed}
use Rattle.interval.specs.Once.{after_start, stamp_first, after_duration, duration_first, range_once, interval_once, interval}
use Rattle.interval.proofs.Apart.{Out, lit_out, tried_out, followed_out, duration_out}
use Rattle.interval.proofs.Alternatives.{interval_alike}
use Rattle.interval.proofs.Laws.{range_item}

module _ (c : Choices) (s : List ℕ) (at : ℕ) where
  abbrev ranged : Repetitions → Reader Interval
  ranged r = map (interval_of r) (range_once c)

  -- a repeat, or none, and the sides
  pub with_repeat : (f : Found Repetitions) (o : Option Repetitions) (n : ℕ) (m l : Bool) (g : Found Interval) → lack at f ≡ got o n → Says repeated s at f m → Says (ranged (or_once o)) s n g l → Says (interval c) s at g (or m l)
  unfolding interval_once repetitions
  with_repeat f o n m l g e h k = alike_says (interval c) (interval_once c) (interval_alike c) s at g (or m l) (says_seq_got repetitions s at ranged (or_once o) n m g l (says_map (opt repeated) s at or_once (got o n) m (rw e at (says_opt repeated s at f m h))) k)

  repeat_stop : (r : ℕ) → Says repeated s at (stop r) false → Says (interval c) s at (stop r) false
  unfolding interval_once repetitions
  repeat_stop r h = alike_says (interval c) (interval_once c) (interval_alike c) s at (stop r) false (says_seq_stop repetitions s at ranged r false (says_map (opt repeated) s at or_once (stop r) false (says_opt repeated s at (stop r) false h)))

  -- where a repeat is open the input has ended, or `R` stands there, with which no side begins
  r_out : ltb at (length s) ≡ true → get_or s at 0 ≡ 82 → Out (range_once c) s at
  unfolding range_once stamp_first duration_first
  r_out i e =
      says_alt_no (stamp_first c) s at (duration_first c) false no false
      (says_seq_no (tried (followed c)) s at (λ x. seq (lit 47) (λ _. after_start c x)) false (tried_out (followed_out s at i (rw e) c)))
      (says_seq_no duration s at (after_duration c) false (duration_out s at i (rw e)))

  no_side_lem : Says repeated s at no true → (range_once c).reads s at ≡ no
  unfolding repeated
  no_side_lem h = go (ltb at (length s)) refl (eqb (get_or s at 0) 82) refl
    where
      go : (t : Bool) → ltb at (length s) ≡ t → (u : Bool) → eqb (get_or s at 0) 82 ≡ u → (range_once c).reads s at ≡ no
      go false i u e = (range_item c).fails s at (ltb-false at (length s) i)
      go true i true e = sym (r_out i (eqb-true (get_or s at 0) 82 e)).found
      go true i false e = absurd (true≢false (h.more ∙ sym (says_seq_no (lit 82) s at (λ _. digits_and_slash) false (lit_out 82 s at i e)).more))

  repeat_cut : Says repeated s at no true → Says (interval c) s at no true
  repeat_cut h = with_repeat no none at true _ no refl h (says_map (range_once c) s at (interval_of (or_once none)) no _ (record { found = sym (no_side_lem h); more = refl }))

  -- a repeat whose number is too big, or one that has not come yet
  pub repeat_missed : (m : Miss) → (m ≡ miss.Wrong → ⊥) → Says repeated s at (missed m) (cut m) → Says (interval c) s at (missed m) (cut m)
  repeat_missed (miss.Stopped why) w h = repeat_stop (number_of why) h
  repeat_missed miss.Wrong w h = absurd (w refl)
  repeat_missed miss.Cut w h = repeat_cut h
