-- What can be left out of an interval: in each side by its own family. A date-time, a duration and the repetitions are tried only where a side
-- begins, and none of them takes a `/`.
use Prim.Native.Nat.{ℕ, zero, suc, ◌+◌, ◌<◌, ◌≤◌}
use mathlib.Core.List.{List, [], ◌∷◌, ◌++◌, append_assoc}
use mathlib.Core.Bool.{Bool, true, false}
use mathlib.Core.Option.{Option, none}
use mathlib.Core.Logic.{◌⊎◌, inl, inr}
use mathlib.Core.Path.{◌≡◌, refl, sym, ap, ◌∙◌}
use native.Mathlib.Nat.{add-zero}
use native.Mathlib.Numerals.{add-one}
use native.Mathlib.Omega.{arith}
use lib.ListN.{length, get_or, take, drop, take-append-drop, length-append, get_or-append}
use lib.Seq.{get_or-drop, length-take-le}
use borrow.Author.Tests.{lt-ltb}
use lib.Dec.{ltb, eqb}
use Rattle.types.specs.declared.Choices.{Choices}
use Rattle.types.specs.declared.DateTime.{DateTime}
use Rattle.types.specs.declared.Date.{Date}
use Rattle.types.specs.declared.IntervalRange.TheVariants as range
use Rattle.types.specs.declared.Repetitions.{Repetitions}
use Rattle.parser.specs.Reading.{no, got, Reader, lit, seq, then, opt, lack, map, map_found, pick, and}
use Rattle.parser.proofs.Fields.{true≢false}
use Rattle.parser.proofs.Places.{no≢got, got_place, from_no, from_stop, made}
use Rattle.parser.proofs.Lawful.{Outside}
use Rattle.date.specs.Rules.{date}
use Rattle.date.proofs.Parts as date-parts
use Rattle.date.proofs.Laws.{date_item}
use Rattle.duration.specs.Rules.{duration}
use Rattle.duration.proofs.Laws as duration-laws
use Rattle.datetime.specs.Rules.{date_time}
use Rattle.interval.proofs.Apart.{item_out}
use Rattle.interval.specs.Rules.{repeat_limit, repeat_run, times_of, or_once, repeated, repetitions, tried, stamp, interval_of}
use Rattle.interval.specs.Followed.{followed}
use Rattle.interval.specs.Once.{after_start, stamp_first, or_open, after_duration, duration_first, range_once, interval_once}
use Rattle.shortening.specs.Sides.{starts_zeros}
use Rattle.shortening.proofs.Cuts.{Cut, kept, Place, before, behind, Simulates, SameAt, simulates_earlier, seq_same, alt_same, map_same, seq_simulates, opt_simulates, map_simulates}
use Rattle.shortening.proofs.Local.{local_behind}
use Rattle.shortening.proofs.Spans.{Stuck, seq_stuck, tried_stuck}
use Rattle.shortening.proofs.Families.{Family, zeros, fractions, ZeroCut, Own, own, unmarked, by_apart}
use Rattle.shortening.proofs.Trims.{Trims, foreign_simulates, lit_simulates, tried_trims}
use Rattle.shortening.proofs.Zeros.{run_simulates}
use Rattle.shortening.proofs.Rules.{duration_trims, datetime_trims, followed_trims}
use Rattle.shortening.proofs.Sides.{by_start, family_in, side_from, begins, inside, Slash, ZeroStart, zero_side_from}

-- ---- at `P` and at `R` no date begins

-- a reader that finds nothing there
abbrev pub NoZeroStart : {A : Type 0} → Reader A → Type 0
NoZeroStart p = (s : List ℕ) (n : ℕ) → starts_zeros (get_or s n 0) ≡ true → Stuck p s n

starts_inside : (s : List ℕ) (n : ℕ) → starts_zeros (get_or s n 0) ≡ true → n < length s
starts_inside s n h = by_start (λ b. get_or s n 0 ≡ b → n < length s) (inside s n 79) (inside s n 81) (get_or s n 0) h refl

no_date : NoZeroStart date
no_date s n h =
    let out = item_out date_item s n (lt-ltb n (length s) (starts_inside s n h)) (by_start (Outside date-parts.bytes) refl refl (get_or s n 0) h) in
    record { reads = sym out.found; opens = λ o. absurd (true≢false (sym o ∙ sym out.more)) }

pub no_stamp : (q : Date → Reader DateTime) → NoZeroStart (tried (seq date q))
no_stamp q s n h = tried_stuck (seq_stuck (no_date s n h) q)

-- ---- read the same from wherever a side begins

abbrev pub FromSides : {A : Type 0} → Cut → Reader A → Type 0
FromSides c p = (m n : ℕ) → Place c m n → begins (kept c) n ≡ true → SameAt c m n p

-- leading zeros are left out where the text says so, fraction digits anywhere
abbrev pub May : Bool → Option Family → Family → List ℕ → Type 0
May sides o zeros u = family_in (side_from sides o u) ≡ zeros
May sides o fractions u = Unit

begins_before : (u y : List ℕ) (n : ℕ) → n ≤ length u → begins (u ++ y) n ≡ true → begins u n ≡ true
begins_before u y zero le h = refl
begins_before u y (suc n) le h = rw (← get_or-append u y 0 n (omega arith)) h

-- a date-time does not see a zero that is left out: a `/` stands before it, or the side is none of its own
module _ {A : Type 0} {w : ℕ} {p : Reader A} (hp : Trims fractions w p) (none_here : NoZeroStart p) where
  zero_carried : (z : ZeroCut) → May true none zeros z.before → (n : ℕ) → n ≤ length z.before → begins z.before n ≡ true → SameAt (own zeros z) n n p
  zero_carried z may n le b = go (zero_side_from z.before n b may)
    where
      u : List ℕ
      u = z.before

      fails : (y : List ℕ) → starts_zeros (get_or u n 0) ≡ true → p.reads (u ++ y) n ≡ no
      fails y h = (none_here (u ++ y) n (rw (get_or-append u y 0 n (starts_inside u n h)) h)).reads

      go : Slash (drop n u) ⊎ ZeroStart (drop n u) → SameAt (own zeros z) n n p
      go (inl x) =
          let v = take n u ++ x.before in
          let is : u ≡ v ++ 47 ∷ x.after = sym (take-append-drop n u) ∙ ap (λ (l : List ℕ). take n u ++ l) x.is ∙ sym (append_assoc (take n u) x.before (47 ∷ x.after)) in
          simulates_earlier (own zeros z) v (47 ∷ x.after) is p (hp.simulates (inr (record { before = v; long = x.after ++ 48 ∷ z.digit ∷ []; short = x.after ++ z.digit ∷ []; rest = z.rest }))) n (omega (arith, length-append (take n u) x.before, length-take-le n u le))
      go (inr x) =
          let here : get_or u n 0 ≡ x.byte = ap (λ (k : ℕ). get_or u k 0) (sym (add-zero n)) ∙ sym (get_or-drop n u 0 0) ∙ ap (λ (l : List ℕ). get_or l 0 0) x.is in
          let starts : starts_zeros (get_or u n 0) ≡ true = rw here x.starts in
          rw (fails (48 ∷ z.digit ∷ z.rest) starts, fails (z.digit ∷ z.rest) starts)

  pub stamp_from_sides : (f : Family) (z : Own f) → May true none f (own f z).before → FromSides (own f z) p
  stamp_from_sides fractions z may m n e b = hp.simulates (inl z) m n e
  stamp_from_sides zeros z may m n (before e le) b = rw e (zero_carried z may n le (begins_before z.before _ n le b))
  stamp_from_sides zeros z may m n (behind k e g) b = rw (e, g) (local_behind (own zeros z) p hp.local k)

-- a duration is read the same from anywhere: it takes no comma or point
pub duration_simulates : (f : Family) (z : Own f) → Simulates (own f z) duration
duration_simulates zeros z = duration_trims.simulates (inl z)
duration_simulates fractions z = foreign_simulates fractions duration duration_trims.local duration-laws.duration_bounded (λ s b y at h. (duration-laws.duration_item_lem).lawful.steady.foreign s b y at (by_apart (Outside duration-laws.bytes) refl refl refl b h)) (inl z)

-- ---- a side begins behind each `/`

abbrev EndsAtSide : {A : Type 0} → Reader A → Type 0
EndsAtSide {A} p = (s : List ℕ) (at : ℕ) (a : A) (n : ℕ) → p.reads s at ≡ got a n → begins s n ≡ true

pub slash_side : EndsAtSide (lit 47)
unfolding lit
slash_side s at a n e = go tt a (ltb at (length s)) (eqb (get_or s at 0) 47) refl e
  where
    go : {A : Type 0} (v b : A) (t u : Bool) → eqb (get_or s at 0) 47 ≡ u → pick (and t u) (got v (at + 1)) no ≡ got b n → begins s n ≡ true
    go v b true true h e = let here = got_place e in rw (← here, add-one at) h
    go v b true false h e = absurd (no≢got e)
    go v b false u h e = absurd (no≢got e)

seq_side : {A B : Type 0} (p : Reader A) (q : A → Reader B) → ((a : A) → EndsAtSide (q a)) → EndsAtSide (seq p q)
unfolding seq
seq_side p q hq s at b n = made p (λ f. then f (λ a m. (q a).reads s m)) s at from_no (λ _ _. from_stop) (λ a m ef. hq a s m b n)

map_side : {A B : Type 0} (f : A → B) (p : Reader A) → EndsAtSide p → EndsAtSide (map f p)
unfolding map
map_side f p hp s at b n = made p (map_found f) s at from_no (λ _ _. from_stop) (λ a m ef e. let here = got_place e in rw (← here) (hp s at a m ef))

opt_side : {A : Type 0} (p : Reader A) → EndsAtSide p → (s : List ℕ) (at : ℕ) → begins s at ≡ true → (o : Option A) (n : ℕ) → (opt p).reads s at ≡ got o n → begins s n ≡ true
unfolding opt
opt_side p hp s at b o n = made p (lack at) s at (λ e. let here = got_place e in rw (← here) b) (λ _ _. from_stop) (λ a m ef e. let here = got_place e in rw (← here) (hp s at a m ef))

repeated_side : EndsAtSide repeated
unfolding repeated
repeated_side = seq_side (lit 82) _ (λ _. seq_side (opt repeat_run) _ (λ n. map_side (λ _. times_of n) (lit 47) slash_side))

repetitions_side : (s : List ℕ) (at : ℕ) → begins s at ≡ true → (r : Repetitions) (n : ℕ) → repetitions.reads s at ≡ got r n → begins s n ≡ true
unfolding repetitions map
repetitions_side s at b r n = made (opt repeated) (map_found or_once) s at from_no (λ _ _. from_stop) (λ o m ef e. let here = got_place e in rw (← here) (opt_side repeated repeated_side s at b o m ef))

-- ---- so an interval is read the same

module _ (f : Family) (z : Own f) where
  slash_same : Simulates (own f z) (lit 47)
  slash_same = lit_simulates f 47 (unmarked 47 refl refl f) z

  repetitions_same : Simulates (own f z) repetitions
  unfolding repetitions repeated repeat_run
  repetitions_same = map_simulates c or_once (opt repeated) (opt_simulates c repeated (seq_simulates c (lit 82) _ (lit_simulates f 82 (unmarked 82 refl refl f) z) (λ _. seq_simulates c (opt repeat_run) _ (opt_simulates c repeat_run (run_simulates f repeat_limit (inl z))) (λ n. map_simulates c (λ _. times_of n) (lit 47) slash_same))))
    where
      c : Cut
      c = own f z

  -- a `/` and what is read from where a side begins
  slashed : {A : Type 0} (q : Reader A) → FromSides (own f z) q → Simulates (own f z) (seq (lit 47) (λ _. q))
  slashed q hq m n e = seq_same (own f z) m n (lit 47) (λ _. q) (slash_same m n e) (λ a k l g p. hq k l p (slash_side (kept (own f z)) n a l g))

  module _ (ch : Choices) (may : May true none f (own f z).before) where
    stamp_same : FromSides (own f z) (stamp ch)
    unfolding stamp date_time
    stamp_same = stamp_from_sides (tried_trims (datetime_trims ch)) (no_stamp _) f z may

    followed_same : FromSides (own f z) (tried (followed ch))
    unfolding followed
    followed_same = stamp_from_sides (tried_trims (followed_trims ch)) (no_stamp _) f z may

    after_start_same : (a : DateTime) → FromSides (own f z) (after_start ch a)
    unfolding after_start
    after_start_same a m n e b = alt_same (own f z) m n (map (range.Closed a) (stamp ch)) (map (range.ClosedStart a) duration) (map_same (own f z) m n (range.Closed a) (stamp ch) (stamp_same m n e b)) (map_same (own f z) m n (range.ClosedStart a) duration (duration_simulates f z m n e))

    stamp_first_same : FromSides (own f z) (stamp_first ch)
    unfolding stamp_first
    stamp_first_same m n e b = seq_same (own f z) m n (tried (followed ch)) _ (followed_same m n e b) (λ a k l _. slashed (after_start ch a) (after_start_same a) k l)

    duration_first_same : Simulates (own f z) (duration_first ch)
    unfolding duration_first after_duration
    duration_first_same = seq_simulates (own f z) duration (after_duration ch) (duration_simulates f z) (λ d. map_simulates (own f z) (or_open d) _ (opt_simulates (own f z) _ (slashed (stamp ch) stamp_same)))

    range_same : FromSides (own f z) (range_once ch)
    unfolding range_once
    range_same m n e b = alt_same (own f z) m n (stamp_first ch) (duration_first ch) (stamp_first_same m n e b) (duration_first_same m n e)

    pub interval_same : FromSides (own f z) (interval_once ch)
    unfolding interval_once
    interval_same m n e b = seq_same (own f z) m n repetitions _ (repetitions_same m n e) (λ r k l g p. map_same (own f z) k l (interval_of r) (range_once ch) (range_same k l p (repetitions_side (kept (own f z)) n b r l g)))
