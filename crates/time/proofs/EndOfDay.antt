-- Behind the hour that ends the day the rule reads as behind any other hour, or stops the reading; and where it is open it has a value now.
-- So where it is open, a few bytes more are read to the last one or stop the reading.
use Prim.Native.Nat.{ℕ}
use mathlib.Core.List.{List}
use mathlib.Core.Bool.{Bool, true, false}
use mathlib.Core.Option.{Option, some, none}
use mathlib.Core.Path.{◌≡◌, refl, sym, ◌∙◌}
use native.Mathlib.Omega.{arith}
use lib.Dec.{leb, eqb}
use Rattle.types.specs.declared.Fraction.{Fraction}
use Rattle.types.specs.declared.Reading.{Reading}
use Rattle.types.specs.declared.Reading.TheVariants.{Old, Standard}
use Rattle.parser.specs.Reading.{Found, no, got, stop, Reader, seq, after, opt, lack, alt, or_else, failed, must, map, map_found, or, and}
use Rattle.parser.specs.Digits.{field, reach, lowest, highest, at_most, fraction_of}
use Rattle.parser.specs.Fields.{minute, second, preceded_by, or_zero}
use Rattle.parser.proofs.Fields.{true≢false}
use Rattle.parser.proofs.Places.{no≢stop, stop≢got}
use Rattle.parser.proofs.Leaves.{field_definite}
use Rattle.parser.proofs.General.{field_eager}
use Rattle.parser.proofs.Stricter.{Stricter, same_stricter, must_stricter, run_stricter, map_stricter, opt_stricter, alt_stricter, seq_stricter, Valued}
use Rattle.parser.proofs.Stops.{field_stops}
use Rattle.parser.proofs.Unstopped.{run_unstopped, Awaits, definite_awaits, must_awaits, preceded_awaits}
use Rattle.offset.specs.Rules.{offset}
use Rattle.offset.proofs.Laws.{offset_unstopped}
use Rattle.time.specs.declared.Clock.{Clock}
use Rattle.time.specs.declared.TimeUnit.{TimeUnit}
use Rattle.time.specs.declared.TimeUnit.TheVariants.{Hour}
use Rattle.time.specs.Rules.{or_whole, unit_of, clock_of, time_of, zero_if, fraction_if, time_fraction, millisecond, second_millisecond, minute_second_millisecond, behind_hour, time_offset, after_hour}
use Rattle.time.proofs.Unmarked.{mark, mark_at_end, mark_fails, zero_no_mark, no_fraction, minute_no_mark}

-- ---- stricter than behind any other hour

zero_stricter : (p : Reader ℕ) → Stricter (zero_if true p) p
zero_stricter p = must_stricter (λ v. eqb v 0) 1 p

point_stricter : (u : TimeUnit) (mi se : ℕ) → Stricter (time_fraction u true mi se) (time_fraction u false mi se)
unfolding time_fraction
point_stricter u mi se = map_stricter _ (seq_stricter same_stricter (λ _. run_stricter fraction_of (at_most 0) 1 1))

minute_stricter : (r : Reading) → Stricter (minute_second_millisecond r true) (minute_second_millisecond r false)
unfolding minute_second_millisecond second_millisecond millisecond
minute_stricter r =
    seq_stricter (seq_stricter same_stricter (λ _. zero_stricter minute)) (λ mi.
    seq_stricter (opt_stricter (seq_stricter same_stricter (λ _. zero_stricter second))) (λ se.
    map_stricter _ (opt_stricter (point_stricter (unit_of r se) mi (or_zero se)))))

behind_stricter : (r : Reading) → Stricter (behind_hour r true) (behind_hour r false)
unfolding behind_hour
behind_stricter Old = minute_stricter Old
behind_stricter Standard = alt_stricter (minute_stricter Standard) (point_stricter Hour 0 0)

pub after_hour_stricter : (r : Reading) (h : ℕ) → Stricter (after_hour r true h) (after_hour r false h)
unfolding after_hour
after_hour_stricter r h = seq_stricter (opt_stricter (behind_stricter r)) (λ c. same_stricter)

-- ---- a minute or a second that is open is not read yet

abbrev pub zero_field : ℕ → Reader ℕ
zero_field hi = preceded_by 58 (zero_if true (field 2 0 hi))

zero_awaits : (hi : ℕ) → leb 0 hi ≡ true → Awaits (zero_field hi)
unfolding must reach lowest highest
zero_awaits hi h = preceded_awaits 58 (field_eager 2 0 hi (omega arith) (rw h)) (must_awaits _ 1 (definite_awaits (field_definite 2 0 hi) (field_stops 2 0 hi)))

-- ---- an optional item that does not stop has a value

opt_valued : {A : Type 0} (p : Reader A) (s : List ℕ) (at : ℕ) → ((r : ℕ) → p.reads s at ≡ stop r → ⊥) → Valued (opt p) s at
unfolding opt
opt_valued {A} p s at u = go (p.reads s at) refl
  where
    go : (f : Found A) → p.reads s at ≡ f → Valued (opt p) s at
    go no ef = (none, (at, rw ef))
    go (stop r) ef = absurd (u r ef)
    go (got a n) ef = (some a, (n, rw ef))

map_valued : {A B : Type 0} (f : A → B) (p : Reader A) (s : List ℕ) (at : ℕ) → Valued p s at → Valued (map f p) s at
unfolding map
map_valued f p s at v = (f v.0, (v.1.0, rw v.1.1))

-- ---- the fraction

point_open : (u : TimeUnit) (mi se : ℕ) (s : List ℕ) (at r : ℕ) → (time_fraction u true mi se).more s at ≡ true → (time_fraction u true mi se).reads s at ≡ stop r → ⊥
unfolding time_fraction map seq
point_open u mi se s at r h e = go (mark.more s at) refl (mark.reads s at) refl h
  where
    digits : (n : ℕ) (f : Found Fraction) → (fraction_if true).reads s n ≡ f → (fraction_if true).more s n ≡ true → map_found (clock_of u mi se) f ≡ stop r → ⊥
    digits n no ef h e = no≢stop e
    digits n (stop q) ef h e = run_unstopped fraction_of (at_most 0) 1 s n q h ef
    digits n (got a k) ef h e = stop≢got (sym e)

    go : (m : Bool) → mark.more s at ≡ m → (f : Found Unit) → mark.reads s at ≡ f → or m (after f (λ _ n. (fraction_if true).more s n)) ≡ true → ⊥
    go true em f ef h = no≢stop (rw (mark_fails s at (mark_at_end s at em)) at e)
    go false em no ef h = true≢false (sym h)
    go false em (stop q) ef h = true≢false (sym h)
    go false em (got x n) ef h = digits n ((fraction_if true).reads s n) refl h (rw ef at e)

millisecond_valued : (u : TimeUnit) (mi se : ℕ) (s : List ℕ) (at : ℕ) → ((r : ℕ) → (time_fraction u true mi se).reads s at ≡ stop r → ⊥) → Valued (millisecond u true mi se) s at
unfolding millisecond
millisecond_valued u mi se s at h = map_valued (or_whole mi se) (opt (time_fraction u true mi se)) s at (opt_valued (time_fraction u true mi se) s at h)

-- ---- the second

second_valued : (r : Reading) (mi : ℕ) (s : List ℕ) (at : ℕ) → (second_millisecond r true mi).more s at ≡ true → Valued (second_millisecond r true mi) s at
unfolding second_millisecond millisecond map seq opt
second_valued r mi s at h = go ((zero_field 60).more s at) refl ((zero_field 60).reads s at) refl h
  where
    on : (o : Option ℕ) (n : ℕ) → (opt (zero_field 60)).reads s at ≡ got o n → ((q : ℕ) → (time_fraction (unit_of r o) true mi (or_zero o)).reads s n ≡ stop q → ⊥) → Valued (second_millisecond r true mi) s at
    on o n e h = let v = millisecond_valued (unit_of r o) mi (or_zero o) s n h in (v.0, (v.1.0, rw (e, v.1.1)))

    go : (m : Bool) → (zero_field 60).more s at ≡ m → (f : Found ℕ) → (zero_field 60).reads s at ≡ f → or m (after (lack at f) (λ o n. (millisecond (unit_of r o) true mi (or_zero o)).more s n)) ≡ true → Valued (second_millisecond r true mi) s at
    go true em f ef h = on none at (rw ((zero_awaits 60 refl).none s at em)) (λ q e. no≢stop (sym (no_fraction (unit_of r none) true mi 0 s at (zero_no_mark true 60 s at em)) ∙ e))
    go false em no ef h = on none at (rw ef) (λ q e. point_open (unit_of r none) mi 0 s at q h e)
    go false em (stop q) ef h = absurd (true≢false (sym h))
    go false em (got a n) ef h = on (some a) n (rw ef) (λ q e. point_open (unit_of r (some a)) mi a s n q h e)

-- ---- the minute, and all of it

minute_open : (r : Reading) (s : List ℕ) (at q : ℕ) → (minute_second_millisecond r true).more s at ≡ true → (minute_second_millisecond r true).reads s at ≡ stop q → ⊥
unfolding minute_second_millisecond seq
minute_open r s at q h e = go ((zero_field 59).more s at) refl ((zero_field 59).reads s at) refl h
  where
    go : (m : Bool) → (zero_field 59).more s at ≡ m → (f : Found ℕ) → (zero_field 59).reads s at ≡ f → or m (after f (λ mi n. (second_millisecond r true mi).more s n)) ≡ true → ⊥
    go true em f ef h = no≢stop (rw ((zero_awaits 59 refl).none s at em) at e)
    go false em no ef h = true≢false (sym h)
    go false em (stop q) ef h = true≢false (sym h)
    go false em (got mi n) ef h = let v = second_valued r mi s n h in stop≢got (sym (rw (ef, v.1.1) at e))

behind_open : (r : Reading) (s : List ℕ) (at q : ℕ) → (behind_hour r true).more s at ≡ true → (behind_hour r true).reads s at ≡ stop q → ⊥
unfolding behind_hour alt
behind_open Old s at q h e = minute_open Old s at q h e
behind_open Standard s at q h e = go (minutes.more s at) refl (minutes.reads s at) refl h e
  where
    minutes : Reader Clock
    minutes = minute_second_millisecond Standard true

    go : (m : Bool) → minutes.more s at ≡ m → (f : Found Clock) → minutes.reads s at ≡ f → or m (and (failed f) ((time_fraction Hour true 0 0).more s at)) ≡ true → or_else f ((time_fraction Hour true 0 0).reads s at) ≡ stop q → ⊥
    go true em no ef h e = no≢stop (rw (no_fraction Hour true 0 0 s at (minute_no_mark Standard true s at em ef)) at e)
    go false em no ef h e = point_open Hour 0 0 s at q h e
    go true em (stop x) ef h e = minute_open Standard s at x em ef
    go false em (stop x) ef h e = true≢false (sym h)
    go m em (got c n) ef h e = stop≢got (sym e)

pub after_hour_valued : (r : Reading) (h : ℕ) (s : List ℕ) (at : ℕ) → (after_hour r true h).more s at ≡ true → Valued (after_hour r true h) s at
unfolding after_hour time_offset seq opt
after_hour_valued r h s at o = go ((behind_hour r true).more s at) refl ((behind_hour r true).reads s at) refl o
  where
    zone : (c : Clock) (n : ℕ) → Valued (time_offset h c) s n
    zone c n = map_valued (time_of h c) (opt offset) s n (opt_valued offset s n (λ r e. offset_unstopped.by s n r e))

    on : Valued (opt (behind_hour r true)) s at → Valued (after_hour r true h) s at
    on v = let w = zone (or_whole 0 0 v.0) v.1.0 in (w.0, (w.1.0, rw (v.1.1, w.1.1)))

    go : (m : Bool) → (behind_hour r true).more s at ≡ m → (f : Found Clock) → (behind_hour r true).reads s at ≡ f → or m (after (lack at f) (λ c n. (time_offset h (or_whole 0 0 c)).more s n)) ≡ true → Valued (after_hour r true h) s at
    go true em f ef o = on (opt_valued (behind_hour r true) s at (λ q e. behind_open r s at q em e))
    go false em no ef o = on (opt_valued (behind_hour r true) s at (λ q e. no≢stop (sym ef ∙ e)))
    go false em (stop q) ef o = absurd (true≢false (sym o))
    go false em (got c n) ef o = on (opt_valued (behind_hour r true) s at (λ q e. stop≢got (sym e ∙ ef)))
