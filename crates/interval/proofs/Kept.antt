-- Behind the hour that ends the day, where 00 alone is read: what is held leaves nothing open.
use Prim.Native.Nat.{ℕ}
use mathlib.Core.List.{List}
use mathlib.Core.Bool.{Bool, true, false}
use mathlib.Core.Option.{Option, some, none}
use mathlib.Core.Path.{◌≡◌, refl, sym, ◌∙◌}
use lib.ListN.{length}
use lib.Dec.{eqb}
use borrow.Author.Tests.{ltb-true}
use Rattle.types.specs.declared.Offset.{Offset}
use Rattle.types.specs.declared.Fraction.{Fraction}
use Rattle.types.specs.declared.Reading.{Reading}
use Rattle.types.specs.declared.Reading.TheVariants.{Old, Standard}
use Rattle.types.specs.declared.Time.{Time}
use Rattle.parser.specs.Reading.{Found, no, got, stop, Reader, seq, then, opt, lack, alt, or_else, map, map_found, Says}
use Rattle.parser.specs.Digits.{field, run_as, fraction_of}
use Rattle.parser.specs.Fields.{or_zero}
use Rattle.parser.proofs.Fields.{true≢false, and_second}
use Rattle.parser.proofs.Places.{from_no, from_stop, got_place, got_value, made, run_found_lem}
use Rattle.parser.proofs.Runs.{end_is_not}
use Rattle.parser.proofs.Hopeful.{Definite, at_end_definite}
use Rattle.parser.proofs.Leaves.{field_definite}
use Rattle.parser.proofs.General.{preceded_same}
use Rattle.parser.proofs.Says.{says_seq_no, says_alt_no}
use Rattle.offset.specs.Rules.{offset}
use Rattle.time.specs.declared.Clock.{Clock}
use Rattle.time.specs.declared.TimeUnit.{TimeUnit}
use Rattle.time.specs.declared.TimeUnit.TheVariants.{Hour}
use Rattle.time.specs.Rules.{numbers_if, fraction_if, or_whole, unit_of, clock_of, time_of, time_fraction, millisecond, time_offset}
use Rattle.time.proofs.Unmarked.{mark, mark_at_end, mark_fails}
use Rattle.interval.specs.Followed.{zeros, zero_minute, zero_behind, zero_tail, held_at, held_time}
use Rattle.interval.proofs.Shut.{shut_fraction, shut_offset, held_shut, zero_field_eager, held_zeros, marked_zeros}

-- what is found and held is settled
abbrev pub Kept : {A : Type 0} → (A → ℕ → Bool) → List ℕ → Reader A → ℕ → Type 0
Kept {A} held s q at = (a : A) (n : ℕ) → q.reads s at ≡ got a n → held a n ≡ true → q.more s at ≡ false

-- two zeros that are read leave nothing open
pub zeros_definite : Definite zeros
zeros_definite s at a n e = let i = preceded_same 58 (field 2 0 0) zero_field_eager s at _ refl in i.more ∙ field_definite 2 0 0 s _ a n (sym i.reads ∙ e)

-- a sequence whose parts are settled
seq_kept : {A B : Type 0} {held : B → ℕ → Bool} {s : List ℕ} {at : ℕ} (p : Reader A) (f : A → Reader B) → ((a : A) (m : ℕ) (b : B) (n : ℕ) → p.reads s at ≡ got a m → (f a).reads s m ≡ got b n → held b n ≡ true → (p.more s at ≡ false) × ((f a).more s m ≡ false)) → Kept held s (seq p f) at
unfolding seq
seq_kept {s = s} {at = at} p f parts b n e h = made p (λ x. then x (λ a m. (f a).reads s m)) s at from_no (λ _ _. from_stop) (λ a m ea eb. let k = parts a m b n ea eb h in rw (k.0, ea, k.1)) e

-- an optional part, left out or read, and what follows it
opt_then_kept : {A B : Type 0} {held : B → ℕ → Bool} {s : List ℕ} {at : ℕ} (p : Reader A) (k : Option A → Reader B) → ((b : B) (n : ℕ) → (k none).reads s at ≡ got b n → held b n ≡ true → p.more s at ≡ false) → ((a : A) (m : ℕ) (b : B) (n : ℕ) → p.reads s at ≡ got a m → (k (some a)).reads s m ≡ got b n → held b n ≡ true → p.more s at ≡ false) → ((o : Option A) (m : ℕ) (b : B) (n : ℕ) → (k o).reads s m ≡ got b n → held b n ≡ true → (k o).more s m ≡ false) → Kept held s (seq (opt p) k) at
unfolding opt seq
opt_then_kept {A} {B} {held} {s} {at} p k left read rest b n e h = go (p.reads s at) refl e
  where
    go : (f : Found A) → p.reads s at ≡ f → then (lack at f) (λ o m. (k o).reads s m) ≡ got b n → (seq (opt p) k).more s at ≡ false
    go no ef e = rw (left b n e h, ef, rest none at b n e h)
    go (stop r) ef e = from_stop e
    go (got a m) ef e = rw (read a m b n ef e h, ef, rest (some a) m b n e h)

-- a fraction that a byte follows
fraction_kept : (u : TimeUnit) (z : Bool) (mi se : ℕ) (s : List ℕ) (at : ℕ) → Kept (λ _. held_at s) s (time_fraction u z mi se) at
unfolding time_fraction map run_as
fraction_kept u z mi se s at c n e h = made (seq mark (λ _. fraction_if z)) (map_found (clock_of u mi se)) s at from_no (λ _ _. from_stop) (λ d k ed ec. seq_kept {held = λ _. held_at s} mark (λ _. fraction_if z) parts d k ed (rw (got_place ec) h)) e
  where
    parts : (x : Unit) (m : ℕ) (d : Fraction) (k : ℕ) → mark.reads s at ≡ got x m → (fraction_if z).reads s m ≡ got d k → held_at s k ≡ true → (mark.more s at ≡ false) × ((fraction_if z).more s m ≡ false)
    parts x m d k ex ed h =
        let place = (run_found_lem fraction_of (numbers_if z) 1 s m d k ed).place in
        (at_end_definite mark mark_at_end mark_fails s at x m ex, rw (end_is_not s m k (sym place) (ltb-true k (length s) (held_shut s k h).inside)))

-- a comma or a point stands before it
fraction_marked : (u : TimeUnit) (z : Bool) (mi se : ℕ) (s : List ℕ) (at : ℕ) (c : Clock) (n : ℕ) → (time_fraction u z mi se).reads s at ≡ got c n → Says zeros s at no false
unfolding time_fraction map seq
fraction_marked u z mi se s at c n = made (seq mark (λ _. fraction_if z)) (map_found (clock_of u mi se)) s at from_no (λ _ _. from_stop) (λ d k ed _. made mark (λ f. then f (λ _ m. (fraction_if z).reads s m)) s at from_no (λ _ _. from_stop) (λ x m ex _. marked_zeros s at x m ex) ed)

-- so with it or without it no second in front is open
millisecond_kept : (u : TimeUnit) (z : Bool) (mi se : ℕ) (s : List ℕ) (at : ℕ) (c : Clock) (n : ℕ) → (millisecond u z mi se).reads s at ≡ got c n → held_at s n ≡ true → (zeros.more s at ≡ false) × ((millisecond u z mi se).more s at ≡ false)
unfolding millisecond map opt
millisecond_kept u z mi se s at c n e h = go ((time_fraction u z mi se).reads s at) refl e
  where
    go : (f : Found Clock) → (time_fraction u z mi se).reads s at ≡ f → map_found (or_whole mi se) (lack at f) ≡ got c n → (zeros.more s at ≡ false) × ((time_fraction u z mi se).more s at ≡ false)
    go no ef e =
        let here : held_at s at ≡ true = rw (got_place e) h in
        (sym (held_zeros s at here).more, sym (shut_fraction (held_shut s at here) u z mi se).more)
    go (stop r) ef e = from_stop e
    go (got d k) ef e = (sym (fraction_marked u z mi se s at d k ef).more, fraction_kept u z mi se s at d k ef (rw (got_place e) h))

second_kept : (r : Reading) (mi : ℕ) (s : List ℕ) (at : ℕ) → Kept (λ _. held_at s) s (seq (opt zeros) (λ se. millisecond (unit_of r se) true mi (or_zero se))) at
second_kept r mi s at =
    opt_then_kept zeros (λ se. millisecond (unit_of r se) true mi (or_zero se))
    (λ c n e h. (millisecond_kept (unit_of r none) true mi 0 s at c n e h).0)
    (λ se m c n e _ _. zeros_definite s at se m e)
    (λ se m c n e h. (millisecond_kept (unit_of r se) true mi (or_zero se) s m c n e h).1)

minute_kept : (r : Reading) (s : List ℕ) (at : ℕ) → Kept (λ _. held_at s) s (zero_minute r) at
unfolding zero_minute
minute_kept r s at = seq_kept zeros _ (λ mi m c n e i h. (zeros_definite s at mi m e, second_kept r mi s m c n i h))

-- no minute is read where no two zeros are
minute_no : (r : Reading) (s : List ℕ) (at : ℕ) → Says zeros s at no false → Says (zero_minute r) s at no false
unfolding zero_minute
minute_no r s at h = says_seq_no zeros s at _ false h

behind_kept : (r : Reading) (s : List ℕ) (at : ℕ) → Kept (λ _. held_at s) s (zero_behind r) at
unfolding zero_behind alt
behind_kept Old s at c n e h = minute_kept Old s at c n e h
behind_kept Standard s at c n e h = go ((zero_minute Standard).reads s at) refl e
  where
    go : (f : Found Clock) → (zero_minute Standard).reads s at ≡ f → or_else f ((time_fraction Hour true 0 0).reads s at) ≡ got c n → (zero_behind Standard).more s at ≡ false
    go no ef e = rw (← (minute_no Standard s at (fraction_marked Hour true 0 0 s at c n e)).more, ef, fraction_kept Hour true 0 0 s at c n e h)
    go (stop r) ef e = from_stop e
    go (got d k) ef e = rw (minute_kept Standard s at c n (ef ∙ e) h, ef)

-- nothing is read at what is held
behind_no : (r : Reading) (s : List ℕ) (at : ℕ) → held_at s at ≡ true → Says (zero_behind r) s at no false
unfolding zero_behind
behind_no Old s at h = minute_no Old s at (held_zeros s at h)
behind_no Standard s at h = says_alt_no (zero_minute Standard) s at (time_fraction Hour true 0 0) false no false (minute_no Standard s at (held_zeros s at h)) (shut_fraction (held_shut s at h) Hour true 0 0)

-- ---- with no offset behind it

no_offset_lem : (hour : ℕ) (k : Clock) (s : List ℕ) (at : ℕ) (t : Time) (n : ℕ) → (time_offset hour k).reads s at ≡ got t n → held_time s t n ≡ true → held_at s at ≡ true
unfolding time_offset map opt
no_offset_lem hour k s at t n e h = go (offset.reads s at) e
  where
    go : (f : Found Offset) → map_found (time_of hour k) (lack at f) ≡ got t n → held_at s at ≡ true
    go no e = rw (got_place e) (and_second (eqb hour 24) (rw (← got_value e) at h))
    go (stop r) e = from_stop e
    go (got o m) e = absurd (true≢false (sym (and_second (eqb hour 24) (rw (← got_value e) at h))))

pub tail_kept : (r : Reading) (hour : ℕ) (s : List ℕ) (at : ℕ) → Kept (held_time s) s (zero_tail r hour) at
unfolding zero_tail
tail_kept r hour s at =
    opt_then_kept (zero_behind r) (λ c. time_offset hour (or_whole 0 0 c))
    (λ t n e h. sym (behind_no r s at (no_offset_lem hour (or_whole 0 0 none) s at t n e h)).more)
    (λ c m t n i e h. behind_kept r s at c m i (no_offset_lem hour c s m t n e h))
    (λ c m t n e h. sym (shut_offset (held_shut s m (no_offset_lem hour (or_whole 0 0 c) s m t n e h)) hour (or_whole 0 0 c)).more)
