-- The rule of date-times beside that of a date-time that something must follow: they read alike, or the one stops the reading or is open where
-- the other is settled, with a value that no `/` follows.
use Prim.Native.Nat.{ℕ}
use mathlib.Core.List.{List}
use mathlib.Core.Bool.{Bool, true, false}
use mathlib.Core.Option.{none}
use mathlib.Core.Path.{◌≡◌, refl, sym, ap, ◌∙◌}
use mathlib.Core.Logic.{◌⊎◌, inl, inr}
use native.Mathlib.Omega.{arith}
use lib.Dec.{eqb}
use borrow.Author.Tests.{eqb-true, ne_eqb}
use Rattle.types.specs.declared.Choices.{Choices}
use Rattle.types.specs.declared.Date.{Date}
use Rattle.types.specs.declared.Edition.{Edition}
use Rattle.types.specs.declared.Edition.TheVariants.{E2004, E2019}
use Rattle.types.specs.declared.Reading.{Reading}
use Rattle.types.specs.declared.Reading.TheVariants.{Old, Standard}
use Rattle.types.specs.declared.Time.{Time}
use Rattle.parser.specs.Reading.{Found, no, got, stop, Reader, lit, seq, then, opt, map, map_found}
use Rattle.parser.specs.Fields.{or_zero}
use Rattle.parser.proofs.Fields.{true≢false}
use Rattle.parser.proofs.Places.{from_no, from_stop, no≢stop, got_place, got_value, made}
use Rattle.parser.proofs.Hopeful.{Definite}
use Rattle.parser.proofs.Leaves.{lit_definite, field_definite, field_within}
use Rattle.offset.specs.Rules.{offset}
use Rattle.time.specs.declared.TimeUnit.TheVariants.{Hour}
use Rattle.time.specs.Rules.{hour_of, ends_day, whole_clock, or_whole, unit_of, time_of, time_fraction, millisecond, second_millisecond, minute_second_millisecond, behind_hour, time_offset, after_hour, base_time}
use Rattle.date.specs.Rules.{date}
use Rattle.datetime.specs.Rules as datetime
use Rattle.datetime.proofs.Laws.{open_date}
use Rattle.interval.specs.Followed.{zeros, zero_minute, zero_behind, zero_tail, tail_of, followed_time, followed, held_at, held_time, held_by}
use Rattle.interval.proofs.Shut.{shut_lit, shut_fraction, shut_millisecond, shut_offset}
use Rattle.interval.proofs.Parting.{Parting, alike, out, parted, field_parting, opt_parting, alt_parting, then_parting, seq_parting}
use Rattle.interval.proofs.Kept.{Kept, zeros_definite, tail_kept}

-- another byte than `/` stands at n
pub record NoSlash (s : List ℕ) (n : ℕ) : Type 0 where
  pub reads : (lit 47).reads s n ≡ no
  pub more : (lit 47).more s n ≡ false

-- q reads as p does and is open where p is, and then what p finds is not held; or q finds a value, whatever follows, that no `/` follows, where p
-- stops the reading or finds the same, held. What is held is what code tests.
pub data Beside {A : Type 0} (held : A → ℕ → Bool) (s : List ℕ) (p q : Reader A) (at : ℕ) : Type 0 where
  same : q.reads s at ≡ p.reads s at → q.more s at ≡ p.more s at → ((a : A) (n : ℕ) → p.reads s at ≡ got a n → p.more s at ≡ true → held a n ≡ false) → Beside held s p q at
  apart : (a : A) (n : ℕ) → q.reads s at ≡ got a n → q.more s at ≡ false → NoSlash s n → (p.reads s at ≡ stop 1) ⊎ ((p.reads s at ≡ got a n) × (held a n ≡ true)) → Beside held s p q at

-- ---- what parts at a place that is shut

of_parting : {A : Type 0} {held : A → ℕ → Bool} {s : List ℕ} {p q : Reader A} {at : ℕ} → Kept held s q at → Parting ⊥ Unit held s p q at → Beside held s p q at
of_parting {A} {held} {s} {p} {q} {at} k (alike e) = same (sym e.reads) (sym e.more) (λ a n i o. go a n i o (held a n) refl)
  where
    go : (a : A) (n : ℕ) → p.reads s at ≡ got a n → p.more s at ≡ true → (t : Bool) → held a n ≡ t → t ≡ false
    go a n i o true h = absurd (true≢false (sym o ∙ e.more ∙ k a n (sym e.reads ∙ i) h))
    go a n i o false h = refl
of_parting k (out o sh x) = absurd o
of_parting k (parted g a n sh x) = let l = shut_lit sh 47 refl in apart a n (sym x.says.found) (sym x.says.more) (record { reads = sym l.found; more = sym l.more }) x.other

-- ---- behind the hour that ends the day: a minute or a second is left out where it is not 0, and nothing else is read there

second_parting : (r : Reading) (mi : ℕ) (s : List ℕ) (at : ℕ) → Parting ⊥ Unit (λ _. held_at s) s (second_millisecond r true mi) (seq (opt zeros) (λ se. millisecond (unit_of r se) true mi (or_zero se))) at
unfolding second_millisecond
second_parting r mi s at = then_parting (λ se. millisecond (unit_of r se) true mi (or_zero se)) (λ se. whole_clock mi (or_zero se)) (λ se n sh. shut_millisecond sh (unit_of r se) true mi (or_zero se)) (λ se n h. h) (opt_parting (field_parting 60 s at))

minute_parting : (r : Reading) (s : List ℕ) (at : ℕ) → Parting Unit Unit (λ _. held_at s) s (minute_second_millisecond r true) (zero_minute r) at
unfolding minute_second_millisecond zero_minute
minute_parting r s at = seq_parting _ _ zeros_definite (λ mi n. second_parting r mi s n) (field_parting 59 s at)

behind_parting : (r : Reading) (s : List ℕ) (at : ℕ) → Parting Unit Unit (λ _. held_at s) s (behind_hour r true) (zero_behind r) at
unfolding behind_hour zero_behind
behind_parting Old s at = minute_parting Old s at
behind_parting Standard s at = alt_parting (time_fraction Hour true 0 0) (λ sh. shut_fraction sh Hour true 0 0) (minute_parting Standard s at)

tail_parting : (r : Reading) (s : List ℕ) (at : ℕ) → Parting ⊥ Unit (held_time s) s (after_hour r true 24) (zero_tail r 24) at
unfolding after_hour zero_tail
tail_parting r s at = then_parting (λ c. time_offset 24 (or_whole 0 0 c)) (λ c. time_of 24 (or_whole 0 0 c) none) (λ c n sh. shut_offset sh 24 (or_whole 0 0 c)) (λ c n h. h) (opt_parting (behind_parting r s at))

-- ---- behind any hour: behind another one both are one rule, and nothing is held

-- a time has the hour that was read
hour_read : (r : Reading) (z : Bool) (h : ℕ) (s : List ℕ) (at : ℕ) (t : Time) (n : ℕ) → (after_hour r z h).reads s at ≡ got t n → h ≡ t.hour
unfolding after_hour time_offset seq map
hour_read r z h s at t n = made (opt (behind_hour r z)) (λ f. then f (λ c m. (time_offset h (or_whole 0 0 c)).reads s m)) s at from_no (λ _ _. from_stop) (λ c m _. made (opt offset) (map_found (time_of h (or_whole 0 0 c))) s m from_no (λ _ _. from_stop) (λ o k _ e. ap (λ (x : Time). x.hour) (got_value e)))

plain_beside : (r : Reading) (h : ℕ) (s : List ℕ) (at : ℕ) → eqb h 24 ≡ false → Beside (held_time s) s (after_hour r false h) (tail_of r false h) at
unfolding tail_of
plain_beside r h s at e = same refl refl (λ t n i _. rw (← hour_read r false h s at t n i, e))

tail_beside : (e : Edition) (r : Reading) (s : List ℕ) (at h n : ℕ) → (hour_of e).reads s at ≡ got h n → Beside (held_time s) s (after_hour r (ends_day e h) h) (tail_of r (ends_day e h) h) n
unfolding tail_of
tail_beside E2019 r s at h n i = plain_beside r h s n (ne_eqb h 24 (λ e. omega (arith, field_within 2 0 23 s at h n i)))
tail_beside E2004 r s at h n i = go (eqb h 24) refl
  where
    go : (z : Bool) → eqb h 24 ≡ z → Beside (held_time s) s (after_hour r z h) (tail_of r z h) n
    go true e = rw (eqb-true h 24 e) (of_parting (tail_kept r 24 s n) (tail_parting r s n))
    go false e = plain_beside r h s n e

-- ---- what stands in front of both, and what is made of both

-- a part in front behind whose value nothing is found where it is open
seq_beside : {A B : Type 0} {held : B → ℕ → Bool} {s : List ℕ} {at : ℕ} (p : Reader A) (f g : A → Reader B) → ((a : A) (n : ℕ) → p.reads s at ≡ got a n → p.more s at ≡ true → (f a).reads s n ≡ no) → ((a : A) (n : ℕ) → p.reads s at ≡ got a n → Beside held s (f a) (g a) n) → Beside held s (seq p f) (seq p g) at
unfolding seq
seq_beside {A} {B} {held} {s} {at} p f g nothing rest = go (p.reads s at) refl
  where
    on : (a : A) (n : ℕ) → p.reads s at ≡ got a n → (t : Bool) → p.more s at ≡ t → Beside held s (f a) (g a) n → Beside held s (seq p f) (seq p g) at
    on a n i true o (same r m k) = same (rw (i, r)) (rw (i, m)) (λ b j e _. from_no (sym (nothing a n i o) ∙ rw i at e))
    on a n i true o (apart b j r m l (inl x)) = absurd (no≢stop (sym (nothing a n i o) ∙ x))
    on a n i true o (apart b j r m l (inr (x, h))) = from_no (sym (nothing a n i o) ∙ x)
    on a n i false o (same r m k) = same (rw (i, r)) (rw (i, m)) (λ b j e w. k b j (rw i at e) (rw (o, i) at w))
    on a n i false o (apart b j r m l x) = apart b j (rw (i, r)) (rw (o, i, m)) l (rw i x)

    go : (x : Found A) → p.reads s at ≡ x → Beside held s (seq p f) (seq p g) at
    go no i = same (rw i) (rw i) (λ b j e _. from_no (rw i at e))
    go (stop r) i = same (rw i) (rw i) (λ b j e _. from_stop (rw i at e))
    go (got a n) i = on a n i (p.more s at) refl (rest a n i)

-- as where it is settled with every value
after_beside : {A B : Type 0} {held : B → ℕ → Bool} {s : List ℕ} {at : ℕ} (p : Reader A) (f g : A → Reader B) → Definite p → ((a : A) (n : ℕ) → p.reads s at ≡ got a n → Beside held s (f a) (g a) n) → Beside held s (seq p f) (seq p g) at
after_beside {s = s} {at = at} p f g dp rest = seq_beside p f g (λ a n i o. absurd (true≢false (sym o ∙ dp s at a n i))) rest

map_beside : {A B : Type 0} {held : A → ℕ → Bool} {kept : B → ℕ → Bool} {s : List ℕ} {p q : Reader A} {at : ℕ} (f : A → B) → ((a : A) (n : ℕ) → kept (f a) n ≡ held a n) → Beside held s p q at → Beside kept s (map f p) (map f q) at
unfolding map
map_beside {s = s} {p = p} {at = at} f kf (same r m k) = same (rw r) m (λ b n e o. made p (map_found f) s at from_no (λ _ _. from_stop) (λ a j ea eb. rw (← got_value eb, ← got_place eb) (kf a j ∙ k a j ea o)) e)
map_beside f kf (apart a n r m l (inl x)) = apart (f a) n (rw r) m l (inl (rw x))
map_beside f kf (apart a n r m l (inr (x, h))) = apart (f a) n (rw r) m l (inr (rw x, kf a n ∙ h))

-- ---- times and date-times

hour_definite : (e : Edition) → Definite (hour_of e)
hour_definite E2019 = field_definite 2 0 23
hour_definite E2004 = field_definite 2 0 24

time_beside : (c : Choices) (s : List ℕ) (at : ℕ) → Beside (held_time s) s (base_time c) (followed_time c) at
unfolding base_time followed_time
time_beside c s at = after_beside (hour_of c.edition) _ _ (hour_definite c.edition) (tail_beside c.edition c.reading s at)

after_date_beside : (c : Choices) (d : Date) (s : List ℕ) (at : ℕ) → Beside (held_by s) s (datetime.after_date c d) (seq (lit 84) (λ _. map (datetime.stamp d) (followed_time c))) at
unfolding datetime.after_date datetime.time_of
after_date_beside c d s at = after_beside (lit 84) _ _ (lit_definite 84) (λ _ n _. map_beside (datetime.stamp d) (λ t k. refl) (time_beside c s n))

-- where a date is open no `T` stands behind it
pub stamp_beside : (c : Choices) (s : List ℕ) (at : ℕ) → Beside (held_by s) s (datetime.date_time c) (followed c) at
unfolding datetime.date_time datetime.after_date followed seq
stamp_beside c s at = seq_beside date (datetime.after_date c) _ (λ d n i o. rw (open_date s at d n (record { found = sym i; more = sym o }))) (λ d n _. after_date_beside c d s n)
