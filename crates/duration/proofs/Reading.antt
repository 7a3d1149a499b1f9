-- What the code makes of the time is what the rules read: part by part, each from the place that the one before it left.
use Rattle.std.proofs.Common.{◌≡◌, ℕ, ◌≤◌, Bool, true, false, ltb, List, sym, refl, ◌∙◌, arith, ltb-false, ltb-true, lt-ltb}
use mathlib.Core.Option.{none}
use Rattle.parser.specs.Reading.{Found, no, got, stop, lit, seq, opt, verify, keep, map, map_found, give, pick, or, Says}
use Rattle.parser.specs.Read.{place_after}
use Rattle.parser.proofs.General.{says_past}
use Rattle.parser.proofs.Says.{says_map, says_verify}
use Rattle.duration.specs.Rules.{part, TimeParts, some_time, time_of, duration_base_time, duration_time}
use Rattle.parts.specs.Items.{item_at, here, past, part_at, Tries}
use Rattle.duration.specs.Items.{is_cut, unless_too_big, time_parts}
use Rattle.duration.specs.declared.DurationTimeParts.{DurationTimeParts}
use Rattle.duration.specs.declared.ClockParts.{ClockParts}
use Rattle.parts.specs.declared.Tried.{Tried}
use Rattle.parts.specs.declared.Item.{Item}
use Rattle.std.specs.declared.result.Result.{Result}
use Rattle.types.specs.Numbers.{number_of}
use Rattle.std.specs.declared.result.Result.TheVariants.{Ok, Err}
use Rattle.parser.specs.declared.Miss.{Miss}
use Rattle.parser.specs.declared.Miss.TheVariants as miss
use Rattle.parts.proofs.Items.{no_letter, tried_part, tried_item}
use Rattle.duration.proofs.Items.{Heeds, part_heeds, optional_part, last_part, map_pick, further}
use Rattle.duration.proofs.Laws.{clock, from_seconds, from_minutes, base_time_eager}

-- ---- H, M and S

-- places that follow each other: the last lies beyond the first where some step goes on
pub or_lt : (a b c : ℕ) (t : Bool) → a ≤ b → b ≤ c → t ≡ ltb b c → or (ltb a b) t ≡ ltb a c
or_lt a b c t ab bc e = go (ltb a b) refl
  where
    go : (u : Bool) → ltb a b ≡ u → or u t ≡ ltb a c
    go true h = sym (lt-ltb a c (omega (arith, ltb-true a b h)))
    go false h = let same : b ≡ a = omega (arith, ltb-false a b h) in rw same at e

-- one is there, and an absent one is 0
kept_time : (i : Result Item Miss) (t : TimeParts) (n : ℕ) → map_found time_of (keep some_time (unless_too_big i (got t n))) ≡ unless_too_big i (pick (some_time t) (got (time_of t) n) no)
kept_time (Ok i) t n = sym (map_pick time_of (some_time t) t n)
kept_time (Err (miss.Stopped r)) t n = refl
kept_time (Err miss.Wrong) t n = sym (map_pick time_of (some_time t) t n)
kept_time (Err miss.Cut) t n = sym (map_pick time_of (some_time t) t n)

abbrev after_h : List ℕ → ℕ → ℕ
after_h s at = past 72 at (item_at s at)

abbrev after_m : List ℕ → ℕ → ℕ
after_m s at = past 77 (after_h s at) (item_at s (after_h s at))

base_time_lem : (s : List ℕ) (at : ℕ) → Says duration_base_time s at (unless_too_big (item_at s (after_m s at)) (time_parts at (record { hours = part_at s at 72; minutes = part_at s (after_h s at) 77; seconds = part_at s (after_m s at) 83 }))) (is_cut (item_at s (after_m s at)))
unfolding duration_base_time
base_time_lem s at =
    let mat = after_h s at in
    let sat = after_m s at in
    let end = past 83 sat (item_at s sat) in
    let h = here 72 (item_at s at) in
    let m = here 77 (item_at s mat) in
    let t = clock h m (here 83 (item_at s sat)) in
    let f = unless_too_big (item_at s sat) (got t end) in
    let o = is_cut (item_at s sat) in
    let xs : Says (from_seconds h m) s sat f o = last_part 83 (clock h m) s sat in
    let ms : Says (from_minutes h) s mat f o = optional_part 77 (from_seconds h) s mat sat f o (part_heeds 83 (λ x. give (clock h none x)) s mat) refl xs in
    let hs : Says (seq (opt (part 72)) from_minutes) s at f o = optional_part 72 from_minutes s at mat f o (part_heeds 77 (from_seconds none) s at) refl ms in
    let whole = says_map _ s at time_of _ o (says_verify _ s at some_time f o hs) in
    let hf = further 72 s at in
    let mf = further 77 s mat in
    let xf = further 83 s sat in
    let some : some_time t ≡ ltb at end = rw (hf.there, mf.there, xf.there) (or_lt at mat end _ hf.order (omega arith) (or_lt mat sat end _ mf.order xf.order refl)) in
    record { found = sym (kept_time (item_at s sat) t end ∙ rw some) ∙ whole.found; more = whole.more }

-- H, M and S, each from the place that the one before it left
pub record ClockAt (s : List ℕ) (at : ℕ) (c : ClockParts) : Type 0 where
  pub hours : c.hours ≡ part_at s at 72
  pub minutes : c.minutes ≡ part_at s c.hours.next 77
  pub seconds : c.seconds ≡ part_at s c.minutes.next 83

pub time_made : (s : List ℕ) (at : ℕ) (c : ClockParts) → ClockAt s at c → Says duration_base_time s at (unless_too_big (item_at s c.minutes.next) (time_parts at c)) (is_cut (item_at s c.minutes.next))
time_made s at c e = rw (e.seconds, e.minutes, e.hours) (base_time_lem s at)

-- the same of parts that were tried by items
pub time_tried : (s : List ℕ) (at : ℕ) (i : Result Item Miss) (h m x : Tried) → i ≡ item_at s at → Tries s at 72 i h → Tries s h.part.next 77 h.item m → Tries s m.part.next 83 m.item x → Says duration_base_time s at (unless_too_big m.item (time_parts at (record { hours = h.part; minutes = m.part; seconds = x.part }))) (is_cut m.item)
time_tried s at i h m x stands hours minutes seconds =
    let behind_hours = tried_item s at 72 i h hours stands in
    let behind_minutes = tried_item s h.part.next 77 h.item m minutes behind_hours in
    rw behind_minutes (time_made s at _ (record {
      hours = tried_part s at 72 i h hours stands;
      minutes = tried_part s h.part.next 77 h.item m minutes behind_hours;
      seconds = tried_part s m.part.next 83 m.item x seconds behind_minutes;
    }))

base_heeds : (s : List ℕ) (at : ℕ) → Heeds duration_base_time s at
unfolding duration_base_time map verify
base_heeds s at =
    let h = part_heeds 72 from_minutes s at in
    record { stops = λ r e. says_map _ s at time_of _ false (says_verify _ s at some_time _ false (h.stops r e)); opens = h.opens }

-- ---- the time, with its `T` and without

pub or_false : (m : Bool) → or m false ≡ m
or_false true = refl
or_false false = refl

-- from the place behind its `T`, if there is one
pub time_at_lem : (s : List ℕ) (at n : ℕ) (f : Found DurationTimeParts) (m : Bool) → n ≡ place_after at ((lit 84).reads s at) → Says duration_base_time s n f m → Says duration_time s at f m
unfolding duration_time
time_at_lem = says_past 84 duration_base_time base_time_eager

pub time_heeds : (s : List ℕ) (at : ℕ) → Heeds duration_time s at
time_heeds s at = record {
  stops = λ r e. here (stop (number_of r)) false (λ w. cc) ((base_heeds s at).stops r e);
  opens = λ e. sym (here _ true (λ w. cc) (record { found = refl; more = sym ((base_heeds s at).opens e) })).more;
}
  where
    -- no `T` stands where a run does, or the end
    here : (f : Found DurationTimeParts) (m : Bool) → (item_at s at ≡ Err miss.Wrong → ⊥) → Says duration_base_time s at f m → Says duration_time s at f m
    here f m no_byte k = time_at_lem s at at f m (rw (no_letter 84 s at refl no_byte)) k
