-- What the code makes of Y, M, W, D and the time is what the rule reads, `P` and all.
use Rattle.std.proofs.Common.{◌≡◌, ℕ, ◌<◌, ◌≤◌, Bool, true, false, ltb, List, sym, refl, ◌∙◌, arith, le-ltb, lt-ltb}
use mathlib.Core.Option.{Option, some, none}
use Rattle.types.specs.declared.Duration.{Duration}
use Rattle.parser.specs.Reading.{Found, no, got, stop, lit, seq, opt, lack, verify, keep, map, map_found, give, or, Says}
use Rattle.parser.proofs.Says.{says_map, says_verify, says_opt, says_seq_got, says_seq_no, says_seq_stop}
use Rattle.parser.specs.Fields.{or_zero}
use Rattle.duration.specs.Rules.{present, duration_time, parts_rule, some_part, duration_of, duration}
use Rattle.parts.specs.Items.{item_at, here, past, part_of, absent_part, part_at, Tries}
use Rattle.duration.specs.Items.{is_cut, record_of, time_of, time_parts, behind_p, all_parts}
use Rattle.duration.specs.Looks.{long_run, no_part, Looks, Short, Starts, DateAt}
use Rattle.duration.specs.declared.DurationTimeParts.{DurationTimeParts}
use Rattle.duration.specs.declared.DateParts.{DateParts}
use Rattle.duration.specs.declared.ClockParts.{ClockParts}
use Rattle.duration.specs.declared.Looked.{Looked}
use Rattle.duration.specs.declared.Start.{Start}
use Rattle.std.specs.declared.result.Result.{Result}
use Rattle.std.specs.declared.result.Result.TheVariants.{Ok, Err}
use Rattle.types.specs.Numbers.{number_of}
use Rattle.parser.specs.Read.{missed, cut}
use Rattle.parser.specs.declared.Miss.{Miss}
use Rattle.parser.specs.declared.Miss.TheVariants as miss
use Rattle.parts.specs.declared.Item.{Item}
use Rattle.parts.specs.declared.Part.{Part}
use Rattle.parts.specs.declared.Tried.{Tried}
use Rattle.parts.proofs.Items.{tried_part, tried_item}
use Rattle.duration.proofs.Items.{Heeds, part_heeds, optional_part, map_pick, further}
use Rattle.duration.proofs.Laws.{or_true, parts, from_time, from_days, from_weeks, from_months}
use Rattle.duration.proofs.Looks.{look_stands, look_absent}
use Rattle.duration.proofs.Reading.{or_false, or_lt, ClockAt, time_made, time_at_lem, time_heeds}

-- ---- the optional time at the end

module _ (y mo w d : Option ℕ) (s : List ℕ) (at : ℕ) where
  the_time : (f : Found DurationTimeParts) (m : Bool) → Says duration_time s at f m → Says (from_time y mo w d) s at (map_found (parts y mo w d) (lack at f)) m
  unfolding give
  the_time no m h = rw (← or_false m) (says_seq_got (opt duration_time) s at (λ t. give (parts y mo w d t)) none at m (got (parts y mo w d none) at) false (says_opt duration_time s at no m h) (record { found = refl; more = refl }))
  the_time (stop r) m h = says_seq_stop (opt duration_time) s at (λ t. give (parts y mo w d t)) r m (says_opt duration_time s at (stop r) m h)
  the_time (got t n) m h = rw (← or_false m) (says_seq_got (opt duration_time) s at (λ t. give (parts y mo w d t)) (some t) n m (got (parts y mo w d (some t)) n) false (says_opt duration_time s at (got t n) m h) (record { found = refl; more = refl }))

  the_time_heeds : Heeds (from_time y mo w d) s at
  unfolding seq opt
  the_time_heeds = record {
    stops = λ r e. says_seq_stop (opt duration_time) s at (λ t. give (parts y mo w d t)) (number_of r) false (says_opt duration_time s at (stop (number_of r)) false ((time_heeds s at).stops r e));
    opens = λ e. rw ((time_heeds s at).opens e);
  }

-- ---- one part is given, and an absent one is 0

abbrev date : Part → Part → Part → Part → DateParts
date y mo w d = record { years = y; months = mo; weeks = w; days = d }

kept_parts : (at i j k n : ℕ) (y mo w d : Option ℕ) → or (present y) (or (present mo) (or (present w) (present d))) ≡ ltb at n → (f : Found DurationTimeParts) → map_found duration_of (keep some_part (map_found (parts y mo w d) (lack n f))) ≡ all_parts at (date (part_of (or_zero y) i) (part_of (or_zero mo) j) (part_of (or_zero w) k) (part_of (or_zero d) n)) f
kept_parts at i j k n y mo w d e no = rw (or_false (present d), e) (sym (map_pick duration_of (ltb at n) (parts y mo w d none) n))
kept_parts at i j k n y mo w d e (stop r) = refl
kept_parts at i j k n y mo w d e (got t x) = rw (or_true (present d), or_true (present w), or_true (present mo), or_true (present y))

-- ---- Y, M, W, D and the time, each from the place that is left

abbrev after_y : List ℕ → ℕ → ℕ
after_y s at = past 89 at (item_at s at)

abbrev after_mo : List ℕ → ℕ → ℕ
after_mo s at = past 77 (after_y s at) (item_at s (after_y s at))

abbrev after_w : List ℕ → ℕ → ℕ
after_w s at = past 87 (after_mo s at) (item_at s (after_mo s at))

abbrev after_d : List ℕ → ℕ → ℕ
after_d s at = past 68 (after_w s at) (item_at s (after_w s at))

all_parts_lem : (s : List ℕ) (at : ℕ) (f : Found DurationTimeParts) (m : Bool) → Says duration_time s (after_d s at) f m → Says behind_p s at (all_parts at (date (part_at s at 89) (part_at s (after_y s at) 77) (part_at s (after_mo s at) 87) (part_at s (after_w s at) 68)) f) m
unfolding parts_rule
all_parts_lem s at f m k =
    let mat = after_y s at in
    let wat = after_mo s at in
    let dat = after_w s at in
    let tat = after_d s at in
    let y = here 89 (item_at s at) in
    let mo = here 77 (item_at s mat) in
    let w = here 87 (item_at s wat) in
    let d = here 68 (item_at s dat) in
    let g = map_found (parts y mo w d) (lack tat f) in
    let ds : Says (from_days y mo w) s dat g m = optional_part 68 (from_time y mo w) s dat tat g m (the_time_heeds y mo w none s dat) refl (the_time y mo w d s tat f m k) in
    let ws : Says (from_weeks y mo) s wat g m = optional_part 87 (from_days y mo) s wat dat g m (part_heeds 68 (from_time y mo none) s wat) refl ds in
    let ms : Says (from_months y) s mat g m = optional_part 77 (from_weeks y) s mat wat g m (part_heeds 87 (from_days y none) s mat) refl ws in
    let ys : Says parts_rule s at g m = optional_part 89 from_months s at mat g m (part_heeds 77 (from_weeks none) s at) refl ms in
    let whole = says_map _ s at duration_of _ m (says_verify _ s at some_part g m ys) in
    let yf = further 89 s at in
    let mf = further 77 s mat in
    let wf = further 87 s wat in
    let df = further 68 s dat in
    let some : or (present y) (or (present mo) (or (present w) (present d))) ≡ ltb at tat = rw (yf.there, mf.there, wf.there, df.there) (or_lt at mat tat _ yf.order (omega arith) (or_lt mat wat tat _ mf.order (omega arith) (or_lt wat dat tat _ wf.order df.order refl))) in
    record { found = sym (kept_parts at mat wat dat tat y mo w d some f) ∙ whole.found; more = whole.more }

pub parts_made : (s : List ℕ) (at : ℕ) (d : DateParts) (f : Found DurationTimeParts) (m : Bool) (g : Found Duration) → DateAt s at d → Says duration_time s d.days.next f m → g ≡ all_parts at d f → Says behind_p s at g m
parts_made s at d f m g e k eg = rw (eg, e.days, e.weeks, e.months, e.years) (all_parts_lem s at f m (rw (e.days, e.weeks, e.months, e.years) at k))

-- ---- the parts in front of the time, as they were tried by items

module _ (s : List ℕ) (at : ℕ) (i : Result Item Miss) (y mo w d : Tried) (stands : i ≡ item_at s at) (years : Tries s at 89 i y) (months : Tries s y.part.next 77 y.item mo) (weeks : Tries s mo.part.next 87 mo.item w) (days : Tries s w.part.next 68 w.item d) where
  behind_years : y.item ≡ item_at s y.part.next
  behind_years = tried_item s at 89 i y years stands

  behind_months : mo.item ≡ item_at s mo.part.next
  behind_months = tried_item s y.part.next 77 y.item mo months behind_years

  behind_weeks : w.item ≡ item_at s w.part.next
  behind_weeks = tried_item s mo.part.next 87 mo.item w weeks behind_months

  pub date_tried : DateAt s at (date y.part mo.part w.part d.part)
  date_tried = record {
    years = tried_part s at 89 i y years stands;
    months = tried_part s y.part.next 77 y.item mo months behind_years;
    weeks = tried_part s mo.part.next 87 mo.item w weeks behind_months;
    days = tried_part s w.part.next 68 w.item d days behind_weeks;
  }

-- ---- the same by looks

module _ (s : List ℕ) (at l : ℕ) (y mo w d : Looked) (years : Short s at 89 l y) (months : Short s y.part.next 77 y.look mo) (weeks : Short s mo.part.next 87 mo.look w) (days : Short s w.part.next 68 w.look d) where
  pub date_made : (d.look ≡ long_run → ⊥) → DateAt s at (date y.part mo.part w.part d.part)
  date_made n =
      let short-w : w.look ≡ long_run → ⊥ = λ q. n (days.long q).0 in
      let short-mo : mo.look ≡ long_run → ⊥ = λ q. short-w (weeks.long q).0 in
      let short-y : y.look ≡ long_run → ⊥ = λ q. short-mo (months.long q).0 in
      record {
        years = years.part (λ q. short-y (years.long q).0);
        months = months.part short-y;
        weeks = weeks.part short-mo;
        days = days.part short-w;
      }

module _ (s : List ℕ) (at : ℕ) (d : DateParts) (l : ℕ) (there : (l ≡ long_run → ⊥) → DateAt s at d) (st : Start) (begins : Starts s d.days.next l st) where
  -- the time by the parts there, where no long run stands
  timed : (st.look ≡ long_run → ⊥) → (c : ClockParts) → ClockAt s st.next c → (k : ℕ) → (k ≡ long_run → ⊥) → Looks s c.minutes.next k → (g : Found Duration) → g ≡ all_parts at d (time_parts st.next c) → Says behind_p s at g (is_cut (item_at s c.minutes.next))
  timed short c e k short-k looks g eg =
      let base = rw ((look_stands s c.minutes.next k short-k looks).small _) at (time_made s st.next c e) in
      parts_made s at d _ _ g (there (λ q. short (begins.long q))) (time_at_lem s d.days.next st.next _ _ begins.next base) eg

  -- no part of a time
  pub without_time : (g : Found Duration) → st.look ≡ no_part → g ≡ all_parts at d no → Says behind_p s at g (is_cut (item_at s st.next))
  without_time g e eg =
      let from = st.next in
      let short : st.look ≡ long_run → ⊥ = λ q. omega arith in
      let absent : (c : ℕ) → c < 256 → absent_part from ≡ part_at s from c = λ c small. sym (look_absent s from st.look short c begins.behind (λ q. absurd (omega arith)) (λ q. omega arith)) in
      let same : ltb from from ≡ false = le-ltb from from (omega arith) in
      let none_there : ClockParts = record { hours = absent_part from; minutes = absent_part from; seconds = absent_part from } in
      timed short none_there (record { hours = absent 72 (omega arith); minutes = absent 77 (omega arith); seconds = absent 83 (omega arith) }) st.look short begins.behind g (rw same eg)

  -- some parts of a time, none of them long
  pub with_time : (h m x : Looked) → Short s st.next 72 st.look h → Short s h.part.next 77 h.look m → Short s m.part.next 83 m.look x → (m.look ≡ long_run → ⊥) → (g : Found Duration) → g ≡ all_parts at d (time_parts st.next (record { hours = h.part; minutes = m.part; seconds = x.part })) → Says behind_p s at g (is_cut (item_at s m.part.next))
  with_time h m x hour minute second short g eg =
      let short-hour : h.look ≡ long_run → ⊥ = λ q. short (minute.long q).0 in
      let short-start : st.look ≡ long_run → ⊥ = λ q. short-hour (hour.long q).0 in
      timed short-start _ (record { hours = hour.part short-start; minutes = minute.part short-hour; seconds = second.part short }) m.look short minute.behind g eg

  -- with S: no run in front of it is long, and the input did not end there
  pub with_seconds : (h m x : Looked) → Short s st.next 72 st.look h → Short s h.part.next 77 h.look m → Short s m.part.next 83 m.look x → m.part.next < x.part.next → Says behind_p s at (got (record_of d (time_of (record { hours = h.part; minutes = m.part; seconds = x.part }))) x.part.next) false
  with_seconds h m x hour minute second lt =
      let short : m.look ≡ long_run → ⊥ = λ q. omega (arith, (second.long q).1) in
      let short-hour : h.look ≡ long_run → ⊥ = λ q. short (minute.long q).0 in
      let hours = hour.part (λ q. short-hour (hour.long q).0) in
      let minutes = minute.part short-hour in
      let seconds = second.part short in
      let beyond-hour : st.next ≤ h.part.next = rw hours (further 72 s st.next).order in
      let beyond-minute : h.part.next ≤ m.part.next = rw minutes (further 77 s h.part.next).order in
      let beyond : ltb st.next x.part.next ≡ true = lt-ltb st.next x.part.next (omega arith) in
      rw (← closed (item_at s m.part.next) (rw seconds at lt)) (with_time h m x hour minute second short _ (rw beyond))
    where
      closed : (i : Result Item Miss) → m.part.next < past 83 m.part.next i → is_cut i ≡ false
      closed (Ok i) lt = refl
      closed (Err e) lt = absurd (omega arith)

-- ---- `P`

pub with_p : (s : List ℕ) (at n : ℕ) (u : Unit) (f : Found Duration) (m : Bool) → Says (lit 80) s at (got u n) false → Says behind_p s n f m → Says duration s at f m
unfolding duration map verify seq
with_p s at n u f m p k = record { found = rw (← p.found) k.found; more = rw (← p.found, ← p.more) k.more }

pub without_p : (s : List ℕ) (at : ℕ) (m : Bool) → Says (lit 80) s at no m → Says duration s at no m
unfolding duration
without_p s at m p = says_map _ s at duration_of no m (says_verify _ s at some_part no m (says_seq_no (lit 80) s at (λ _. parts_rule) m p))

-- ... and wherever it is missed, the miss is passed on
pub missed_p : (s : List ℕ) (at : ℕ) (m : Miss) → Says (lit 80) s at (missed m) (cut m) → Says duration s at (missed m) (cut m)
unfolding duration
missed_p s at miss.Wrong p = without_p s at false p
missed_p s at miss.Cut p = without_p s at true p
missed_p s at (miss.Stopped why) p = says_map _ s at duration_of _ false (says_verify _ s at some_part _ false (says_seq_stop (lit 80) s at (λ _. parts_rule) (number_of why) false p))
