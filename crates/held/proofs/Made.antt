-- The record that is made of slots: one within the ranges is made of the slots that hold it, and of no others. A number that was put for one
-- that does not fit is outside of every range but a duration's.
use Prim.Native.Nat.{ℕ, ◌≤◌}
use mathlib.Core.List.{List, [], ◌∷◌, ◌++◌}
use mathlib.Core.Bool.{Bool, true, false}
use mathlib.Core.Path.{◌≡◌, refl, sym, ap, ◌∙◌}
use native.Mathlib.Omega.{arith}
use borrow.Author.Tests.{leb-true}
use lib.Dec.{leb}
use lib.IntN.{ℤ, pos, nat_abs}
use Rattle.types.specs.declared.Choices.{Choices}
use Rattle.types.specs.declared.Offset.{Offset}
use Rattle.std.specs.declared.option.Option.{Option}
use Rattle.std.specs.declared.option.Option.TheVariants.{None, Some}
use Rattle.types.specs.declared.Time.{Time}
use Rattle.types.specs.declared.Date.{Date}
use Rattle.types.specs.declared.Date.TheVariants.{YMD, Week, Ordinal}
use Rattle.parser.specs.Reading.{and, within}
use Rattle.parser.proofs.Fields.{true≢false, and_first, and_second}
use Rattle.slots.specs.Slots.{offset_slots, time_offset_slots, time_slots, date_slots, date_time_slots}
use Rattle.slots.proofs.Stores.{◌then◌}
use Rattle.offset_writer.specs.Ranges.{offset_given}
use Rattle.time_writer.specs.Ranges.{time_offset_given, time_given}
use Rattle.time_writer.proofs.Nine.{digits_few}
use Rattle.time_writer.proofs.Within.{time_within, last_small, within_day}
use Rattle.date_writer.specs.Ranges.{year_given, date_given}
use Rattle.datetime_writer.specs.Ranges.{date_time_given}
use Rattle.datetime_writer.proofs.Laws.{date_given_lem, time_given_lem}
use Rattle.held.specs.Held.{Natural, Integer, Made}

-- ---- numbers

module _ {z : ℤ} {n : ℕ} (h : Natural z n) where
  natural_found : (k : ℕ) → k ≤ 999999999 → pos k ≡ z → n ≡ k
  natural_found k l e = h.fits k (omega arith) (sym e)

  natural_held : n ≤ 999999999 → pos n ≡ z
  natural_held l = sym (h.is (omega arith))

module _ {z n : ℤ} (h : Integer z n) where
  integer_found : (y : ℤ) → nat_abs y ≤ 9999 → y ≡ z → n ≡ y
  integer_found y l e = h.fits (rw (← e) (omega arith)) ∙ sym e

  integer_held : nat_abs n ≤ 9999 → n ≡ z
  integer_held l = h.is (omega arith)

first_below : (n hi : ℕ) (b : Bool) → and (leb n hi) b ≡ true → n ≤ hi
first_below n hi b e = leb-true n hi (and_first (leb n hi) b e)

within_below : (lo hi n : ℕ) → within lo hi n ≡ true → n ≤ hi
within_below lo hi n e = leb-true n hi (and_second (leb lo n) e)

-- ---- of any kind

module _ {A : Type 0} {given : A → Bool} {slots : A → List ℤ} where
  -- the same slots
  pub made_of : {l m : List ℤ} {a : A} → l ≡ m → Made given slots l a → Made given slots m a
  made_of e h = rw (← e) h

  -- slots that hold no record, of which one is made that no reader gives
  not_made : {l : List ℤ} {a : A} → given a ≡ false → ((b : A) → slots b ≡ l → ⊥) → Made given slots l a
  not_made e h = record { found = λ b g i. absurd (h b i); held = λ g. absurd (true≢false (sym g ∙ e)) }

clash : {m n : ℕ} {z : ℤ} → pos m ≡ z → z ≡ pos n → m ≡ n
clash e f = cc

-- ---- offsets

record OffsetWithin (o : Offset) : Type 0 where
  hours : nat_abs o.hours ≤ 9999
  minutes : nat_abs o.minutes ≤ 9999

offset_within : (o : Offset) → offset_given o ≡ true → OffsetWithin o
unfolding offset_given
offset_within o e =
    let f = and_second (leb (nat_abs o.hours) 23) e in
    record { hours = omega (arith, first_below (nat_abs o.hours) 23 _ e); minutes = omega (arith, first_below (nat_abs o.minutes) 59 _ f) }

pub offset_made : {hours minutes h m : ℤ} → Integer hours h → Integer minutes m → Made offset_given offset_slots (hours ∷ minutes ∷ []) (record { hours = h; minutes = m })
offset_made i j = record {
  found = λ o g e.
      let w = offset_within o g in
      rw (integer_found i o.hours w.hours (cc), integer_found j o.minutes w.minutes (cc));
  held = λ g. let w = offset_within _ g in integer_held i w.hours then integer_held j w.minutes then refl;
}

-- ---- the offset of a time

module _ {given hours minutes : ℤ} where
  pub given_made : {o : Offset} → given ≡ pos 1 → Made offset_given offset_slots (hours ∷ minutes ∷ []) o → Made time_offset_given time_offset_slots (given ∷ hours ∷ minutes ∷ []) (Some o)
  unfolding time_offset_given
  given_made {o} e h = record { found = found; held = λ g. sym e then h.held g }
    where
      found : (b : Option Offset) → time_offset_given b ≡ true → time_offset_slots b ≡ given ∷ hours ∷ minutes ∷ [] → Some o ≡ b
      found None g i = absurd (let z = clash {m = 0} {z = given} (cc) e in omega arith)
      found (Some p) g i = ap Some (h.found p g (cc))

  pub absent_made : given ≡ pos 0 → hours ≡ pos 0 → minutes ≡ pos 0 → Made time_offset_given time_offset_slots (given ∷ hours ∷ minutes ∷ []) None
  absent_made e f g = record { found = found; held = λ _. sym e then sym f then sym g then refl }
    where
      found : (b : Option Offset) → time_offset_given b ≡ true → time_offset_slots b ≡ given ∷ hours ∷ minutes ∷ [] → None ≡ b
      found None g i = refl
      found (Some p) g i = absurd (let z = clash {m = 1} {z = given} (cc) e in omega arith)

  -- neither given nor absent
  pub no_offset_made : (given ≡ pos 1 → ⊥) → (given ≡ pos 0 → hours ≡ pos 0 → minutes ≡ pos 0 → ⊥) → Made time_offset_given time_offset_slots (given ∷ hours ∷ minutes ∷ []) (Some (record { hours = pos 24; minutes = pos 0 }))
  unfolding time_offset_given offset_given
  no_offset_made e f = not_made refl none
    where
      none : (b : Option Offset) → time_offset_slots b ≡ given ∷ hours ∷ minutes ∷ [] → ⊥
      none None i = f (cc) (cc) (cc)
      none (Some p) i = e (cc)

-- ---- times

record TimeSmall (t : Time) : Type 0 where
  hour : t.hour ≤ 999999999
  minute : t.minute ≤ 999999999
  second : t.second ≤ 999999999
  nanosecond : t.nanosecond ≤ 999999999
  digits : t.digits ≤ 999999999
  offset : time_offset_given t.offset ≡ true

time_small : (c : Choices) (t : Time) → time_given c t ≡ true → TimeSmall t
time_small c t e =
    let w = time_within c t e in
    let day = within_day _ w.behind in
    record {
      hour = omega (arith, last_small c.edition);
      minute = omega arith;
      second = omega arith;
      nanosecond = omega (arith, day.fraction.nanosecond);
      digits = omega (arith, digits_few day.fraction);
      offset = w.offset;
    }

-- the offset's three slots and the one behind them
split : (o : Option Offset) {given hours minutes digits z : ℤ} → time_offset_slots o ++ z ∷ [] ≡ given ∷ hours ∷ minutes ∷ digits ∷ [] → (time_offset_slots o ≡ given ∷ hours ∷ minutes ∷ []) × (z ≡ digits)
split None e = (cc, cc)
split (Some o) e = (cc, cc)

pub time_made : (c : Choices) {hour minute second nanosecond given hours minutes digits : ℤ} {h m s n d : ℕ} {o : Option Offset} → Natural hour h → Natural minute m → Natural second s → Natural nanosecond n → Natural digits d
    → Made time_offset_given time_offset_slots (given ∷ hours ∷ minutes ∷ []) o
    → Made (time_given c) time_slots (hour ∷ minute ∷ second ∷ nanosecond ∷ given ∷ hours ∷ minutes ∷ digits ∷ []) (record { hour = h; minute = m; second = s; nanosecond = n; digits = d; offset = o })
time_made c {given = given} {hours = hours} {minutes = minutes} {digits = digits} h m s n d o = record {
  found = λ t g e.
      let w = time_small c t g in
      let last = split t.offset {given = given} {hours = hours} {minutes = minutes} {digits = digits} {z = pos t.digits} (cc) in
      rw (natural_found h t.hour w.hour (cc), natural_found m t.minute w.minute (cc), natural_found s t.second w.second (cc), natural_found n t.nanosecond w.nanosecond (cc), natural_found d t.digits w.digits last.1, o.found t.offset w.offset last.0);
  held = λ g.
      let w = time_small c _ g in
      natural_held h w.hour then natural_held m w.minute then natural_held s w.second then natural_held n w.nanosecond then rw (o.held w.offset) (refl then refl then refl then natural_held d w.digits then refl);
}

-- ---- dates

record DateWithin (y : ℤ) (m d : ℕ) : Type 0 where
  year : nat_abs y ≤ 9999
  part : m ≤ 999999999
  day : d ≤ 999999999

calendar_within : (y : ℤ) (m d : ℕ) → date_given (YMD y m d) ≡ true → DateWithin y m d
unfolding date_given
calendar_within y m d e =
    let f = and_first (and (within 1 12 m) (within 1 31 d)) (year_given y) e in
    record {
      year = within_below 100 9999 (nat_abs y) (and_second (and (within 1 12 m) (within 1 31 d)) e);
      part = omega (arith, within_below 1 12 m (and_first (within 1 12 m) _ f));
      day = omega (arith, within_below 1 31 d (and_second (within 1 12 m) f));
    }

week_within : (y : ℤ) (w d : ℕ) → date_given (Week y w d) ≡ true → DateWithin y w d
unfolding date_given
week_within y w d e =
    let f = and_first (and (within 1 52 w) (within 1 7 d)) (year_given y) e in
    record {
      year = within_below 100 9999 (nat_abs y) (and_second (and (within 1 52 w) (within 1 7 d)) e);
      part = omega (arith, within_below 1 52 w (and_first (within 1 52 w) _ f));
      day = omega (arith, within_below 1 7 d (and_second (within 1 52 w) f));
    }

ordinal_within : (y : ℤ) (d : ℕ) → date_given (Ordinal y d) ≡ true → DateWithin y 0 d
unfolding date_given
ordinal_within y d e = record {
  year = within_below 100 9999 (nat_abs y) (and_second (within 1 366 d) e);
  part = omega arith;
  day = omega (arith, within_below 1 366 d (and_first (within 1 366 d) (year_given y) e));
}

module _ {form year part day : ℤ} where
  pub calendar_made : {y : ℤ} {m d : ℕ} → form ≡ pos 0 → Integer year y → Natural part m → Natural day d → Made date_given date_slots (form ∷ year ∷ part ∷ day ∷ []) (YMD y m d)
  calendar_made {y} {m} {d} e i j k =
      record { found = found; held = λ g. let w = calendar_within y m d g in sym e then integer_held i w.year then natural_held j w.part then natural_held k w.day then refl }
    where
      found : (b : Date) → date_given b ≡ true → date_slots b ≡ form ∷ year ∷ part ∷ day ∷ [] → YMD y m d ≡ b
      found (YMD y' m' d') g f = let w = calendar_within y' m' d' g in rw (integer_found i y' w.year (cc), natural_found j m' w.part (cc), natural_found k d' w.day (cc))
      found (Week y' w' d') g f = absurd (let z = clash {m = 1} {z = form} (cc) e in omega arith)
      found (Ordinal y' d') g f = absurd (let z = clash {m = 2} {z = form} (cc) e in omega arith)

  pub week_made : {y : ℤ} {m d : ℕ} → form ≡ pos 1 → Integer year y → Natural part m → Natural day d → Made date_given date_slots (form ∷ year ∷ part ∷ day ∷ []) (Week y m d)
  week_made {y} {m} {d} e i j k =
      record { found = found; held = λ g. let w = week_within y m d g in sym e then integer_held i w.year then natural_held j w.part then natural_held k w.day then refl }
    where
      found : (b : Date) → date_given b ≡ true → date_slots b ≡ form ∷ year ∷ part ∷ day ∷ [] → Week y m d ≡ b
      found (YMD y' m' d') g f = absurd (let z = clash {m = 0} {z = form} (cc) e in omega arith)
      found (Week y' m' d') g f = let w = week_within y' m' d' g in rw (integer_found i y' w.year (cc), natural_found j m' w.part (cc), natural_found k d' w.day (cc))
      found (Ordinal y' d') g f = absurd (let z = clash {m = 2} {z = form} (cc) e in omega arith)

  pub ordinal_made : {y : ℤ} {d : ℕ} → form ≡ pos 2 → part ≡ pos 0 → Integer year y → Natural day d → Made date_given date_slots (form ∷ year ∷ part ∷ day ∷ []) (Ordinal y d)
  ordinal_made {y} {d} e p i k =
      record { found = found; held = λ g. let w = ordinal_within y d g in sym e then integer_held i w.year then sym p then natural_held k w.day then refl }
    where
      found : (b : Date) → date_given b ≡ true → date_slots b ≡ form ∷ year ∷ part ∷ day ∷ [] → Ordinal y d ≡ b
      found (YMD y' m' d') g f = absurd (let z = clash {m = 0} {z = form} (cc) e in omega arith)
      found (Week y' m' d') g f = absurd (let z = clash {m = 1} {z = form} (cc) e in omega arith)
      found (Ordinal y' d') g f = let w = ordinal_within y' d' g in rw (integer_found i y' w.year (cc), natural_found k d' w.day (cc))

  -- of no form, or an ordinal with a month
  pub no_date_made : (form ≡ pos 0 → ⊥) → (form ≡ pos 1 → ⊥) → (form ≡ pos 2 → part ≡ pos 0 → ⊥) → Made date_given date_slots (form ∷ year ∷ part ∷ day ∷ []) (Ordinal (pos 0) 0)
  unfolding date_given
  no_date_made e f g = not_made refl none
    where
      none : (b : Date) → date_slots b ≡ form ∷ year ∷ part ∷ day ∷ [] → ⊥
      none (YMD y m d) i = e (cc)
      none (Week y w d) i = f (cc)
      none (Ordinal y d) i = g (cc) (cc)

-- ---- date-times

module _ {a b c d : ℤ} {l : List ℤ} where
  apart : (x : Date) {m : List ℤ} → date_slots x ++ m ≡ a ∷ b ∷ c ∷ d ∷ l → (date_slots x ≡ a ∷ b ∷ c ∷ d ∷ []) × (m ≡ l)
  apart (YMD y m d) e = (cc, cc)
  apart (Week y w d) e = (cc, cc)
  apart (Ordinal y d) e = (cc, cc)

  pub datetime_made : (k : Choices) {x : Date} {t : Time} → Made date_given date_slots (a ∷ b ∷ c ∷ d ∷ []) x → Made (time_given k) time_slots l t → Made (date_time_given k) date_time_slots (a ∷ b ∷ c ∷ d ∷ l) (record { date = x; time = t })
  datetime_made k {x} {t} h i = record {
    found = λ y g e.
        let parts = apart y.date e in
        rw (h.found y.date (date_given_lem k y g) parts.0, i.found y.time (time_given_lem k y g) parts.1);
    held = λ g. rw (h.held (date_given_lem k _ g), i.held (time_given_lem k _ g));
  }
