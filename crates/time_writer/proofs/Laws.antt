-- Times are read back from their spelling, whole; and only times within the ranges are read from anything. One argument for the editions:
-- both ask whether the hour ends the day; and for the readings: a spelling has its second, and behind that they are one.
use Prim.Native.Nat.{ℕ, ◌+◌, ◌-◌, ◌/◌, ◌%◌, ◌^◌, ◌≤◌, ◌<◌}
use mathlib.Core.List.{List, [], ◌∷◌, ◌++◌, append_assoc, append-nil}
use mathlib.Core.Bool.{Bool, true, false}
use mathlib.Core.Option.{Option, some, none}
use mathlib.Core.Path.{◌≡◌, refl}
use native.Mathlib.Omega.{arith}
use native.Mathlib.Nat.{zero-div}
use borrow.Author.Tests.{le-leb, eq-eqb, eqb-true, eqb-false, ne_eqb}
use lib.Dec.{eqb}
use lib.IntN.{nat_abs}
use lib.ListN.{length, take}
use Rattle.types.specs.declared.Choices.{Choices}
use Rattle.types.specs.declared.Edition.{Edition}
use Rattle.types.specs.declared.Fraction.{Fraction}
use Rattle.types.specs.declared.Reading.{Reading}
use Rattle.types.specs.declared.Reading.TheVariants.{Old, Standard}
use Rattle.types.specs.declared.Time.{Time}
use Rattle.types.specs.declared.Offset.{Offset}
use Rattle.std.specs.declared.option.Option as std_option
use Rattle.std.specs.declared.option.Option.TheVariants.{None, Some}
use Rattle.parser.specs.Reading.{lit, opt, pick}
use Rattle.parser.specs.Digits.{is_digit, field, fraction_of}
use Rattle.parser.specs.Fields.{preceded_by}
use Rattle.offset.specs.Rules.{offset, offset_hour, offset_zulu}
use Rattle.time.specs.declared.Clock.{Clock}
use Rattle.time.specs.declared.TimeUnit.TheVariants.{Hour, Second}
use Rattle.time.specs.Rules.{hour_of, zero_if, numbers_if, or_whole, clock_of, time_fraction, millisecond, second_millisecond, minute_second_millisecond, behind_hour, time_offset, after_hour, base_time, time}
use Rattle.time.proofs.Behind.{of_second}
use Rattle.writing.specs.Spelling.{padded, sign_byte, is_minus, is_zulu, shift_spelling, offset_spelling, clock_spelling, fraction_spelling, time_offset_spelling, time_spelling}
use Rattle.writing.proofs.Texts.{ReadAs, Refuses, lit_reads, lit_refuses, lit_refuses_end, seq_reads, seq_refuses, map_reads, map_refuses, must_reads, opt_reads, opt_lacks, alt_first, alt_second, alt_refuses, whole}
use Rattle.writing.proofs.Digits.{begins, field_reads, run_reads}
use Rattle.writing.specs.Writing.{Measures, measure}
use Rattle.writing.proofs.Laws.{Spells, measure_long, measure_none, none_measures, some_measures}
use Rattle.parser.proofs.Fields.{and_right}
use Rattle.offset_writer.proofs.Laws.{offset_reads_lem}
use Rattle.time_writer.specs.Ranges.{time_offset_given, last_hour, up_to, clock_given, time_given}
use Rattle.time_writer.proofs.Lengths.{time_size}
use Rattle.time_writer.proofs.Nine.{FractionWithin, fraction_day, fraction_back}
use Rattle.time_writer.proofs.Within.{hour_is, fraction_in, Within, time_within, last_small, no_digits}
use Rattle.time_writer.proofs.Yields.{time_yields}

-- ---- the offset at the end of a time, and what may stand behind a second

-- neither a comma, a point nor a digit stands in front
record Behind (x : List ℕ) : Type 0 where
  no_comma : Refuses (lit 44) x
  no_point : Refuses (lit 46) x
  no_digit : begins x ≡ false

behind_byte : (b : ℕ) (x : List ℕ) → eqb b 44 ≡ false → eqb b 46 ≡ false → is_digit b ≡ false → Behind (b ∷ x)
behind_byte b x e f g = record { no_comma = lit_refuses 44 e; no_point = lit_refuses 46 f; no_digit = g }

sign_behind : (t : Bool) (x : List ℕ) → Behind (sign_byte t ∷ x)
sign_behind true x = behind_byte 45 x refl refl refl
sign_behind false x = behind_byte 43 x refl refl refl

offset_behind : (o : std_option.Option Offset) → Behind (time_offset_spelling o)
unfolding time_offset_spelling offset_spelling shift_spelling
offset_behind None = record { no_comma = lit_refuses_end 44; no_point = lit_refuses_end 46; no_digit = refl }
offset_behind (Some o) = go (is_zulu o)
  where
    go : (t : Bool) → Behind (pick t (90 ∷ []) (sign_byte (is_minus o) ∷ (padded 2 (nat_abs o.hours) ++ 58 ∷ padded 2 (nat_abs o.minutes))))
    go true = behind_byte 90 [] refl refl refl
    go false = sign_behind (is_minus o) _

offset_refuses_end : Refuses offset []
unfolding offset offset_hour offset_zulu
offset_refuses_end = alt_refuses (seq_refuses _ (alt_refuses (map_refuses _ (lit_refuses_end 45)) (map_refuses _ (lit_refuses_end 43)))) (map_refuses _ (lit_refuses_end 90))

end_reads : (h : ℕ) (c : Clock) (o : std_option.Option Offset) → time_offset_given o ≡ true → ReadAs (time_offset h c) (time_offset_spelling o) [] (record { hour = h; minute = c.minute; second = c.second; nanosecond = c.fraction.nanosecond; digits = c.fraction.digits; offset = o })
unfolding time_offset time_offset_spelling time_offset_given
end_reads h c None e = map_reads _ (opt_lacks offset_refuses_end)
end_reads h c (Some o) e = map_reads _ (opt_reads (offset_reads_lem o [] e))

-- ---- the fraction, and nothing where it has no digits

record Fractional (z : Bool) (m s : ℕ) (f : Fraction) (x : List ℕ) : Type 0 where
  value : Option Clock
  is : or_whole m s value ≡ record { minute = m; second = s; fraction = f }
  reads : ReadAs (opt (time_fraction Second z m s)) (fraction_spelling f.digits f.nanosecond) x value

-- the first digits are 0 where all have to be
front_within : (z : Bool) (n u : ℕ) → n ≤ up_to z 999999999 → numbers_if z (n / u) ≡ true
front_within false n u h = refl
front_within true n u h = let none : n ≡ 0 = omega arith in rw none (le-leb (0 / u) 0 (omega (arith, zero-div u)))

fraction_is : (z : Bool) (m s : ℕ) (f : Fraction) (x : List ℕ) → FractionWithin z f → Behind x → Fractional z m s f x
unfolding fraction_spelling time_fraction
fraction_is z m s f x w b = go (eqb f.digits 0) refl
  where
    go : (t : Bool) → eqb f.digits 0 ≡ t → Fractional z m s f x
    go true e = record { value = none; is = rw (no_digits f (fraction_day z w) (eqb-true f.digits 0 e)); reads = rw e (opt_lacks (map_refuses _ (seq_refuses _ (alt_refuses b.no_comma b.no_point)))) }
    go false e =
        let k = f.digits in
        let n = f.nanosecond in
        let d = fraction_back n k (fraction_day z w).nanosecond w.fits in
        let some_digit : 0 < k = let h = eqb-false k 0 e in omega arith in
        record {
          value = some (clock_of Second m s (fraction_of (take k (padded 9 n))));
          is = rw d.fraction;
          reads = rw e (opt_reads (map_reads _ (seq_reads _ (alt_second (lit_refuses 44 refl) (lit_reads 46 _)) (run_reads fraction_of (numbers_if z) 1 d.digits (omega (arith, d.size)) b.no_digit (rw d.number (front_within z n (10 ^ (9 - k)) w.nanosecond))))));
        }

-- ---- all of it

hour_reads : (e : Edition) (h : ℕ) (x : List ℕ) → h ≤ last_hour e → ReadAs (hour_of e) (padded 2 h) x h
hour_reads e h x l = rw (hour_is e) (field_reads 2 0 (last_hour e) h x (omega arith) l (omega (arith, last_small e)))

-- a number that has to be 0 where the hour ends the day
zero_reads : (z : Bool) (hi v : ℕ) (x : List ℕ) → v ≤ up_to z hi → hi ≤ 99 → ReadAs (zero_if z (field 2 0 hi)) (padded 2 v) x v
zero_reads false hi v x h k = field_reads 2 0 hi v x (omega arith) h (omega arith)
zero_reads true hi v x h k = must_reads _ 1 (eq-eqb v 0 (omega arith)) (field_reads 2 0 hi v x (omega arith) (omega arith) (omega arith))

colon_reads : (z : Bool) (hi v : ℕ) (x : List ℕ) → v ≤ up_to z hi → hi ≤ 99 → ReadAs (preceded_by 58 (zero_if z (field 2 0 hi))) (58 ∷ padded 2 v) x v
colon_reads z hi v x h k = seq_reads _ (opt_reads (lit_reads 58 _)) (zero_reads z hi v x h k)

-- the minute, the second and the fraction, as they are spelled
abbrev behind_spelling : ℕ → ℕ → Fraction → List ℕ
behind_spelling m s k = (58 ∷ padded 2 m) ++ ((58 ∷ padded 2 s) ++ fraction_spelling k.digits k.nanosecond)

clock_reads : (r : Reading) (z : Bool) (m s : ℕ) (k : Fraction) (x : List ℕ) → Within z m s k → Behind x → ReadAs (minute_second_millisecond r z) (behind_spelling m s k) x (record { minute = m; second = s; fraction = k })
unfolding minute_second_millisecond second_millisecond millisecond
clock_reads r z m s k x w b =
    let f = fraction_is z m s k x w.fraction b in
    rw (← f.is)
    (seq_reads _ (colon_reads z 59 m _ w.minute (omega arith)) (seq_reads _ (opt_reads (colon_reads z 60 s _ w.second (omega arith))) (rw (of_second r s) (map_reads (or_whole m s) f.reads))))

behind_reads : (r : Reading) (z : Bool) (m s : ℕ) (k : Fraction) (x : List ℕ) → Within z m s k → Behind x → ReadAs (behind_hour r z) (behind_spelling m s k) x (record { minute = m; second = s; fraction = k })
unfolding behind_hour
behind_reads Old z m s k x w b = clock_reads Old z m s k x w b
behind_reads Standard z m s k x w b = alt_first (time_fraction Hour z 0 0) (clock_reads Standard z m s k x w b)

pub base_reads : (c : Choices) (t : Time) → time_given c t ≡ true → ReadAs (base_time c) (time_spelling t) [] t
unfolding base_time after_hour time_spelling clock_spelling
base_reads c t e =
    let w = time_within c t e in
    let o = time_offset_spelling t.offset in
    let same : time_spelling t ≡ padded 2 t.hour ++ (behind_spelling t.minute t.second (fraction_in t) ++ o) = simp append_assoc in
    rw same
    (seq_reads _ (hour_reads c.edition t.hour _ w.hour)
    (seq_reads _ (opt_reads (behind_reads c.reading _ t.minute t.second (fraction_in t) _ w.behind (rw (append-nil o) (offset_behind t.offset)))) (end_reads t.hour _ t.offset w.offset)))

-- no `T` stands in front of the hour
no_t : (t : Time) → Refuses (lit 84) (time_spelling t ++ [])
unfolding time_spelling clock_spelling padded
no_t t = lit_refuses 84 (ne_eqb (48 + t.hour / 10 % 10) 84 (λ e. omega arith))

time_reads_lem : (c : Choices) (t : Time) → time_given c t ≡ true → ReadAs (time c) (time_spelling t) [] t
unfolding time
time_reads_lem c t e = seq_reads _ (opt_lacks (no_t t)) (base_reads c t e)

pub time_spells : (c : Choices) → Spells (time c) time_spelling (time_given c)
time_spells c = record { back = λ t e. whole (time_reads_lem c t e); ranges = λ t r. (time_yields c).fact r.bytes 0 t r.count r.reads }

-- ---- what is measured, by the parts

module _ (c : Choices) (t : Time) where
  pub no_clock_measures : clock_given c.edition t ≡ false → Measures (time c) t (time_spelling t) None
  unfolding time_given
  no_clock_measures e = none_measures (time_spells c) t (rw e)

  pub no_offset_measures : measure (time_offset_given t.offset) (length (time_offset_spelling t.offset)) ≡ None → Measures (time c) t (time_spelling t) None
  unfolding time_given
  no_offset_measures e = none_measures (time_spells c) t (and_right (clock_given c.edition t) (measure_none (time_offset_given t.offset) _ e))

  pub parts_measure : {f n : ℕ} → clock_given c.edition t ≡ true → f ≡ length (fraction_spelling t.digits t.nanosecond) → measure (time_offset_given t.offset) (length (time_offset_spelling t.offset)) ≡ Some n
      → Measures (time c) t (time_spelling t) (Some (8 + f + n))
  unfolding time_given
  parts_measure e g h =
      let offset = measure_long (time_offset_given t.offset) h in
      some_measures (time_spells c) t (rw (e, offset.0)) (omega (arith, time_size t, g, offset.1))
