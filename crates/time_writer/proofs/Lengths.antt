-- How long a time's spelling is: eight bytes, at most ten of the fraction, at most six of the offset.
use Prim.Native.Nat.{ℕ, ◌+◌, ◌-◌, ◌/◌, ◌^◌, ◌<◌, ◌≤◌}
use mathlib.Core.List.{◌++◌}
use mathlib.Core.Bool.{Bool, true, false}
use mathlib.Core.Path.{◌≡◌, refl, ap, ◌∙◌}
use native.Mathlib.Omega.{arith}
use borrow.Author.Tests.{eqb-true, eqb-false, eq-eqb, ne_eqb}
use lib.Dec.{eqb}
use lib.ListN.{length, length-append}
use Rattle.types.specs.declared.Time.{Time}
use Rattle.types.specs.declared.Offset.{Offset}
use Rattle.std.specs.declared.option.Option.{Option}
use Rattle.std.specs.declared.option.Option.TheVariants.{None, Some}
use Rattle.parser.specs.Digits.{up_to_nine}
use Rattle.offset.specs.Rules.{offset}
use Rattle.writing.specs.Writing.{Measures, measure}
use Rattle.writing.proofs.Laws.{measure_long, measures_is}
use Rattle.offset_writer.specs.Ranges.{offset_given}
use Rattle.offset_writer.proofs.Laws.{offset_spells}
use Rattle.writing.specs.Spelling.{padded, offset_spelling, clock_spelling, fraction_spelling, time_offset_spelling, time_spelling}
use Rattle.offset_writer.proofs.Lengths.{offset_short}
use Rattle.writing.proofs.Digits.{length_padded}
use Rattle.time_writer.specs.Ranges.{time_offset_given}
use Rattle.time_writer.proofs.Nine.{nine_most, first_of_nine}

-- nothing, or a point and the digits
pub fraction_none : (k n : ℕ) → k ≡ 0 → length (fraction_spelling k n) ≡ 0
unfolding fraction_spelling
fraction_none k n e = rw (eq-eqb k 0 e)

pub fraction_some : (k n : ℕ) → 0 < k → length (fraction_spelling k n) ≡ up_to_nine k + 1
unfolding fraction_spelling
fraction_some k n h = rw (ne_eqb k 0 (λ e. omega arith), first_of_nine k n) (omega (arith, length_padded (up_to_nine k) (n / 10 ^ (9 - up_to_nine k))))

pub fraction_short : (k n : ℕ) → length (fraction_spelling k n) ≤ 10
fraction_short k n = go (eqb k 0) refl
  where
    go : (t : Bool) → eqb k 0 ≡ t → length (fraction_spelling k n) ≤ 10
    go true e = omega (arith, fraction_none k n (eqb-true k 0 e))
    go false e = let h = eqb-false k 0 e in omega (arith, fraction_some k n (omega arith), nine_most k)

pub zone_short : (o : Option Offset) → length (time_offset_spelling o) ≤ 6
unfolding time_offset_spelling
zone_short None = omega arith
zone_short (Some o) = offset_short o

pub zone_most : (o : Option Offset) {n : ℕ} → measure (time_offset_given o) (length (time_offset_spelling o)) ≡ Some n → n ≤ 6
zone_most o e = omega (arith, (measure_long (time_offset_given o) e).1, zone_short o)

pub time_size : (t : Time) → length (time_spelling t) ≡ 8 + length (fraction_spelling t.digits t.nanosecond) + length (time_offset_spelling t.offset)
unfolding time_spelling clock_spelling padded
time_size t =
    let c = clock_spelling t.hour t.minute t.second in
    let f = fraction_spelling t.digits t.nanosecond in
    length-append (c ++ f) (time_offset_spelling t.offset) ∙ ap (λ (k : ℕ). k + length (time_offset_spelling t.offset)) (length-append c f)

pub time_short : (t : Time) → length (time_spelling t) ≤ 24
time_short t = omega (arith, time_size t, fraction_short t.digits t.nanosecond, zone_short t.offset)

-- what the offset's own writer measures
pub offset_measured : (o : Offset) {m : Option ℕ} → Measures offset o (offset_spelling o) m → m ≡ measure (offset_given o) (length (offset_spelling o))
offset_measured o h = measures_is offset_spells h
