-- Offsets are read back from their spelling: the sign is the one that hours and minutes carry, and a zero offset is `Z`.
use Prim.Native.Nat.{ℕ, zero, suc, ◌≤◌}
use mathlib.Core.List.{List, [], ◌∷◌, ◌++◌}
use mathlib.Core.Bool.{Bool, true, false}
use mathlib.Core.Path.{◌≡◌, refl}
use native.Mathlib.Omega.{arith}
use borrow.Author.Tests.{le-leb, leb-true, ne_eqb}
use lib.Dec.{leb, eqb}
use lib.IntN.{nat_abs}
use lib.ListN.{length}
use Rattle.types.specs.declared.Offset.{Offset}
use Rattle.types.specs.Sums.{signed_offset, made}
use Rattle.types.proofs.Laws.{Signed, one_sign_only, made_is_proper}
use Rattle.parser.specs.Reading.{lit}
use Rattle.parser.specs.Fields.{signed, or_zero}
use Rattle.parser.proofs.Fields.{and_first, and_second}
use Rattle.offset.specs.Rules.{allowed, offset_minute, offset_hour, offset_zulu, offset}
use Rattle.writing.specs.Spelling.{padded, sign_byte, shift_spelling, offset_spelling}
use Rattle.writing.proofs.Texts.{ReadAs, lit_reads, lit_refuses, seq_reads, seq_refuses, map_reads, map_refuses, verify_reads, opt_reads, alt_first, alt_second, alt_refuses, whole}
use Rattle.writing.proofs.Digits.{nat_abs_signed, field_reads}
use Rattle.writing.proofs.Yields.{Yields, seq_yields, map_yields, opt_yields, alt_yields, verify_yields, preceded_yields, field_yields, anything, absent_within}
use Rattle.writing.specs.Writing.{Measures, measure}
use Rattle.writing.proofs.Laws.{Spells, given_measures}
use Rattle.offset_writer.specs.Ranges.{offset_given}

sign_reads : (minus : Bool) (x : List ℕ) → ReadAs signed (sign_byte minus ∷ []) x minus
sign_reads true x = alt_first _ (map_reads _ (lit_reads 45 x))
sign_reads false x = alt_second (map_refuses _ (lit_refuses 45 refl)) (map_reads _ (lit_reads 43 x))

-- a signed `HH:MM`, but for minus zero
shift_reads : (minus : Bool) (h m : ℕ) (x : List ℕ) → h ≤ 23 → m ≤ 59 → allowed minus h m ≡ true → ReadAs offset (sign_byte minus ∷ padded 2 h ++ 58 ∷ padded 2 m) x (signed_offset minus h m)
unfolding offset offset_hour offset_minute
shift_reads minus h m x hh hm ok =
    alt_first _
    (seq_reads _ (sign_reads minus _)
    (seq_reads _ (field_reads 2 0 23 h _ (omega arith) hh (omega arith))
    (map_reads _ (verify_reads _ ok (opt_reads (seq_reads _ (opt_reads (lit_reads 58 _)) (field_reads 2 0 59 m x (omega arith) hm (omega arith))))))))

zulu_reads : (x : List ℕ) → ReadAs offset (90 ∷ []) x (signed_offset false 0 0)
unfolding offset offset_hour offset_zulu
zulu_reads x = alt_second (seq_refuses _ (alt_refuses (map_refuses _ (lit_refuses 45 refl)) (map_refuses _ (lit_refuses 43 refl)))) (map_reads _ (lit_reads 90 x))

not_zero_lem : (n : ℕ) → eqb (suc n) 0 ≡ false
not_zero_lem n = ne_eqb (suc n) 0 (λ e. omega arith)

-- of one sign, hours and minutes: all but minus zero have that sign in their spelling
signed_reads : (minus : Bool) (h m : ℕ) (x : List ℕ) → h ≤ 23 → m ≤ 59 → ReadAs offset (offset_spelling (signed_offset minus h m)) x (signed_offset minus h m)
unfolding offset_spelling shift_spelling
signed_reads false zero zero x a b = zulu_reads x
signed_reads true zero zero x a b = zulu_reads x
signed_reads false zero (suc m) x a b = rw (not_zero_lem m) (shift_reads false 0 (suc m) x a b refl)
signed_reads false (suc h) m x a b = rw (not_zero_lem h) (shift_reads false (suc h) m x a b refl)
signed_reads true zero (suc m) x a b = rw (not_zero_lem m) (shift_reads true 0 (suc m) x a b (rw (not_zero_lem m)))
signed_reads true (suc h) m x a b = rw (not_zero_lem h, nat_abs_signed true m) (shift_reads true (suc h) m x a b (rw (not_zero_lem h)))

-- where there is one sign, the sizes are hours and minutes
of_signed : {o : Offset} (s : Signed o) (x : List ℕ) → nat_abs o.hours ≤ 23 → nat_abs o.minutes ≤ 59 → ReadAs offset (offset_spelling o) x o
of_signed s x a b = rw s.is (signed_reads s.minus s.hour s.minute x (rw (s.is, nat_abs_signed s.minus s.hour) at a) (rw (s.is, nat_abs_signed s.minus s.minute) at b))

pub offset_reads_lem : (o : Offset) (x : List ℕ) → offset_given o ≡ true → ReadAs offset (offset_spelling o) x o
unfolding offset_given
offset_reads_lem o x e =
    let hours = leb-true (nat_abs o.hours) 23 (and_first (leb (nat_abs o.hours) 23) _ e) in
    let f = and_second (leb (nat_abs o.hours) 23) e in
    let minutes = leb-true (nat_abs o.minutes) 59 (and_first (leb (nat_abs o.minutes) 59) _ f) in
    of_signed (one_sign_only o (and_second (leb (nat_abs o.minutes) 59) f)) x hours minutes

given_signed : (minus : Bool) (h m : ℕ) → h ≤ 23 → m ≤ 59 → offset_given (signed_offset minus h m) ≡ true
unfolding offset_given made
given_signed minus h m a b =
    let proper = made_is_proper minus h m (signed_offset minus h m) (rw (le-leb h 23 a, le-leb m 59 b)) in
    rw (nat_abs_signed minus h, nat_abs_signed minus m, le-leb h 23 a, le-leb m 59 b) proper.one_sign

pub offset_yields : Yields (λ o. offset_given o ≡ true) offset
unfolding offset offset_hour offset_minute offset_zulu
offset_yields =
    alt_yields
    (seq_yields _ (anything signed) (λ minus z. seq_yields _ (field_yields 2 0 23) (λ h fh.
    map_yields _ (λ m fm. given_signed minus h (or_zero m) fh.1 (absent_within 59 m fm)) (verify_yields _ (λ m g t. g) (opt_yields (preceded_yields 58 (field_yields 2 0 59)))))))
    (map_yields _ (λ u z. given_signed false 0 0 (omega arith) (omega arith)) (anything (lit 90)))

pub offset_spells : Spells offset offset_spelling offset_given
offset_spells = record { back = λ o e. whole (offset_reads_lem o [] e); ranges = λ o r. offset_yields.fact r.bytes 0 o r.count r.reads }

pub offset_measures : (o : Offset) {t : Bool} {n : ℕ} → t ≡ offset_given o → n ≡ length (offset_spelling o) → Measures offset o (offset_spelling o) (measure t n)
offset_measures o e f = given_measures offset_spells o e f
