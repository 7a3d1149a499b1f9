-- A field takes so many bytes, and no comma or point.
use Prim.Native.Nat.{ℕ, zero, suc, ◌+◌, ◌*◌, ◌-◌, ◌≤◌}
use mathlib.Core.List.{List}
use mathlib.Core.Bool.{Bool, true, false}
use mathlib.Core.Path.{◌≡◌, refl, sym}
use native.Mathlib.Omega.{arith}
use lib.ListN.{length, get_or}
use lib.Dec.{ltb, leb}
use borrow.Author.Tests.{ltb-false}
use Rattle.parser.specs.Reading.{Found, no, got, pick, and}
use Rattle.parser.specs.Digits.{is_digit, digits_from, digits_more, field, reach}
use Rattle.parser.proofs.Fields.{true≢false}
use Rattle.parser.proofs.Places.{no≢got, got_place, field_bounded, field_foreign}
use Rattle.shortening.specs.Points.{is_point}
use Rattle.shortening.proofs.Local.{field_local}
use Rattle.shortening.proofs.Spans.{Spans}
use Rattle.shortening.proofs.Families.{fractions, apart, by_point, by_apart, Reaches, reaches_one, digit_no_slash}
use Rattle.shortening.proofs.Trims.{Trims, foreign_simulates}

pub point_no_digit : (b : ℕ) → is_point b ≡ true → is_digit b ≡ false
point_no_digit = by_point (λ b. is_digit b ≡ false) refl refl

pub apart_no_digit : (b : ℕ) → apart fractions b ≡ true → is_digit b ≡ false
apart_no_digit = by_apart (λ b. is_digit b ≡ false) refl refl refl

-- a digit, and what stands behind it
digit_spans : (s : List ℕ) (from k at : ℕ) (m : Bool) (f : Found ℕ) (t u r : Bool) → ltb at (length s) ≡ t → is_digit (get_or s at 0) ≡ u → Reaches s from at → (Reaches s from (at + 1) → Spans (Reaches s from) s k (at + 1) m f) → Spans (Reaches s from) s (suc k) at (pick t (pick (and t u) m false) r) (pick (and t u) f no)
digit_spans s from k at m f true true r e is g h =
    let x = h (reaches_one g (digit_no_slash (get_or s at 0) is)) in
    record { opens = λ o. omega (arith, x.opens o); ends = λ a n i. let y = x.ends a n i in (omega (arith, y.0), y.1) }
digit_spans s from k at m f true false r e is g h = record { opens = λ o. absurd (true≢false (sym o)); ends = λ a n i. absurd (no≢got i) }
digit_spans s from k at m f false u r e is g h = record { opens = λ o. omega (arith, ltb-false at (length s) e); ends = λ a n i. absurd (no≢got i) }

digits_spans : (lo hi n v : ℕ) (s : List ℕ) (from at : ℕ) → Reaches s from at → Spans (Reaches s from) s n at (digits_more lo hi n v s at) (digits_from lo hi n v s at)
unfolding digits_more digits_from
digits_spans lo hi zero v s from at g = record { opens = λ o. absurd (true≢false (sym o)); ends = λ a n e. go a n (and (leb lo v) (leb v hi)) e }
  where
    go : (a n : ℕ) (t : Bool) → pick t (got v at) no ≡ got a n → (n ≤ at + 0) × Reaches s from n
    go a n true e = let here = got_place e in (omega arith, rw (← here) g)
    go a n false e = absurd (no≢got e)
digits_spans lo hi (suc k) v s from at g = digit_spans s from k at _ _ (ltb at (length s)) (is_digit (get_or s at 0)) (reach lo hi (suc k) v) refl refl g (digits_spans lo hi k (v * 10 + (get_or s at 0 - 48)) s from (at + 1))

pub field_trims : (n lo hi : ℕ) → Trims fractions n (field n lo hi)
unfolding field
field_trims n lo hi = record {
  local = field_local n lo hi;
  simulates = foreign_simulates fractions (field n lo hi) (field_local n lo hi) (field_bounded n lo hi) (field_foreign (λ b. apart fractions b ≡ true) n lo hi apart_no_digit);
  within = λ s from h at g. digits_spans lo hi n 0 s from at g;
}
