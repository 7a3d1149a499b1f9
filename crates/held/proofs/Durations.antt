-- Durations: each number is the one whose 64 bits its slot has, and no other is.
use Prim.Native.Nat.{ℕ, ◌<◌, ◌≤◌, ◌^◌}
use mathlib.Core.List.{[], ◌∷◌}
use mathlib.Core.Path.{◌≡◌, refl, sym, ◌∙◌}
use native.Mathlib.Omega.{arith}
use lib.IntN.{ℤ}
use mir.Syntax.{w64}
use mir.Val.{SFits, of_z}
use mir.Facts.{to_z_inj, to_z-of_z}
use Rattle.parser.specs.Digits.{limit}
use Rattle.slots.specs.Slots.{as_slot, duration_slots}
use Rattle.slots.proofs.Stores.{◌then◌, slot_bits}
use Rattle.duration_writer.specs.Ranges.{duration_given}
use Rattle.duration_writer.proofs.Within.{given_within}
use Rattle.held.specs.Held.{Made}

slot_once : (a b : ℕ) → a < 2 ^ 64 → b < 2 ^ 64 → as_slot a ≡ as_slot b → a ≡ b
slot_once a b ha hb e = to_z_inj {w = w64} (record { fits = ha }) (record { fits = hb }) (sym (slot_bits a) ∙ e ∙ slot_bits b)

pub bits_held : (z : ℤ) → SFits w64 z → as_slot (of_z w64 z) ≡ z
bits_held z h = slot_bits (of_z w64 z) ∙ to_z-of_z h

-- a number of 64 bits that its slot holds is the only one
pub record Number (z : ℤ) (n : ℕ) : Type 0 where
  pub is : as_slot n ≡ z
  pub fits : n < 2 ^ 64

number_found_lem : {z : ℤ} {n : ℕ} → Number z n → (k : ℕ) → k ≤ limit → as_slot k ≡ z → n ≡ k
number_found_lem {n = n} h k l e = slot_once n k h.fits (omega arith) (h.is ∙ sym e)

module _ {a b c d e f g : ℤ} {y mo w dd h m s : ℕ} (p₁ : Number a y) (p₂ : Number b mo) (p₃ : Number c w) (p₄ : Number d dd) (p₅ : Number e h) (p₆ : Number f m) (p₇ : Number g s) where
  pub duration_made : Made duration_given duration_slots (a ∷ b ∷ c ∷ d ∷ e ∷ f ∷ g ∷ []) (record { years = y; months = mo; weeks = w; days = dd; hours = h; minutes = m; seconds = s })
  duration_made = record {
    found = λ x given i.
        let l = given_within x given in
        rw (number_found_lem p₁ x.years l.years (cc), number_found_lem p₂ x.months l.months (cc), number_found_lem p₃ x.weeks l.weeks (cc), number_found_lem p₄ x.days l.days (cc), number_found_lem p₅ x.hours l.hours (cc), number_found_lem p₆ x.minutes l.minutes (cc), number_found_lem p₇ x.seconds l.seconds (cc));
    held = λ _. p₁.is then p₂.is then p₃.is then p₄.is then p₅.is then p₆.is then p₇.is then refl;
  }
