-- What stands at a place, by the run that is read there and by the first bytes.
use Prim.Native.Nat.{ℕ, ◌+◌, ◌*◌, ◌-◌, ◌<◌, ◌≤◌}
use mathlib.Core.List.{List, [], ◌∷◌}
use mathlib.Core.Bool.{Bool, true, false, not}
use mathlib.Core.Path.{◌≡◌, refl, sym, ◌∙◌}
use native.Mathlib.Omega.{arith}
use lib.ListN.{length, get_or}
use lib.Dec.{ltb, leb, eqb}
use borrow.Author.Tests.{ltb-true, ltb-false, lt-ltb, le-ltb, le-leb, eqb-true, not-false, not-true}
use Rattle.parser.specs.Reading.{no, got, stop, lit, pick, and, Says}
use Rattle.parser.specs.Digits.{is_digit, number, number_from, run_at, of_run, at_the_end, at_most, limit, run_as, run}
use Rattle.parser.proofs.Fields.{and_first, and_true, and_right, digit_within, DigitAt, OtherAt}
use Rattle.parser.proofs.Runs.{run_step, run_other, run_end}
use Rattle.parser.proofs.Places.{stop≢got, RunFound, run_found_lem}
use Rattle.parts.specs.Items.{item_of, item_at, past, part_at, item_behind, Tries}
use Rattle.parts.specs.declared.Item.{Item}
use Rattle.parts.specs.declared.Tried.{Tried}
use Rattle.types.specs.declared.Refusal.{Refusal}
use Rattle.types.specs.declared.Refusal.TheVariants.{NoForm, TooBig, LeftOver}
use Rattle.types.specs.Numbers.{number_of}
use Rattle.parser.specs.Read.{missed, cut}
use Rattle.parser.specs.declared.Miss.{Miss}
use Rattle.parser.specs.declared.Miss.TheVariants as miss
use Rattle.std.specs.declared.result.Result.{Result}
use Rattle.std.specs.declared.result.Result.TheVariants.{Ok, Err}

-- ---- a run that has a value ends inside the input, or open at its end

module _ (s : List ℕ) (at v n : ℕ) (e : run.reads s at ≡ got v n) where
  found : RunFound number (at_most limit) s at v n
  found = run_found_lem number (at_most limit) 2 s at v n e

  pub run_inside : run.more s at ≡ false → n < length s
  unfolding run_as
  run_inside m = omega (arith, found.place, ltb-true (at + length (run_at s at)) (length s) (not-false _ (sym (and_true (at_the_end s at)) ∙ rw found.may_be at m)))

  pub run_to_end : run.more s at ≡ true → length s ≤ n
  unfolding run_as
  run_to_end m = omega (arith, found.place, ltb-false (at + length (run_at s at)) (length s) (not-true _ (and_first (at_the_end s at) _ m)))

-- a run stops with 2 alone
pub run_stop : (s : List ℕ) (at r : ℕ) → run.reads s at ≡ stop r → (r ≡ 2) × (run.more s at ≡ false)
unfolding run_as
run_stop s at r e = go (run_at s at) (leb (number (run_at s at)) limit) e
  where
    go : (d : List ℕ) (t : Bool) → of_run d no (pick t (got (number d) (at + length d)) (stop 2)) ≡ stop r → (r ≡ 2) × (and (not (ltb (at + length d) (length s))) t ≡ false)
    go [] t e = absurd (let z : ◌≡◌ {A = ℕ} 0 1 = cc in omega arith)
    go (b ∷ d) true e = absurd (stop≢got (sym e))
    go (b ∷ d) false e = (cc, and_right (not (ltb (at + length (b ∷ d)) (length s))) refl)

-- an item by its fields
abbrev pub item : ℕ → ℕ → ℕ → Item
item v b n = record { value = v; letter = b; next = n }

-- what the code makes of a run is what stands there
module _ (s : List ℕ) (at : ℕ) where
  pub missed_item : (m : Miss) → Says run s at (missed m) (cut m) → item_at s at ≡ Err m
  unfolding item_at
  missed_item miss.Wrong h = rw (← h.found, ← h.more)
  missed_item miss.Cut h = rw (← h.found, ← h.more)
  missed_item (miss.Stopped why) h = rw (← h.found, too_big why (run_stop s at (number_of why) (sym h.found)).0)
    where
      too_big : (r : Refusal) → number_of r ≡ 2 → r ≡ TooBig
      too_big NoForm e = absurd (omega arith)
      too_big TooBig e = refl
      too_big LeftOver e = absurd (omega arith)

  pub got_item : (v n : ℕ) (m : Bool) → Says run s at (got v n) m → item_at s at ≡ item_of s (got v n) m
  unfolding item_at
  got_item v n m h = rw (← h.found, ← h.more)

-- ---- what stands at a place, by its first bytes

pub end_item : (s : List ℕ) (at : ℕ) → length s ≤ at → item_at s at ≡ Err miss.Cut
unfolding item_at run_as number_from
end_item s at h = rw (run_end s at h, le-ltb (at + 0) (length s) (omega arith))

pub other_item : (s : List ℕ) (at : ℕ) → OtherAt s at → item_at s at ≡ Err miss.Wrong
unfolding item_at run_as number_from
other_item s at o = rw (run_other s at o, lt-ltb (at + 0) (length s) (omega (arith, ltb-true at (length s) o.inside)))

-- a single digit
module _ (s : List ℕ) (at : ℕ) (d : DigitAt s at) where
  alone : 0 * 10 + (get_or s at 0 - 48) ≡ get_or s at 0 - 48
  alone = omega arith

  small : leb (get_or s at 0 - 48) limit ≡ true
  small = le-leb (get_or s at 0 - 48) limit (omega (arith, (digit_within (get_or s at 0) d.is).1))

  pub digit_item : OtherAt s (at + 1) → item_at s at ≡ Ok (item (get_or s at 0 - 48) (get_or s (at + 1) 0) (at + 2))
  unfolding item_at run_as number_from
  digit_item o =
      let next : at + 1 + 1 ≡ at + 2 = omega arith in
      simp (run_step s at d, run_other s (at + 1) o, alone, small, lt-ltb (at + 1) (length s) (ltb-true (at + 1) (length s) o.inside), next)

  pub last_digit_item : length s ≤ at + 1 → item_at s at ≡ Err miss.Cut
  unfolding item_at run_as number_from
  last_digit_item h = simp (run_step s at d, run_end s (at + 1) h, alone, small, le-ltb (at + 1) (length s) h)

-- where a letter stands, no part begins
pub no_letter : (c : ℕ) (s : List ℕ) (at : ℕ) → is_digit c ≡ false → (item_at s at ≡ Err miss.Wrong → ⊥) → (lit c).reads s at ≡ no
unfolding lit
no_letter c s at d h = go (ltb at (length s)) (eqb (get_or s at 0) c) refl refl
  where
    go : (t u : Bool) → ltb at (length s) ≡ t → eqb (get_or s at 0) c ≡ u → (lit c).reads s at ≡ no
    go true true i e = absurd (h (other_item s at (record { inside = i; is = rw (eqb-true (get_or s at 0) c e) d })))
    go true false i e = rw (i, e)
    go false u i e = rw i

-- two digits
module _ (s : List ℕ) (at : ℕ) (d : DigitAt s at) (e : DigitAt s (at + 1)) where
  abbrev value : ℕ
  value = (get_or s at 0 - 48) * 10 + (get_or s (at + 1) 0 - 48)

  value_is : (0 * 10 + (get_or s at 0 - 48)) * 10 + (get_or s (at + 1) 0 - 48) ≡ value
  value_is = omega arith

  value_small : leb value limit ≡ true
  value_small = le-leb value limit (omega (arith, (digit_within (get_or s at 0) d.is).1, (digit_within (get_or s (at + 1) 0) e.is).1))

  p : at + 1 + 1 ≡ at + 2
  p = omega arith

  pub two_digit_item : OtherAt s (at + 2) → item_at s at ≡ Ok (item value (get_or s (at + 2) 0) (at + 3))
  unfolding item_at run_as number_from
  two_digit_item o =
      let q : at + 2 + 1 ≡ at + 3 = omega arith in
      simp (run_step s at d, run_step s (at + 1) e, p, run_other s (at + 2) o, value_is, value_small, lt-ltb (at + 2) (length s) (ltb-true (at + 2) (length s) o.inside), q)

  pub last_two_item : length s ≤ at + 2 → item_at s at ≡ Err miss.Cut
  unfolding item_at run_as number_from
  last_two_item h = simp (run_step s at d, run_step s (at + 1) e, p, run_end s (at + 2) h, value_is, value_small, le-ltb (at + 2) (length s) h)

-- ---- a part that is tried, by what stands at its place

module _ (s : List ℕ) (at c : ℕ) (i : Result Item Miss) (r : Tried) where
  pub tried_part : Tries s at c i r → i ≡ item_at s at → r.part ≡ part_at s at c
  tried_part t e = rw e at t.part

  -- what stands at the place behind it
  pub tried_item : Tries s at c i r → i ≡ item_at s at → r.item ≡ item_at s r.part.next
  tried_item t e = rw t.part (t.item ∙ stands i e)
    where
      stands : (j : Result Item Miss) → j ≡ item_at s at → item_behind s c j ≡ item_at s (past c at j)
      stands (Ok j) e = letter (eqb j.letter c)
        where
          letter : (u : Bool) → pick u (item_at s j.next) (Ok j) ≡ item_at s (pick u j.next at)
          letter true = refl
          letter false = e
      stands (Err m) e = e
