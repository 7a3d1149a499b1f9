-- Where a minute or a second is still open neither a comma nor a point stands, so that no fraction is read there.
use Prim.Native.Nat.{ℕ}
use mathlib.Core.List.{List, [], ◌∷◌}
use mathlib.Core.Bool.{Bool, true, false}
use mathlib.Core.Option.{some, none}
use mathlib.Core.Path.{◌≡◌, refl, sym, ◌∙◌}
use lib.Dec.{ltb, eqb}
use lib.ListN.{length, get_or}
use borrow.Author.Tests.{eqb-true}
use Rattle.types.specs.declared.Reading.{Reading}
use Rattle.parser.specs.Reading.{Found, no, got, stop, Reader, lit, seq, after, opt, lack, alt, must, map, map_found, or}
use Rattle.parser.specs.Digits.{is_digit, field, digits_more}
use Rattle.parser.specs.Fields.{minute, second, either, preceded_by}
use Rattle.parser.proofs.Fields.{true≢false}
use Rattle.parser.proofs.Places.{no≢got, no≢stop, Fails}
use Rattle.parser.proofs.Hopeful.{AtEnd}
use Rattle.parser.proofs.Items.{either_mark}
use Rattle.time.specs.declared.TimeUnit.{TimeUnit}
use Rattle.time.specs.Rules.{zero_if, or_whole, unit_of, time_fraction, millisecond, second_millisecond, minute_second_millisecond}

abbrev pub mark : Reader Unit
mark = either 44 46

pub mark_at_end : AtEnd mark
mark_at_end = (either_mark {l = 44 ∷ 46 ∷ []} 44 46 refl refl).at_end

pub mark_fails : Fails mark
mark_fails = (either_mark {l = 44 ∷ 46 ∷ []} 44 46 refl refl).item.fails

-- where a comma or point stands no number is open
marked_settled : (hi : ℕ) (s : List ℕ) (at : ℕ) (b : ℕ) → ltb at (length s) ≡ true → get_or s at 0 ≡ b → is_digit b ≡ false → eqb b 58 ≡ false → (preceded_by 58 (field 2 0 hi)).more s at ≡ false
unfolding seq opt lit field digits_more
marked_settled hi s at b i e d c = simp (i, e, d, c)

no_mark : (hi : ℕ) (s : List ℕ) (at : ℕ) → (preceded_by 58 (field 2 0 hi)).more s at ≡ true → mark.reads s at ≡ no
unfolding alt lit
no_mark hi s at h = go (ltb at (length s)) refl (eqb (get_or s at 0) 44) refl (eqb (get_or s at 0) 46) refl
  where
    go : (t : Bool) → ltb at (length s) ≡ t → (u : Bool) → eqb (get_or s at 0) 44 ≡ u → (v : Bool) → eqb (get_or s at 0) 46 ≡ v → mark.reads s at ≡ no
    go false i u eu v ev = rw i
    go true i true eu v ev = absurd (true≢false (sym h ∙ marked_settled hi s at 44 i (eqb-true (get_or s at 0) 44 eu) refl refl))
    go true i false eu true ev = absurd (true≢false (sym h ∙ marked_settled hi s at 46 i (eqb-true (get_or s at 0) 46 ev) refl refl))
    go true i false eu false ev = rw (i, eu, ev)

-- whether or not the number has to be 0
pub zero_no_mark : (z : Bool) (hi : ℕ) (s : List ℕ) (at : ℕ) → (preceded_by 58 (zero_if z (field 2 0 hi))).more s at ≡ true → mark.reads s at ≡ no
unfolding seq opt must
zero_no_mark false hi s at h = no_mark hi s at h
zero_no_mark true hi s at h = no_mark hi s at h

-- and there no fraction is read
pub no_fraction : (u : TimeUnit) (z : Bool) (mi se : ℕ) (s : List ℕ) (at : ℕ) → mark.reads s at ≡ no → (time_fraction u z mi se).reads s at ≡ no
unfolding time_fraction map seq
no_fraction u z mi se s at e = rw e

-- ---- what may be absent is no failure: so a minute that is there is read, or what follows it stops the reading

lack_some : {A : Type 0} (at : ℕ) (f : Found A) → lack at f ≡ no → ⊥
lack_some at no e = no≢got (sym e)
lack_some at (stop r) e = no≢stop (sym e)
lack_some at (got a n) e = no≢got (sym e)

map_some : {A B : Type 0} (g : A → B) (f : Found A) → (f ≡ no → ⊥) → map_found g f ≡ no → ⊥
map_some g no h e = h refl
map_some g (stop r) h e = no≢stop (sym e)
map_some g (got a n) h e = no≢got (sym e)

second_some : (r : Reading) (z : Bool) (mi : ℕ) (s : List ℕ) (at : ℕ) → (second_millisecond r z mi).reads s at ≡ no → ⊥
unfolding second_millisecond millisecond seq opt map
second_some r z mi s at e = go ((preceded_by 58 (zero_if z second)).reads s at) refl
  where
    behind : (o : TimeUnit) (se n : ℕ) → (millisecond o z mi se).reads s n ≡ no → ⊥
    behind o se n e = map_some (or_whole mi se) (lack n ((time_fraction o z mi se).reads s n)) (lack_some n ((time_fraction o z mi se).reads s n)) e

    go : (f : Found ℕ) → (preceded_by 58 (zero_if z second)).reads s at ≡ f → ⊥
    go no ef = behind (unit_of r none) 0 at (rw ef at e)
    go (stop q) ef = no≢stop (sym (rw ef at e))
    go (got se n) ef = behind (unit_of r (some se)) se n (rw ef at e)

pub minute_no_mark : (r : Reading) (z : Bool) (s : List ℕ) (at : ℕ) → (minute_second_millisecond r z).more s at ≡ true → (minute_second_millisecond r z).reads s at ≡ no → mark.reads s at ≡ no
unfolding minute_second_millisecond seq
minute_no_mark r z s at h e = go (colon.more s at) refl (colon.reads s at) refl h
  where
    colon : Reader ℕ
    colon = preceded_by 58 (zero_if z minute)

    go : (m : Bool) → colon.more s at ≡ m → (f : Found ℕ) → colon.reads s at ≡ f → or m (after f (λ mi n. (second_millisecond r z mi).more s n)) ≡ true → mark.reads s at ≡ no
    go true em f ef h = zero_no_mark z 59 s at em
    go false em no ef h = absurd (true≢false (sym h))
    go false em (stop q) ef h = absurd (true≢false (sym h))
    go false em (got mi n) ef h = absurd (second_some r z mi s n (rw ef at e))
