-- The dash after the year is read once: with it alternative 2 is out, and without it alternative 4.
use Prim.Native.Nat.{ℕ, ◌+◌, ◌<◌, ◌≤◌}
use mathlib.Core.List.{List}
use mathlib.Core.Bool.{Bool, true, false}
use mathlib.Core.Path.{◌≡◌, refl, sym, ◌∙◌}
use native.Mathlib.Omega.{arith}
use lib.ListN.{length, get_or}
use lib.Dec.{ltb, leb, eqb}
use lib.IntN.{ℤ}
use borrow.Author.Tests.{ltb-false, leb-true, leb-false, eqb-true}
use Rattle.types.specs.declared.Date.{Date}
use Rattle.types.specs.declared.Date.TheVariants.{YMD}
use Rattle.parser.specs.Reading.{Found, no, got, lit, seq, alt, map, Says}
use Rattle.parser.specs.Digits.{digit}
use Rattle.parser.specs.Fields.{month, day}
use Rattle.parser.proofs.Fields.{true≢false, OtherAt}
use Rattle.parser.proofs.Says.{says_seq_no, says_alt_no, says_alt_got, says_alt_first}
use Rattle.date.specs.Rules.{dash, week_and_day, wd, md_numeric, ordinal, ddd, month_and_day, md}
use Rattle.std.specs.declared.result.Result.{Result}
use Rattle.std.specs.declared.result.Result.TheVariants.{Ok, Err}
use Rattle.parser.specs.declared.Miss.{Miss}
use Rattle.parser.specs.declared.Miss.TheVariants as miss
use Rattle.parser.specs.declared.Got.{Got}
use Rattle.parser.specs.Read.{got_found, got_more, place_after}
use Rattle.date.specs.Answer.{after_year}
use Rattle.parser.proofs.Alike.{SameFrom, same_says, alt_same}
use Rattle.parser.proofs.General.{preceded_same, after_same, alt_drop, field_no, field_wrong}
use Rattle.date.proofs.Parts.{week_and_day_item, ordinal_item}

-- ---- what a dash tells, and a byte that is none

record Dashed (s : List ℕ) (at from : ℕ) : Type 0 where
  reads : dash.reads s at ≡ got tt from
  other : OtherAt s at

dash_there : (s : List ℕ) (at from : ℕ) → from ≡ place_after at (dash.reads s at) → at < from → Dashed s at from
unfolding lit
dash_there s at from e h = go (ltb at (length s)) (eqb (get_or s at 0) 45) refl refl
  where
    go : (t u : Bool) → ltb at (length s) ≡ t → eqb (get_or s at 0) 45 ≡ u → Dashed s at from
    go true true i u =
        let here : from ≡ at + 1 = rw (i, u) at e in
        record { reads = rw (i, u, here); other = record { inside = i; is = rw (eqb-true (get_or s at 0) 45 u) } }
    go true false i u = let here : from ≡ at = rw (i, u) at e in absurd (omega arith)
    go false u i _ = let here : from ≡ at = rw i at e in absurd (omega arith)

no_dash_there : (s : List ℕ) (at from : ℕ) → from ≡ place_after at (dash.reads s at) → from ≤ at → (from ≡ at) × (dash.reads s at ≡ no)
unfolding lit
no_dash_there s at from e h = go (ltb at (length s)) (eqb (get_or s at 0) 45) refl refl
  where
    go : (t u : Bool) → ltb at (length s) ≡ t → eqb (get_or s at 0) 45 ≡ u → (from ≡ at) × (dash.reads s at ≡ no)
    go true true i u = let here : from ≡ at + 1 = rw (i, u) at e in absurd (omega arith)
    go true false i u = (rw (i, u) at e, rw (i, u))
    go false u i _ = (rw i at e, rw i)

inside_settled : (s : List ℕ) (at : ℕ) → ltb at (length s) ≡ true → dash.more s at ≡ false
unfolding lit
inside_settled s at i = rw i

-- a week that is cut short has at most its `W`
week_and_day_open : (y : ℤ) (s : List ℕ) (at : ℕ) → (week_and_day y).more s at ≡ true → digit s at ≡ false
unfolding week_and_day seq lit
week_and_day_open y s at h = go (ltb at (length s)) (eqb (get_or s at 0) 87) refl refl
  where
    go : (t u : Bool) → ltb at (length s) ≡ t → eqb (get_or s at 0) 87 ≡ u → digit s at ≡ false
    go true true i u = rw (i, eqb-true (get_or s at 0) 87 u)
    go true false i u = absurd (true≢false (sym (rw (i, u) at h)))
    go false u i _ = rw i

-- where no digit stands, no alternative but the first finds anything
module _ (y : ℤ) (s : List ℕ) (at : ℕ) (bare : digit s at ≡ false) where
  month_no : (month_and_day y).reads s at ≡ no
  unfolding month_and_day seq
  month_no = rw (field_no 2 1 12 (omega arith) s at bare)

  ordinal_no : (ordinal y).reads s at ≡ no
  unfolding ordinal map
  ordinal_no = rw (field_no 3 1 366 (omega arith) s at bare)

  numeric_no : (md_numeric y).reads s at ≡ no
  unfolding md_numeric seq
  numeric_no = rw (field_no 2 1 12 (omega arith) s at bare)

module _ (y : ℤ) (s : List ℕ) (at from : ℕ) (e : from ≡ place_after at (dash.reads s at)) where
  week_same : SameFrom (wd y) (week_and_day y) s at from
  week_same = preceded_same 45 (week_and_day y) (week_and_day_item y).eager s at from e

  ordinal_same : SameFrom (ddd y) (ordinal y) s at from
  ordinal_same = preceded_same 45 (ordinal y) (ordinal_item y).eager s at from e

  module _ (f : Found Date) (m : Bool) where
    pub says_after_dash : at < from → Says (week_and_day y) s from no false → Says (alt (ordinal y) (month_and_day y)) s from f m → Says (after_year y) s at f m
    unfolding after_year md_numeric
    says_after_dash h w r =
        let d = dash_there s at from e h in
        says_alt_no (wd y) s at (alt (md_numeric y) (alt (ddd y) (md y))) false f m (same_says week_same w)
        (says_alt_no (md_numeric y) s at (alt (ddd y) (md y)) false f m (says_seq_no month s at (λ n. map (λ d. YMD y n d) day) false (field_wrong 2 1 12 (omega arith) s at d.other))
        (same_says (alt_same ordinal_same (λ _. after_same 45 (month_and_day y) s at from d.reads)) r))

    pub says_no_dash : from ≤ at → Says (week_and_day y) s from no false → Says (alt (md_numeric y) (ordinal y)) s from f m → Says (after_year y) s at f m
    unfolding after_year
    says_no_dash h w r =
        let d = no_dash_there s at from e h in
        let none : Says dash s at no false = record { found = sym d.1; more = sym (inside_settled s at (here d.0)) } in
        says_alt_no (wd y) s at (alt (md_numeric y) (alt (ddd y) (md y))) false f m (same_says week_same w)
        (same_says (alt_same (numeric_same d.0) (λ _. alt_drop (md y) ordinal_same (says_seq_no dash s at (λ _. month_and_day y) false none))) r)
      where
        numeric_same : from ≡ at → SameFrom (md_numeric y) (md_numeric y) s at from
        numeric_same z = rw z (record { reads = refl; more = refl })

        here : from ≡ at → ltb at (length s) ≡ true
        here z = go (ltb at (length s)) refl
          where
            go : (t : Bool) → ltb at (length s) ≡ t → ltb at (length s) ≡ true
            go true i = i
            go false i = absurd (true≢false (sym ((week_and_day_item y).eager s from (omega (arith, ltb-false at (length s) i))) ∙ sym w.more))

  bare_before : digit s from ≡ false → digit s at ≡ false
  unfolding lit
  bare_before bare = go (ltb at (length s)) (eqb (get_or s at 0) 45) refl refl
    where
      go : (t u : Bool) → ltb at (length s) ≡ t → eqb (get_or s at 0) 45 ≡ u → digit s at ≡ false
      go true true i u = rw (i, eqb-true (get_or s at 0) 45 u)
      go true false i u = let z : from ≡ at = rw (i, u) at e in rw z at bare
      go false u i _ = rw i

  md_no : digit s from ≡ false → (md y).reads s at ≡ no
  unfolding seq
  md_no bare = go (leb from at) refl
    where
      go : (t : Bool) → leb from at ≡ t → (md y).reads s at ≡ no
      go true i = rw (no_dash_there s at from e (leb-true from at i)).1
      go false i = rw (dash_there s at from e (leb-false from at i)).reads (month_no y s from bare)

  others_no : digit s from ≡ false → (alt (md_numeric y) (alt (ddd y) (md y))).reads s at ≡ no
  unfolding alt
  others_no bare = rw (numeric_no y s at (bare_before bare), ordinal_same.reads, ordinal_no y s from bare, md_no bare)

  says_week_cut : Says (week_and_day y) s from no true → Says (after_year y) s at no true
  unfolding after_year
  says_week_cut w =
      let others = alt (md_numeric y) (alt (ddd y) (md y)) in
      says_alt_no (wd y) s at others true no (others.more s at) (same_says week_same w) (record { found = sym (others_no (week_and_day_open y s from (sym w.more))); more = refl })

  -- the week, unless it is wrong: then the others are tried
  pub says_week : (r : Result (Got Date) Miss) → (r ≡ Err miss.Wrong → ⊥) → Says (week_and_day y) s from (got_found r) (got_more r) → Says (after_year y) s at (got_found r) (got_more r)
  unfolding after_year
  says_week (Ok g) w h = says_alt_got (wd y) s at (alt (md_numeric y) (alt (ddd y) (md y))) _ _ _ (same_says week_same h)
  says_week (Err (miss.Stopped r)) w h = says_alt_first (wd y) s at (alt (md_numeric y) (alt (ddd y) (md y))) _ _ refl (same_says week_same h)
  says_week (Err miss.Wrong) w h = absurd (w refl)
  says_week (Err miss.Cut) w h = says_week_cut h
