-- A digit that is joined to the last kept byte: every continuation is read as before, with the places behind it moved by one.
use Prim.Native.Nat.{ℕ, suc, ◌+◌, ◌≤◌}
use mathlib.Core.List.{List, [], ◌∷◌, ◌++◌, append_assoc}
use mathlib.Core.Bool.{Bool, true, false}
use mathlib.Core.Path.{◌≡◌, refl, sym, ap, ◌∙◌}
use native.Mathlib.Omega.{arith}
use lib.ListN.{length, length-append}
use lib.Dec.{eqb}
use borrow.Author.Tests.{eqb-true}
use Rattle.parser.specs.Reading.{Reader, pick, or, and}
use Rattle.parser.specs.Digits.{is_digit}
use Rattle.shortening.proofs.Cuts.{Cut, whole, kept, SameAt}
use Rattle.shortening.proofs.Families.{zeros, fractions, ZeroCut, FractionCut, own, digit_no_slash}
use Rattle.shortening.proofs.Sides.{family_in, Tidied}
use Rattle.shortening.proofs.EachKind.{Shortens}
use Rattle.arriving.specs.Keeping.{next_mark, joinable, joined, moved}
use Rattle.arriving.proofs.Tidy.{marked, tidy, marked_snoc, tidy_snoc, tidy_last, side_of, marked_side}
use Rattle.arriving.proofs.TidyZeros.{fresh_mark, zero_last, tidy_zeros}
use Rattle.arriving.proofs.TidyFractions.{PointTail, point_tail, point_last, tidy_fractions}
use Rattle.arriving.proofs.Moves.{shift, carried_moved}

-- the mark of no bytes: none behind a comma or point, none of a 0, and where zeros are dropped that of no digit
pub record FirstMark (m : ℕ) : Type 0 where
  pub apart : (k : ℕ) → k ≤ 10 → m ≡ suc k → ⊥
  pub alone : joinable m ≡ false
  pub fresh : family_in (side_of m) ≡ zeros → m ≡ 17

pub record Joins {A : Type 0} (sides : Bool) (first : ℕ) (p : Reader A) (t : List ℕ) (c b : ℕ) : Type 0 where
  pub reads : (x : List ℕ) → p.reads ((t ++ c ∷ []) ++ b ∷ x) 0 ≡ moved (shift (length t)) (p.reads ((t ++ joined c b ∷ []) ++ x) 0)
  pub tidies : tidy sides first (t ++ joined c b ∷ []) ≡ true
  pub mark : marked sides first (t ++ joined c b ∷ []) ≡ next_mark sides (marked sides first (t ++ c ∷ [])) b

-- what is read the same from the first byte on
pub simulated : {A : Type 0} (c : Cut) (p : Reader A) (i : ℕ) → SameAt c 0 0 p → length c.before ≤ i → length (c.before ++ c.short) ≡ suc i → length (c.before ++ c.long) ≡ suc (suc i) → p.reads (whole c) 0 ≡ moved (shift i) (p.reads (kept c) 0)
simulated c p i h le s l = carried_moved c i le s l (p.reads (whole c) 0) (p.reads (kept c) 0) h

spread : (u : List ℕ) (z : ℕ) (n r y : List ℕ) → u ++ ((z ∷ (n ++ r)) ++ y) ≡ (u ++ z ∷ n) ++ (r ++ y)
spread u z n r y = rw (append_assoc n r y, append_assoc u (z ∷ n) (r ++ y))

module _ {A : Type 0} (sides : Bool) (first : ℕ) (start : FirstMark first) (p : Reader A) (hp : Shortens sides (side_of first) p) where
  module _ (t : List ℕ) (c b : ℕ) (h : tidy sides first (t ++ c ∷ []) ≡ true) (is : is_digit b ≡ true) where
    joins_zero : marked sides first (t ++ c ∷ []) ≡ 27 → Joins sides first p t c b
    unfolding next_mark
    joins_zero e =
        let l = zero_last sides first t c h e in
        let same : c ≡ 48 = l.1 in
        let one : joined c b ≡ b = rw same in
        record {
          reads = λ x.
              let z : ZeroCut = record { before = t; digit = b; rest = x; starts = fresh_mark sides first t l.0; is = is } in
              let r = simulated (own zeros z) p (length t) (hp.simulates zeros z (rw (← marked_side sides t first, l.0))) (omega arith) (omega (arith, length-append t (b ∷ []))) (omega (arith, length-append t (48 ∷ b ∷ []))) in
              rw (one, same, append_assoc t (48 ∷ []) (b ∷ x), append_assoc t (b ∷ []) x) r;
          tidies = rw one (tidy_snoc sides first t b (tidy_last sides t c first h).0 (rw l.0));
          mark = rw (one, e) (marked_snoc sides t b first ∙ rw l.0);
        }

    joins_point : marked sides first (t ++ c ∷ []) ≡ 11 → Joins sides first p t c b
    unfolding next_mark
    joins_point e =
        let l = point_last sides first t c h e in
        let front = (tidy_last sides t c first h).0 in
        let one = digit (eqb c 48) l.0 in
        record {
          reads = λ x. reads x l.0 one (point_tail sides first start.apart 9 t (omega arith) front l.1);
          tidies = tidy_snoc sides first t (joined c b) front (rw l.1);
          mark = rw e (marked_snoc sides t (joined c b) first ∙ rw (l.1, one, is, digit_no_slash (joined c b) one, digit_no_slash b is));
        }
      where
        zero : (o : Bool) → eqb c 48 ≡ o → eqb (pick o b c) 48 ≡ and o (eqb b 48)
        zero true e = refl
        zero false e = e

        digit : (o : Bool) → is_digit c ≡ true → is_digit (pick o b c) ≡ true
        digit true e = is
        digit false e = e

        reads : (x : List ℕ) → is_digit c ≡ true → is_digit (joined c b) ≡ true → PointTail 9 t → p.reads ((t ++ c ∷ []) ++ b ∷ x) 0 ≡ moved (shift (length t)) (p.reads ((t ++ joined c b ∷ []) ++ x) 0)
        reads x ec eo q =
            let u = q.before in
            let n = q.digits in
            let z : FractionCut = record { before = u; point = q.point; nine = n; tenth = c; next = b; one = joined c b; rest = x; points = q.points; size = q.size; digits = q.all; first = ec; second = is; either = eo; zero = zero (eqb c 48) refl } in
            let size : length t ≡ length u + 10 = ap length q.is ∙ omega (arith, length-append u (q.point ∷ n), q.size) in
            let short : length (u ++ q.point ∷ (n ++ joined c b ∷ [])) ≡ suc (length t) = omega (arith, q.size, length-append u (q.point ∷ (n ++ joined c b ∷ [])), length-append n (joined c b ∷ [])) in
            let long : length (u ++ q.point ∷ (n ++ c ∷ b ∷ [])) ≡ suc (suc (length t)) = omega (arith, q.size, length-append u (q.point ∷ (n ++ c ∷ b ∷ [])), length-append n (c ∷ b ∷ [])) in
            let r = simulated (own fractions z) p (length t) (hp.simulates fractions z tt) (omega arith) short long in
            let whole_is : (t ++ c ∷ []) ++ b ∷ x ≡ whole (own fractions z) = append_assoc t (c ∷ []) (b ∷ x) ∙ ap (λ (l : List ℕ). l ++ c ∷ b ∷ x) q.is ∙ sym (spread u q.point n (c ∷ b ∷ []) x) in
            let kept_is : (t ++ joined c b ∷ []) ++ x ≡ kept (own fractions z) = append_assoc t (joined c b ∷ []) x ∙ ap (λ (l : List ℕ). l ++ joined c b ∷ x) q.is ∙ sym (spread u q.point n (joined c b ∷ []) x) in
            ap (λ (l : List ℕ). p.reads l 0) whole_is ∙ r ∙ ap (λ (l : List ℕ). moved (shift (length t)) (p.reads l 0)) (sym kept_is)

    -- either way
    pub joins_law : joinable (marked sides first (t ++ c ∷ [])) ≡ true → Joins sides first p t c b
    joins_law j = go (eqb (marked sides first (t ++ c ∷ [])) 11) refl j
      where
        go : (u : Bool) → eqb (marked sides first (t ++ c ∷ [])) 11 ≡ u → or u (eqb (marked sides first (t ++ c ∷ [])) 27) ≡ true → Joins sides first p t c b
        go true e j = joins_point (eqb-true (marked sides first (t ++ c ∷ [])) 11 e)
        go false e j = joins_zero (eqb-true (marked sides first (t ++ c ∷ [])) 27 j)

-- ---- of tidy bytes nothing more can be left out

pub tidied : (sides : Bool) (first : ℕ) → FirstMark first → (s : List ℕ) → tidy sides first s ≡ true → Tidied sides (side_of first) s
tidied sides first start s h zeros at side = tidy_zeros sides first s h start.fresh at (rw marked_side side)
tidied sides first start s h fractions at side = tidy_fractions sides first s h at (rw marked_side side)
