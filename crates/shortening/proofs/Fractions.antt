-- Nine digits of a fraction decide its number and how many are stored, and one digit stands for two whether all are 0; a comma or point with
-- at most ten digits is eleven bytes.
use Prim.Native.Nat.{ℕ, ◌+◌, ◌-◌, ◌*◌, ◌<◌, ◌≤◌}
use mathlib.Core.List.{List, [], ◌∷◌, ◌++◌, append_assoc}
use mathlib.Core.Bool.{Bool, true, false}
use mathlib.Core.Logic.{inl, inr}
use mathlib.Core.Path.{◌≡◌, refl, sym, ◌∙◌}
use native.Mathlib.Omega.{arith}
use lib.ListN.{length, get_or, replicate, length-append, get_or-append, get_or-eq_default}
use lib.Seq.{drop-append-add, take_at, get_or-append_seam}
use lib.Dec.{ltb, leb, eqb}
use borrow.Author.Tests.{ltb-true, ltb-false, lt-ltb, lt-leb, leb-true, eqb-true, eqb-false, eq-eqb, ne_eqb, not-true}
use Rattle.types.specs.declared.Fraction.{Fraction}
use Rattle.parser.specs.Reading.{Found, no, got, stop, Reader, lit, seq, then, after, alt, or_else, failed, pick, or, and}
use Rattle.parser.specs.Digits.{is_digit, digits, number, number_from, run_at, of_run, at_the_end, run_as, nanoseconds, fraction_of}
use Rattle.parser.specs.Fields.{either}
use Rattle.parser.proofs.Fields.{true≢false, and_first, and_second}
use Rattle.parser.proofs.Places.{no≢got, stop≢got, got_place, Bounded, seq_bounded, alt_bounded, lit_bounded, run_bounded, run_foreign}
use Rattle.parser.proofs.RunLeaves.{of_run_lem}
use Rattle.shortening.specs.Points.{is_point}
use Rattle.shortening.proofs.Cuts.{Cut, Place, behind, Carried, SameAt, Simulates, seq_simulates, alt_simulates}
use Rattle.shortening.proofs.Local.{Local, lit_local, run_local, alt_local, seq_local}
use Rattle.shortening.proofs.Spans.{SpansAt}
use Rattle.shortening.proofs.Families.{zeros, fractions, FractionCut, own, behind_slash, CutOf, cut, apart, by_point, all_digits, Reaches, reaches_one, reaches_run, Normal}
use Rattle.shortening.proofs.Trims.{Trims, same_before, simulates_by, foreign_simulates, lit_trims}
use Rattle.shortening.proofs.Fields.{point_no_digit, apart_no_digit}

-- ---- the fraction: nine digits decide

nine_decide : (n r : List ℕ) → length n ≡ 9 → 0 < length r → fraction_of (n ++ r) ≡ record { nanosecond = number n; digits = 9 }
nine_decide n r h some =
    let nano : nanoseconds (n ++ r) ≡ number n = rw (append_assoc n r (replicate 9 48), take_at n (r ++ replicate 9 48) 9 h) in
    rw (nano, lt-ltb 9 (length (n ++ r)) (omega (arith, length-append n r)))

-- with one digit for two behind them it is the same fraction
same_fraction : (z : FractionCut) (x : List ℕ) → fraction_of (z.nine ++ (z.tenth ∷ z.next ∷ x)) ≡ fraction_of (z.nine ++ (z.one ∷ x))
same_fraction z x = nine_decide z.nine (z.tenth ∷ z.next ∷ x) z.size (omega arith) ∙ sym (nine_decide z.nine (z.one ∷ x) z.size (omega arith))

-- ---- zeros: one digit stands for two

abbrev all_zero : List ℕ → Bool
all_zero [] = true
all_zero (b ∷ d) = and (eqb (b - 48) 0) (all_zero d)

zero_number : (v : ℕ) (d : List ℕ) → leb (number_from v d) 0 ≡ and (eqb v 0) (all_zero d)
unfolding number_from
zero_number v [] = go (eqb v 0) refl
  where
    go : (t : Bool) → eqb v 0 ≡ t → leb v 0 ≡ and t true
    go true e = rw (eqb-true v 0 e)
    go false e = lt-leb v 0 (let h = eqb-false v 0 e in omega arith)
zero_number v (b ∷ d) = zero_number (v * 10 + (b - 48)) d ∙ go (eqb v 0) refl (eqb (b - 48) 0) refl
  where
    go : (t : Bool) → eqb v 0 ≡ t → (u : Bool) → eqb (b - 48) 0 ≡ u → and (eqb (v * 10 + (b - 48)) 0) (all_zero d) ≡ and t (and u (all_zero d))
    go true e true g = let z : v * 10 + (b - 48) ≡ 0 = omega (arith, eqb-true v 0 e, eqb-true (b - 48) 0 g) in rw (eq-eqb (v * 10 + (b - 48)) 0 z)
    go true e false g = let h = eqb-false (b - 48) 0 g in rw (ne_eqb (v * 10 + (b - 48)) 0 (λ z. h (omega arith)))
    go false e u g = let h = eqb-false v 0 e in rw (ne_eqb (v * 10 + (b - 48)) 0 (λ z. h (omega arith)))

zero_digit : (b : ℕ) → is_digit b ≡ true → eqb (b - 48) 0 ≡ eqb b 48
zero_digit b d = go (eqb b 48) refl
  where
    go : (t : Bool) → eqb b 48 ≡ t → eqb (b - 48) 0 ≡ t
    go true e = rw (eqb-true b 48 e)
    go false e = let h = eqb-false b 48 e in ne_eqb (b - 48) 0 (λ z. h (omega (arith, leb-true 48 b (and_first (leb 48 b) (leb b 57) d))))

zero_append : (l d e : List ℕ) → all_zero d ≡ all_zero e → all_zero (l ++ d) ≡ all_zero (l ++ e)
zero_append [] d e h = h
zero_append (b ∷ l) d e h = rw (zero_append l d e h)

pub zero_joined : (z : FractionCut) (x : List ℕ) → leb (number (z.nine ++ (z.tenth ∷ z.next ∷ x))) 0 ≡ leb (number (z.nine ++ (z.one ∷ x))) 0
zero_joined z x =
    let two : all_zero (z.tenth ∷ z.next ∷ x) ≡ all_zero (z.one ∷ x) = rw (zero_digit z.tenth z.first, zero_digit z.next z.second, zero_digit z.one z.either, z.zero) (and_assoc (eqb z.tenth 48) (eqb z.next 48)) in
    zero_number 0 (z.nine ++ (z.tenth ∷ z.next ∷ x)) ∙ zero_append z.nine (z.tenth ∷ z.next ∷ x) (z.one ∷ x) two ∙ sym (zero_number 0 (z.nine ++ (z.one ∷ x)))
  where
    and_assoc : (t u : Bool) → and t (and u (all_zero x)) ≡ and (and t u) (all_zero x)
    and_assoc true u = refl
    and_assoc false u = refl

-- ---- what the comma or point with its digits finds, and where it is open

either_way : {A B : Type 0} (v : A) (n : ℕ) (k : ℕ → Found B) (t u : Bool) → then (or_else (pick t (got v n) no) (pick u (got v n) no)) (λ _ m. k m) ≡ pick (or t u) (k n) no
either_way v n k true u = refl
either_way v n k false true = refl
either_way v n k false false = refl

either_open_lem : {A : Type 0} (v : A) (n : ℕ) (k : ℕ → Bool) (t u : Bool) → or (or false (and (failed (pick t (got v n) no)) false)) (after (or_else (pick t (got v n) no) (pick u (got v n) no)) (λ _ m. k m)) ≡ pick (or t u) (k n) false
either_open_lem v n k true u = refl
either_open_lem v n k false true = refl
either_open_lem v n k false false = refl

digits_through : (l x : List ℕ) → all_digits l ≡ true → digits (l ++ x) ≡ l ++ digits x
unfolding digits
digits_through [] x h = refl
digits_through (b ∷ l) x h = rw (and_first (is_digit b) (all_digits l) h, digits_through l x (and_second (is_digit b) h))

-- one digit for two leaves what the test says of the number
abbrev pub Joined : (ℕ → Bool) → Type 0
Joined may = (z : FractionCut) (x : List ℕ) → may (number (z.nine ++ (z.tenth ∷ z.next ∷ x))) ≡ may (number (z.nine ++ (z.one ∷ x)))

module _ (may : ℕ → Bool) (r : ℕ) (joined : Joined may) where
  abbrev leaf : Reader Fraction
  leaf = run_as fraction_of may r

  abbrev point : Reader Fraction
  point = seq (either 44 46) (λ _. leaf)

  -- what its run d, up to the place k, is told as
  abbrev value : List ℕ → ℕ → Found Fraction
  value d k = pick (may (number d)) (got (fraction_of d) k) (stop r)

  leaf_reads : (s : List ℕ) (at : ℕ) → leaf.reads s at ≡ of_run (run_at s at) no (value (run_at s at) (at + length (run_at s at)))
  unfolding run_as
  leaf_reads s at = refl

  leaf_opens : (s : List ℕ) (at : ℕ) → leaf.more s at ≡ true → at_the_end s at ≡ true
  unfolding run_as
  leaf_opens s at o = and_first (at_the_end s at) _ o

  value_ends : (d : List ℕ) (k : ℕ) (a : Fraction) (n : ℕ) → value d k ≡ got a n → n ≡ k
  value_ends d k a n = go (may (number d))
    where
      go : (t : Bool) → pick t (got (fraction_of d) k) (stop r) ≡ got a n → n ≡ k
      go true e = sym (got_place e)
      go false e = absurd (stop≢got e)

  value_same : (z : FractionCut) (x : List ℕ) (m n : ℕ) → Place (own fractions z) m n → Carried (own fractions z) (value (z.nine ++ (z.tenth ∷ z.next ∷ x)) m) (value (z.nine ++ (z.one ∷ x)) n)
  value_same z x m n e = rw (joined z x, same_fraction z x) (go (fraction_of (z.nine ++ (z.one ∷ x))) (may (number (z.nine ++ (z.one ∷ x)))))
    where
      go : (f : Fraction) (t : Bool) → Carried (own fractions z) (pick t (got f m) (stop r)) (pick t (got f n) (stop r))
      go f true = record { place = m; found = refl; same = e }
      go f false = refl

  point_local : Local point
  point_local = seq_local (either 44 46) (λ _. leaf) (alt_local (lit 44) (lit 46) (lit_local 44) (lit_local 46)) (λ _. run_local fraction_of may r)

  point_bounded : Bounded point
  point_bounded = seq_bounded (either 44 46) (λ _. leaf) (alt_bounded (lit 44) (lit 46) (lit_bounded 44) (lit_bounded 46)) (λ _. run_bounded fraction_of may r)

  point_at : (s : List ℕ) (at : ℕ) → point.reads s at ≡ pick (is_point (get_or s at 0)) (leaf.reads s (at + 1)) no
  unfolding seq alt lit
  point_at s at = go (ltb at (length s)) refl
    where
      go : (t : Bool) → ltb at (length s) ≡ t → point.reads s at ≡ pick (is_point (get_or s at 0)) (leaf.reads s (at + 1)) no
      go true e = rw e (either_way tt (at + 1) (λ m. leaf.reads s m) (eqb (get_or s at 0) 44) (eqb (get_or s at 0) 46))
      go false e = rw (e, get_or-eq_default s 0 (ltb-false at (length s) e))

  point_open : (s : List ℕ) (at : ℕ) → at < length s → point.more s at ≡ pick (is_point (get_or s at 0)) (leaf.more s (at + 1)) false
  unfolding seq alt lit
  point_open s at lt = rw (lt-ltb at (length s) lt) (either_open_lem tt (at + 1) (λ m. leaf.more s m) (eqb (get_or s at 0) 44) (eqb (get_or s at 0) 46))

  -- ---- eleven bytes

  leaf_ends : (s : List ℕ) (at : ℕ) (a : Fraction) (n : ℕ) → leaf.reads s at ≡ got a n → n ≡ at + length (run_at s at)
  leaf_ends s at a n e = go (run_at s at) (sym (leaf_reads s at) ∙ e)
    where
      go : (d : List ℕ) → of_run d no (value d (at + length d)) ≡ got a n → n ≡ at + length d
      go [] e = absurd (no≢got e)
      go (b ∷ d) e = value_ends (b ∷ d) (at + length (b ∷ d)) a n e

  point_spans : (s : List ℕ) (from : ℕ) → Normal fractions s from → (at : ℕ) → Reaches s from at → SpansAt (Reaches s from) s 11 at point
  point_spans s from few at g = record { opens = λ o. opened (ltb at (length s)) refl o; ends = λ a n e. ended a n (is_point (get_or s at 0)) refl (sym (point_at s at) ∙ e) }
    where
      inside : (t : Bool) → is_point (get_or s at 0) ≡ t → pick t (leaf.more s (at + 1)) false ≡ true → length s ≤ at + 11
      inside true e o = omega (arith, few at g e, ltb-false (at + 1 + length (run_at s (at + 1))) (length s) (not-true (ltb (at + 1 + length (run_at s (at + 1))) (length s)) (leaf_opens s (at + 1) o)))
      inside false e o = absurd (true≢false (sym o))

      opened : (t : Bool) → ltb at (length s) ≡ t → point.more s at ≡ true → length s ≤ at + 11
      opened true e o = inside (is_point (get_or s at 0)) refl (sym (point_open s at (ltb-true at (length s) e)) ∙ o)
      opened false e o = omega (arith, ltb-false at (length s) e)

      ended : (a : Fraction) (n : ℕ) (t : Bool) → is_point (get_or s at 0) ≡ t → pick t (leaf.reads s (at + 1)) no ≡ got a n → (n ≤ at + 11) × Reaches s from n
      ended a n true e eg = let here = leaf_ends s (at + 1) a n eg in (omega (arith, few at g e), rw here (reaches_run (reaches_one g (by_point (λ b. eqb b 47 ≡ false) refl refl (get_or s at 0) e))))
      ended a n false e eg = absurd (no≢got eg)

  -- ---- the same is told

  -- the point at the end of u, nine digits and r more
  at_point : (u : List ℕ) (z : ℕ) (n r y : List ℕ) → is_point z ≡ true → all_digits n ≡ true → all_digits r ≡ true → 0 < length r → point.reads (u ++ ((z ∷ (n ++ r)) ++ y)) (length u) ≡ value (n ++ (r ++ digits y)) (length (u ++ z ∷ (n ++ r)) + length (digits y))
  at_point u z n r y hz an ar hr =
      let s = u ++ ((z ∷ (n ++ r)) ++ y) in
      let run : run_at s (length u + 1) ≡ n ++ (r ++ digits y) = rw (drop-append-add u ((z ∷ (n ++ r)) ++ y) 1, append_assoc n r y, digits_through n (r ++ y) an, digits_through r y ar) in
      let size : length u + 1 + length (n ++ (r ++ digits y)) ≡ length (u ++ z ∷ (n ++ r)) + length (digits y) = omega (arith, length-append n (r ++ digits y), length-append r (digits y), length-append u (z ∷ (n ++ r)), length-append n r) in
      let some : 0 < length (n ++ (r ++ digits y)) = omega (arith, length-append n (r ++ digits y), length-append r (digits y)) in
      point_at s (length u) ∙ rw (get_or-append_seam u z ((n ++ r) ++ y) 0, hz) (leaf_reads s (length u + 1) ∙ rw (run, size) (of_run_lem (n ++ (r ++ digits y)) no (value (n ++ (r ++ digits y)) (length (u ++ z ∷ (n ++ r)) + length (digits y))) some))

  module _ (z : FractionCut) where
    abbrev here : Cut
    here = own fractions z

    point_at_cut : SameAt here (length z.before) (length z.before) point
    point_at_cut = rw (at_point z.before z.point z.nine (z.tenth ∷ z.next ∷ []) z.rest z.points z.digits (rw (z.first, z.second)) (omega arith), at_point z.before z.point z.nine (z.one ∷ []) z.rest z.points z.digits (rw z.either) (omega arith))
        (value_same z (digits z.rest) _ _ (behind (length (digits z.rest)) refl refl))

    -- a fraction that begins before the cut ends there
    point_before : (n : ℕ) → n < length z.before → (y : List ℕ) → point.reads (z.before ++ z.point ∷ y) n ≡ point.reads z.before n
    point_before n lt y =
        let same : get_or (z.before ++ z.point ∷ y) n 0 ≡ get_or z.before n 0 = get_or-append z.before (z.point ∷ y) 0 n lt in
        let on = run_foreign fraction_of may r (λ b. is_point b ≡ true) point_no_digit z.before z.point y (n + 1) z.points (omega arith) in
        point_at (z.before ++ z.point ∷ y) n ∙ rw (same, on) (sym (point_at z.before n))

    point_simulates : Simulates here point
    point_simulates = simulates_by here point point_local (λ n le. go n le (ltb n (length z.before)) refl)
      where
        go : (n : ℕ) → n ≤ length z.before → (t : Bool) → ltb n (length z.before) ≡ t → SameAt here n n point
        go n le true e = let lt = ltb-true n (length z.before) e in same_before here point point_bounded n le (point_before n lt _) (point_before n lt _)
        go n le false e = let end : n ≡ length z.before = omega (arith, ltb-false n (length z.before) e) in rw end point_at_cut

  -- none of its parts takes a `/`, whatever the family
  point_cut : (z : CutOf fractions) → Simulates (cut fractions z) point
  point_cut (inl z) = point_simulates z
  point_cut (inr z) = seq_simulates (behind_slash z) (either 44 46) (λ _. leaf) (alt_simulates (behind_slash z) (lit 44) (lit 46) ((lit_trims zeros 44 refl).simulates (inr z)) ((lit_trims zeros 46 refl).simulates (inr z))) (λ _. foreign_simulates fractions leaf (run_local fraction_of may r) (run_bounded fraction_of may r) (run_foreign fraction_of may r (λ b. apart fractions b ≡ true) apart_no_digit) (inr z))

  pub point_trims : Trims fractions 11 point
  point_trims = record { local = point_local; simulates = point_cut; within = point_spans }
