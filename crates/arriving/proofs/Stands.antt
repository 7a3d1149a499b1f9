-- The kept bytes stand for everything accepted so far: each continuation is read the same, its place carried over. That holds at a start,
-- and a byte more keeps it, whether it is kept, joined to the last kept one, or only counted.
use Prim.Native.Nat.{ℕ, zero, suc, ◌+◌, ◌-◌, ◌<◌, ◌≤◌}
use mathlib.Core.List.{List, [], ◌∷◌, ◌++◌, append_assoc, append-nil}
use mathlib.Core.Bool.{Bool, true, false}
use mathlib.Core.Path.{◌≡◌, refl, sym, ap, ◌∙◌}
use native.Mathlib.Numerals.{add-one}
use native.Mathlib.Omega.{arith}
use lib.ListN.{length, get_or, take, length-append, length-set, length-replicate}
use lib.Seq.{take-suc, take-suc-set, length-take-le}
use lib.Dec.{ltb, leb}
use borrow.Author.Tests.{ltb-true, ltb-false, leb-true, leb-false}
use Rattle.parser.specs.Reading.{Found, no, got, stop, Reader, pick, and}
use Rattle.parser.specs.Digits.{is_digit}
use Rattle.kinds.specs.declared.answer.Kind.{Kind}
use Rattle.kinds.specs.declared.answer.Kind.TheVariants as kind
use Rattle.kinds.specs.declared.answer.Record.{Record}
use Rattle.kinds.specs.Kinds.{rule_of}
use Rattle.kinds.proofs.Laws.{stable, bounded}
use Rattle.shortening.specs.Sides.{has_sides}
use Rattle.shortening.proofs.Sides.{zeros≢fractions}
use Rattle.shortening.proofs.EachKind.{Shortens, first_of, shortens}
use Rattle.arriving.specs.declared.State.{State}
use Rattle.arriving.specs.Keeping.{first_mark, next_mark, joinable, joined, joins, counted, kept_at, push_one, pushes, started, text_of, moved}
use Rattle.arriving.proofs.Tidy.{marked, tidy, marked_snoc, tidy_snoc, side_of}
use Rattle.arriving.proofs.Moves.{over, over_kept, over_beyond, over_longer, over_joined, shift, Rises, shift_rises, moved_alike, moved_twice, moved_same}
use Rattle.arriving.proofs.Joined.{FirstMark, Joins, joins_law, tidied}

-- what can be left out of a record of the kind
abbrev sides_of : State → Bool
sides_of st = has_sides st.kind

abbrev first_in : State → ℕ
first_in st = first_mark st.kind

first_side : (k : Kind) → side_of (first_mark k) ≡ first_of k
first_side kind.Date = refl
first_side (kind.Time c) = refl
first_side kind.Offset = refl
first_side (kind.Stamp c) = refl
first_side kind.Duration = refl
first_side (kind.Interval c) = refl

rule_shortens : (k : Kind) → Shortens (has_sides k) (side_of (first_mark k)) (rule_of k)
rule_shortens k = rw (first_side k) (shortens k)

fraction_first : FirstMark 0
fraction_first = record { apart = λ k few e. omega arith; alone = refl; fresh = λ h. absurd (zeros≢fractions (sym h)) }

rule_first : (k : Kind) → FirstMark (first_mark k)
rule_first kind.Date = fraction_first
rule_first (kind.Time c) = fraction_first
rule_first kind.Offset = fraction_first
rule_first (kind.Stamp c) = fraction_first
rule_first kind.Duration = record { apart = λ k few e. omega arith; alone = refl; fresh = λ h. refl }
rule_first (kind.Interval c) = record { apart = λ k few e. omega arith; alone = refl; fresh = λ h. absurd (zeros≢fractions (sym h)) }

pub record Stands (st : State) (s : List ℕ) : Type 0 where
  pub accepted : st.accepted ≡ length s
  pub size : length st.kept ≡ 200
  pub sizes : length st.places ≡ 200
  pub few : st.len ≤ 200
  pub tidies : tidy (sides_of st) (first_in st) (text_of st) ≡ true
  pub mark : st.mark ≡ marked (sides_of st) (first_in st) (text_of st)
  pub rises : Rises (over st)
  pub reads : (x : List ℕ) → (rule_of st.kind).reads (s ++ x) 0 ≡ moved (over st) ((rule_of st.kind).reads (text_of st ++ x) 0)

-- ---- from a start

over_started : (k : Kind) (n : ℕ) → over (started k) n ≡ n
over_started k zero = refl
over_started k (suc n) = over_beyond (started k) (suc n) (omega arith) ∙ omega arith

pub start_stands : (k : Kind) → Stands (started k) []
unfolding tidy marked
start_stands k = record {
  accepted = refl;
  size = length-replicate {A = ℕ} 200 0;
  sizes = length-replicate {A = ℕ} 200 0;
  few = omega arith;
  tidies = refl;
  mark = refl;
  rises = λ n. omega (arith, over_started k n, over_started k (suc n));
  reads = λ x. sym (moved_same (over (started k)) (over_started k) ((rule_of k).reads x 0));
}

-- ---- a byte more

-- behind a byte that was read before, the continuation is one byte shorter
reads_on : (st : State) (s : List ℕ) (b : ℕ) → Stands st s → (x : List ℕ) → (rule_of st.kind).reads ((s ++ b ∷ []) ++ x) 0 ≡ moved (over st) ((rule_of st.kind).reads (text_of st ++ b ∷ x) 0)
reads_on st s b h x = rw (append_assoc s (b ∷ []) x) (h.reads (b ∷ x))

module _ (st : State) (s : List ℕ) (b m : ℕ) (h : Stands st s) (room : st.len < 200) where
  abbrev longer : State
  longer = kept_at st st.len b (st.len + 1) m

  text_longer : text_of longer ≡ text_of st ++ b ∷ []
  text_longer = rw (add-one st.len) (take-suc-set st.kept st.len b (omega (arith, h.size)))

  pub kept_stands : and (joinable st.mark) (is_digit b) ≡ false → m ≡ next_mark (sides_of st) st.mark b → Stands longer (s ++ b ∷ [])
  kept_stands apart e = record {
    accepted = omega (arith, h.accepted, length-append s (b ∷ []));
    size = length-set st.kept st.len b ∙ h.size;
    sizes = length-set st.places st.len st.accepted ∙ h.sizes;
    few = omega arith;
    tidies = rw text_longer (tidy_snoc (sides_of st) (first_in st) (text_of st) b h.tidies (rw (← h.mark) apart));
    mark = rw text_longer (e ∙ rw h.mark (sym (marked_snoc (sides_of st) (text_of st) b (first_in st))));
    rises = λ n. omega (arith, h.rises n, over_longer st b m inside n, over_longer st b m inside (suc n));
    reads = λ x. reads_on st s b h x ∙ rw (text_longer, append_assoc (text_of st) (b ∷ []) x) (sym (moved_alike (over longer) (over st) (over_longer st b m inside) ((rule_of st.kind).reads (text_of st ++ b ∷ x) 0)));
  }
    where
      inside : st.len < length st.places
      inside = omega (arith, h.sizes)

module _ (st : State) (s : List ℕ) (b m i : ℕ) (h : Stands st s) (last : st.len ≡ suc i) where
  abbrev c : ℕ
  c = get_or st.kept i 0

  abbrev same : State
  same = kept_at st i (joined c b) st.len m

  text_last : text_of st ≡ take i st.kept ++ c ∷ []
  text_last = rw last (take-suc st.kept i 0 (omega (arith, h.size, h.few)))

  text_same : text_of same ≡ take i st.kept ++ joined c b ∷ []
  text_same = rw last (take-suc-set st.kept i (joined c b) (omega (arith, h.size, h.few)))

  abbrev rule : Reader Record
  rule = rule_of st.kind

  inside : i < length st.places
  inside = omega (arith, h.sizes, h.few)

  over_same : (n : ℕ) → over st (shift (length (take i st.kept)) n) ≡ over same n
  over_same n = rw (length-take-le i st.kept (omega (arith, h.size, h.few))) (sym (over_joined st i (joined c b) m last inside n))

  joined_reads : Joins (sides_of st) (first_in st) rule (take i st.kept) c b → (x : List ℕ) → rule.reads ((s ++ b ∷ []) ++ x) 0 ≡ moved (over same) (rule.reads (text_of same ++ x) 0)
  joined_reads j x =
      let t = take i st.kept in
      let found = rule.reads ((t ++ joined c b ∷ []) ++ x) 0 in
      reads_on st s b h x
      ∙ ap (λ (l : List ℕ). moved (over st) (rule.reads (l ++ b ∷ x) 0)) text_last
      ∙ ap (moved (over st)) (j.reads x)
      ∙ moved_twice (over st) (shift (length t)) found
      ∙ moved_alike (λ n. over st (shift (length t) n)) (over same) over_same found
      ∙ ap (λ (l : List ℕ). moved (over same) (rule.reads (l ++ x) 0)) (sym text_same)

  pub joined_stands : joinable st.mark ≡ true → is_digit b ≡ true → m ≡ next_mark (sides_of st) st.mark b → Stands same (s ++ b ∷ [])
  joined_stands full is e =
      let mark : st.mark ≡ marked (sides_of st) (first_in st) (take i st.kept ++ c ∷ []) = rw (← text_last) h.mark in
      let j = joins_law (sides_of st) (first_in st) (rule_first st.kind) rule (rule_shortens st.kind) (take i st.kept) c b (rw (← text_last) h.tidies) is (rw (← mark) full) in
      record {
        accepted = omega (arith, h.accepted, length-append s (b ∷ []));
        size = length-set st.kept i (joined c b) ∙ h.size;
        sizes = length-set st.places i st.accepted ∙ h.sizes;
        few = h.few;
        tidies = rw text_same j.tidies;
        mark = rw text_same (e ∙ rw mark (sym j.mark));
        rises = λ n. let x = shift_rises i (over st) h.rises n in omega (arith, x, over_joined st i (joined c b) m last inside n, over_joined st i (joined c b) m last inside (suc n));
        reads = joined_reads j;
      }

-- ---- full is settled: a tidy text of 200 bytes is open nowhere, and what comes after it is only counted

pub full_closed : (st : State) (s : List ℕ) → Stands st s → 200 ≤ st.len → (rule_of st.kind).more (text_of st) 0 ≡ false
full_closed st s h full = go ((rule_of st.kind).more (text_of st) 0) refl
  where
    go : (m : Bool) → (rule_of st.kind).more (text_of st) 0 ≡ m → m ≡ false
    go false e = refl
    go true e =
        let size = length-take-le st.len st.kept (omega (arith, h.size, h.few)) in
        let near = (rule_shortens st.kind).within (text_of st) (tidied (sides_of st) (first_in st) (rule_first st.kind) (text_of st) h.tidies) e in
        absurd (omega (arith, size, near))

module _ (st : State) (s : List ℕ) (b : ℕ) (h : Stands st s) (full : 200 ≤ st.len) where
  counted_kept : (n : ℕ) → n ≤ st.len → over (counted st) n ≡ over st n
  counted_kept zero le = over_kept (counted st) zero le ∙ sym (over_kept st zero le)
  counted_kept (suc n) le = over_kept (counted st) (suc n) le ∙ sym (over_kept st (suc n) le)

  counted_beyond : (n : ℕ) → st.len < n → over (counted st) n ≡ over st n + 1
  counted_beyond n lt =
      let come : n - st.len + (st.accepted + 1) ≡ n - st.len + st.accepted + 1 = omega arith in
      over_beyond (counted st) n lt ∙ come ∙ sym (ap (λ (k : ℕ). k + 1) (over_beyond st n lt))

  counted_rises : Rises (over (counted st))
  counted_rises n = go (leb (suc n) st.len) (leb n st.len) refl refl
    where
      go : (t u : Bool) → leb (suc n) st.len ≡ t → leb n st.len ≡ u → over (counted st) n < over (counted st) (suc n)
      go true u e g = let le = leb-true (suc n) st.len e in omega (arith, h.rises n, counted_kept n (omega arith), counted_kept (suc n) le)
      go false true e g = omega (arith, h.rises n, counted_kept n (leb-true n st.len g), counted_beyond (suc n) (leb-false (suc n) st.len e))
      go false false e g = omega (arith, h.rises n, counted_beyond n (leb-false n st.len g), counted_beyond (suc n) (leb-false (suc n) st.len e))

  -- what is found ends among the kept bytes
  found_kept : (f : Found Record) → (rule_of st.kind).reads (text_of st) 0 ≡ f → moved (over st) f ≡ moved (over (counted st)) f
  found_kept no e = refl
  found_kept (stop r) e = refl
  found_kept (got a n) e =
      let within = bounded st.kind (text_of st) 0 (omega arith) a n e in
      let size = length-take-le st.len st.kept (omega (arith, h.size, h.few)) in
      ap (got a) (sym (counted_kept n (omega (arith, within, size))))

  pub counted_stands : Stands (counted st) (s ++ b ∷ [])
  counted_stands =
      let closed = full_closed st s h full in
      record {
        accepted = omega (arith, h.accepted, length-append s (b ∷ []));
        size = h.size;
        sizes = h.sizes;
        few = h.few;
        tidies = h.tidies;
        mark = h.mark;
        rises = counted_rises;
        reads = λ x.
            reads_on st s b h x
            ∙ ap (moved (over st)) (stable st.kind (text_of st) (b ∷ x) 0 closed).reads
            ∙ found_kept ((rule_of st.kind).reads (text_of st) 0) refl
            ∙ ap (moved (over (counted st))) (sym (stable st.kind (text_of st) x 0 closed).reads);
      }

-- ---- so each byte, and each piece

-- where nothing is kept the mark is the first
none_marked : (st : State) (s : List ℕ) → Stands st s → st.len ≡ 0 → joinable st.mark ≡ false
unfolding marked
none_marked st s h e = rw (h.mark, e) (rule_first st.kind).alone

pub one_stands : (st : State) (s : List ℕ) (b : ℕ) → Stands st s → Stands (push_one st b) (s ++ b ∷ [])
unfolding push_one
one_stands st s b h = go (ltb st.len 200) refl
  where
    m : ℕ
    m = next_mark (sides_of st) st.mark b

    last : (t u v : Bool) → joinable st.mark ≡ t → ltb 0 st.len ≡ u → is_digit b ≡ v → st.len < 200 → Stands (pick (and t (and u v)) (kept_at st (st.len - 1) (joined (get_or st.kept (st.len - 1) 0) b) st.len m) (kept_at st st.len b (st.len + 1) m)) (s ++ b ∷ [])
    last true true true et eu ev lt = joined_stands st s b m (st.len - 1) h (omega (arith, ltb-true 0 st.len eu)) et ev refl
    last true true false et eu ev lt = kept_stands st s b m h lt (rw (et, ev)) refl
    last true false v et eu ev lt = kept_stands st s b m h lt (rw (none_marked st s h (omega (arith, ltb-false 0 st.len eu)))) refl
    last false u v et eu ev lt = kept_stands st s b m h lt (rw et) refl

    go : (t : Bool) → ltb st.len 200 ≡ t → Stands (pick t (pick (joins st b) (kept_at st (st.len - 1) (joined (get_or st.kept (st.len - 1) 0) b) st.len m) (kept_at st st.len b (st.len + 1) m)) (counted st)) (s ++ b ∷ [])
    go true e = last (joinable st.mark) (ltb 0 st.len) (is_digit b) refl refl refl (ltb-true st.len 200 e)
    go false e = counted_stands st s b h (ltb-false st.len 200 e)

pub pushes_stands : (p : List ℕ) (st : State) (s : List ℕ) → Stands st s → Stands (pushes st p) (s ++ p)
unfolding pushes
pushes_stands [] st s h = rw (append-nil s) h
pushes_stands (b ∷ p) st s h = rw (← append_assoc s (b ∷ []) p) (pushes_stands p (push_one st b) (s ++ b ∷ []) (one_stands st s b h))
