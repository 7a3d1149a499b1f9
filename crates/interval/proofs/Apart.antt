-- A date-time and a duration never begin with the same byte; and of two alternatives that never do, each has its own laws in the whole.
use Prim.Native.Nat.{ℕ, suc, ◌≤◌}
use mathlib.Core.List.{List, ◌∷◌, ◌++◌}
use mathlib.Core.Bool.{Bool, true, false}
use mathlib.Core.Path.{◌≡◌, refl, sym, ◌∙◌}
use mathlib.Core.Logic.{◌⊎◌, inl, inr}
use native.Mathlib.Omega.{arith}
use lib.Dec.{ltb, eqb}
use lib.ListN.{length, get_or, take, drop, length-append}
use lib.Seq.{length-take-le, split_at}
use borrow.Author.Tests.{ltb-true, ltb-false, lt-ltb, eqb-true}
use Rattle.types.specs.declared.Choices.{Choices}
use Rattle.types.specs.declared.DateTime.{DateTime}
use Rattle.types.specs.declared.Duration.{Duration}
use Rattle.parser.specs.Reading.{Found, no, got, stop, Reader, lit, seq, alt, or_else, failed, verify, map, or, and, Says}
use Rattle.parser.proofs.Places.{no≢got, alt_fails}
use Rattle.parser.proofs.General.{alt_eager}
use Rattle.parser.proofs.Steady.{alt_steady}
use Rattle.parser.proofs.Hopeful.{Ends, AnyByte, Less, Changes, Starts, ends_weaken, ends_alt, ends_else}
use Rattle.parser.proofs.Lawful.{In, Outside, most, most_left, most_right, open_apart, Item, ItemOr}
use Rattle.parser.proofs.Says.{says_seq_no, says_alt_no, says_alt_first}
use Rattle.parser.proofs.Says as telling
use Rattle.date.specs.Rules.{date}
use Rattle.date.proofs.Parts as date-parts
use Rattle.date.proofs.Laws.{date_item}
use Rattle.datetime.specs.Rules.{date_time, after_date}
use Rattle.datetime.proofs.Laws.{datetime_item}
use Rattle.duration.specs.Rules.{duration}
use Rattle.duration.proofs.Whole.{without_p}
use Rattle.interval.specs.Rules.{tried}
use Rattle.interval.specs.Followed.{followed}

-- nothing is found there, whatever follows
abbrev pub Out : {A : Type 0} → Reader A → List ℕ → ℕ → Type 0
Out p s at = Says p s at no false

-- the second alternative is out
pub says_alt_out : {A : Type 0} (p q : Reader A) (s : List ℕ) (at : ℕ) (f : Found A) (m : Bool) → Says p s at f m → Out q s at → Says (alt p q) s at f m
says_alt_out p q s at no m h o = rw (telling.or_false m) at (says_alt_no p s at q m no false h o)
says_alt_out p q s at (stop r) m h o = says_alt_first p s at q (stop r) m refl h
says_alt_out p q s at (got a n) m h o = says_alt_first p s at q (got a n) m refl h

-- another byte than c stands there
pub lit_out : (c : ℕ) (s : List ℕ) (at : ℕ) → ltb at (length s) ≡ true → eqb (get_or s at 0) c ≡ false → Out (lit c) s at
unfolding lit
lit_out c s at i e = record { found = rw (i, e); more = rw i }

-- ---- nothing is found at a byte that an item never takes

module _ {W : Type 0} {A : Type 0} {l : List ℕ} {Y : ℕ → Bool} {j k : ℕ} {F : A → Type 0} {p : Reader A} (hp : ItemOr W l Y j k F p) (s : List ℕ) (at : ℕ) (i : ltb at (length s) ≡ true) (o : Outside l (get_or s at 0)) where
  item_no : p.reads s at ≡ no
  item_no =
      let place : length (take at s) ≡ at = length-take-le at s (omega (arith, ltb-true at (length s) i)) in
      let same = hp.lawful.steady.foreign (take at s) (get_or s at 0) (drop (suc at) s) at o (omega arith) in
      rw (← split_at s at 0 (ltb-true at (length s) i)) at (same ∙ hp.fails (take at s) at (omega arith))

-- so it does not stand where something is found
pub elsewhere : {W : Type 0} {A : Type 0} {l : List ℕ} {Y : ℕ → Bool} {j k : ℕ} {F : A → Type 0} {p : Reader A} → ItemOr W l Y j k F p → (c : ℕ) → Outside l c → (s : List ℕ) (at : ℕ) (v : A) (n : ℕ) → p.reads s at ≡ got v n → (lit c).reads s at ≡ no
unfolding lit
elsewhere hp c o s at v n e = go (ltb at (length s)) refl (eqb (get_or s at 0) c) refl
  where
    go : (t : Bool) → ltb at (length s) ≡ t → (u : Bool) → eqb (get_or s at 0) c ≡ u → (lit c).reads s at ≡ no
    go false i u q = rw i
    go true i false q = rw (i, q)
    go true i true q = absurd (no≢got (sym (item_no hp s at i (rw (eqb-true (get_or s at 0) c q) o)) ∙ e))

-- and nothing is open there
pub item_out : {A : Type 0} {l : List ℕ} {Y : ℕ → Bool} {j k : ℕ} {F : A → Type 0} {p : Reader A} → Item l Y j k F p → (s : List ℕ) (at : ℕ) → ltb at (length s) ≡ true → Outside l (get_or s at 0) → Out p s at
item_out {p = p} hp s at i o = record { found = sym (item_no hp s at i o); more = go (p.more s at) refl }
  where
    go : (m : Bool) → p.more s at ≡ m → false ≡ m
    go false e = refl
    go true e =
        let there = split_at s at 0 (ltb-true at (length s) i) in
        let still : p.more (take at s ++ get_or s at 0 ∷ drop (suc at) s) at ≡ true = rw (← there) e in
        absurd (open_apart hp.lawful (take at s) (get_or s at 0) (drop (suc at) s) at o (omega (arith, length-take-le at s (omega (arith, ltb-true at (length s) i)))) still)

-- ---- a date never takes `P`, with which each duration begins

module _ (s : List ℕ) (at : ℕ) (i : ltb at (length s) ≡ true) (p : Outside date-parts.bytes (get_or s at 0)) where
  date_out : Out date s at
  date_out = item_out date_item s at i p

  pub stamp_out : (c : Choices) → Out (date_time c) s at
  unfolding date_time
  stamp_out c = says_seq_no date s at (after_date c) false date_out

  pub followed_out : (c : Choices) → Out (followed c) s at
  unfolding followed
  followed_out c = says_seq_no date s at _ false date_out

pub tried_out : {A : Type 0} {p : Reader A} {s : List ℕ} {at : ℕ} → Out p s at → Out (tried p) s at
unfolding tried
tried_out h = record { found = rw (← h.found); more = h.more }

pub duration_out : (s : List ℕ) (at : ℕ) → ltb at (length s) ≡ true → eqb (get_or s at 0) 80 ≡ false → Out duration s at
duration_out s at i e = without_p s at false (lit_out 80 s at i e)

-- where the one is read the other is not
pub stamp_alone : (c : Choices) (s : List ℕ) (at : ℕ) (x : DateTime) (n : ℕ) → (date_time c).reads s at ≡ got x n → duration.reads s at ≡ no
unfolding duration map verify seq
stamp_alone c s at x n e = rw (elsewhere (datetime_item c) 80 refl s at x n e)

pub duration_alone : (c : Choices) (s : List ℕ) (at : ℕ) (d : Duration) (n : ℕ) → duration.reads s at ≡ got d n → (date_time c).reads s at ≡ no
duration_alone c s at d n e = go (ltb at (length s)) refl (eqb (get_or s at 0) 80) refl
  where
    go : (t : Bool) → ltb at (length s) ≡ t → (u : Bool) → eqb (get_or s at 0) 80 ≡ u → (date_time c).reads s at ≡ no
    go false i u q = (datetime_item c).fails s at (ltb-false at (length s) i)
    go true i true q = sym (stamp_out s at i (rw (eqb-true (get_or s at 0) 80 q)) c).found
    go true i false q = absurd (no≢got ((duration_out s at i q).found ∙ e))

-- ---- alternatives of which one or the other is out wherever a byte stands

pub record Apart {A B : Type 0} (p : Reader A) (q : Reader B) : Type 0 where
  pub out : (s : List ℕ) (at : ℕ) → ltb at (length s) ≡ true → Out q s at ⊎ Out p s at

-- by the first byte
pub apart_by : {A B : Type 0} {p : Reader A} {q : Reader B} (c : ℕ) → ((s : List ℕ) (at : ℕ) → ltb at (length s) ≡ true → eqb (get_or s at 0) c ≡ false → Out q s at) → ((s : List ℕ) (at : ℕ) → ltb at (length s) ≡ true → get_or s at 0 ≡ c → Out p s at) → Apart p q
apart_by {p = p} {q = q} c other this = record { out = λ s at i. go s at i (eqb (get_or s at 0) c) refl }
  where
    go : (s : List ℕ) (at : ℕ) → ltb at (length s) ≡ true → (t : Bool) → eqb (get_or s at 0) c ≡ t → Out q s at ⊎ Out p s at
    go s at i true e = inr (this s at i (eqb-true (get_or s at 0) c e))
    go s at i false e = inl (other s at i e)

module _ {W : Type 0} {A : Type 0} {l : List ℕ} {Y Z : ℕ → Bool} {j k i n : ℕ} {F : A → Type 0} {p q : Reader A} (hp : ItemOr W l Y j k F p) (hq : ItemOr W l Z i n F q) (ap : Apart p q) where
  -- where a duration can begin nothing else does
  begun : Starts i (In Z) F (alt p q)
  begun s =
      let e = hq.starts s in
      ends_else p q e (first e (ap.out (s ++ e.first ∷ e.rest) (length s) (lt-ltb (length s) (length (s ++ e.first ∷ e.rest)) (omega (arith, length-append s (e.first ∷ e.rest))))))
    where
      first : (e : Ends i (In Z) F q s (length s)) → Out q (s ++ e.first ∷ e.rest) (length s) ⊎ Out p (s ++ e.first ∷ e.rest) (length s) → p.reads (s ++ e.first ∷ e.rest) (length s) ≡ no
      first e (inl o) = absurd (no≢got (o.found ∙ e.reads))
      first e (inr o) = sym o.found

  -- the one that is not out decides
  less_first : (f g : Found A) (m : ℕ) → g ≡ no → Less f m → Less (or_else f g) m
  less_first no g m e h = rw e tt
  less_first (stop r) g m e h = tt
  less_first (got a b) g m e h = h

  by_first : (s : List ℕ) (at : ℕ) → Out q s at → Changes W k F p s at → Changes W k F (alt p q) s at
  unfolding alt
  by_first s at o (inl e) = inl (ends_alt p q e)
  by_first s at o (inr (w, e)) = inr (w, record { more = e.more; few = e.few; value = e.value; place = e.place; now = rw e.now; less = less_first (p.reads (s ++ e.more) at) (q.reads (s ++ e.more) at) e.place ((hq.lawful.steady.stable s e.more at (sym o.more)).reads ∙ sym o.found) e.less })

  by_second : (s : List ℕ) (at : ℕ) → Out p s at → Changes W n F q s at → Changes W n F (alt p q) s at
  unfolding alt
  by_second s at o (inl e) = inl (ends_else p q e ((hp.lawful.steady.stable s (e.first ∷ e.rest) at (sym o.more)).reads ∙ sym o.found))
  by_second s at o (inr (w, e)) = inr (w, record { more = e.more; few = e.few; value = e.value; place = e.place; now = rw (← o.found) e.now; less = rw ((hp.lawful.steady.stable s e.more at (sym o.more)).reads, ← o.found) e.less })

  open_first : (m x : Bool) → or m (and x false) ≡ true → m ≡ true
  open_first true x h = refl
  open_first false true h = h
  open_first false false h = h

  abbrev all : ℕ
  all = most i (most k n)

  wider : {b : ℕ} (s : List ℕ) (at : ℕ) → b ≤ all → Changes W b F (alt p q) s at → Changes W all F (alt p q) s at
  wider s at h (inl e) = inl (ends_weaken all AnyByte F h (λ c x. x) (λ a f. f) e)
  wider s at h (inr (w, e)) = inr (w, record { more = e.more; few = omega (arith, h, e.few); value = e.value; place = e.place; now = e.now; less = e.less })

  inside : (s : List ℕ) (at : ℕ) → at ≤ length s → Out q s at ⊎ Out p s at → (alt p q).more s at ≡ true → Changes W all F (alt p q) s at
  unfolding alt
  inside s at le (inl o) h = wider s at (omega (arith, most_left k n, most_right i (most k n))) (by_first s at o (hp.lawful.hopeful s at le (open_first (p.more s at) (failed (p.reads s at)) (rw (← o.more) at h))))
  inside s at le (inr o) h = wider s at (omega (arith, most_right k n, most_right i (most k n))) (by_second s at o (hq.lawful.hopeful s at le (rw (← o.more, ← o.found) at h)))

  pub apart_item : ItemOr W l Z i all F (alt p q)
  apart_item = record {
    lawful = record { steady = alt_steady hp.lawful.steady hq.lawful.steady; hopeful = λ s at le h. go s at le h (ltb at (length s)) refl };
    fails = alt_fails p q hp.fails hq.fails;
    eager = alt_eager p q hp.eager;
    starts = begun;
  }
    where
      go : (s : List ℕ) (at : ℕ) → at ≤ length s → (alt p q).more s at ≡ true → (t : Bool) → ltb at (length s) ≡ t → Changes W all F (alt p q) s at
      go s at le h true e = inside s at le (ap.out s at e) h
      go s at le h false e =
          let here : length s ≡ at = omega (arith, ltb-false at (length s) e) in
          inl (rw (← here) (ends_weaken all AnyByte F (most_left i (most k n)) (λ c x. tt) (λ a f. f) (begun s)))
