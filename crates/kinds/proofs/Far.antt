-- How far away another answer is, of every kind, and so of both editions and both readings: each kind's bound is enough, and it is needed.
use Prim.Native.Nat.{ℕ, ◌≤◌, ◌<◌}
use mathlib.Core.List.{List, [], ◌∷◌, ◌++◌, append-nil, append_assoc}
use mathlib.Core.Bool.{Bool, true, false}
use mathlib.Core.Path.{◌≡◌, refl, sym}
use native.Mathlib.Omega.{arith}
use lib.Dec.{ltb, leb, eqb}
use lib.ListN.{length}
use borrow.Author.Tests.{ltb-true, leb-true, eqb-true}
use Rattle.types.specs.declared.Choices.{Choices}
use Rattle.types.specs.declared.Verdict.TheVariants.{Open}
use Rattle.parser.specs.Reading.{or, and, map}
use Rattle.parser.specs.Answer.{Judged}
use Rattle.parser.specs.Digits.{is_digit}
use Rattle.parser.proofs.Fields.{true≢false, and_first, and_second}
use Rattle.parser.proofs.Lawful.{member}
use Rattle.parser.proofs.TooFew.{TooFew, map_too_few}
use Rattle.date.proofs.Laws.{date_too_few}
use Rattle.time.proofs.Laws.{time_too_few}
use Rattle.offset.proofs.Laws.{plus_too_few, plus_open}
use Rattle.datetime.proofs.Laws.{datetime_too_few}
use Rattle.duration.proofs.Laws.{duration_too_few}
use Rattle.interval.proofs.Far as interval
use Rattle.parser.specs.declared.answer.Read.{Read}
use Rattle.kinds.specs.declared.answer.Kind.{Kind}
use Rattle.kinds.specs.declared.answer.Kind.TheVariants as kind
use Rattle.kinds.specs.declared.answer.Record.{Record}
use Rattle.kinds.specs.Kinds.{rule_of, bound, Reads}
use Rattle.kinds.specs.Far.{answer_of, Bytes, Near, OfFive, NoneShorter, Needs, farthest}
use Rattle.kinds.proofs.Laws.{bytes, lawful, stable, open_where, empty_open}

-- ---- what a kind never takes may be left out, and all behind it: so a continuation is one of bytes

abbrev below : List ℕ → Bool
below [] = true
below (c ∷ l) = and (ltb c 256) (below l)

small_in : (l : List ℕ) → below l ≡ true → (b : ℕ) → member l b ≡ true → b < 256
small_in [] h b e = absurd (true≢false (sym e))
small_in (c ∷ l) h b e = go (eqb b c) refl e (small_in l (and_second (ltb c 256) h) b)
  where
    go : (t : Bool) → eqb b c ≡ t → or t (member l b) ≡ true → (member l b ≡ true → b < 256) → b < 256
    go true i e ih = omega (arith, eqb-true b c i, ltb-true c 256 (and_first (ltb c 256) (below l) h))
    go false i e ih = ih e

small : (b : ℕ) → or (is_digit b) (member bytes b) ≡ true → b < 256
small b e = go (is_digit b) refl e
  where
    go : (t : Bool) → is_digit b ≡ t → or t (member bytes b) ≡ true → b < 256
    go true i e = omega (arith, leb-true b 57 (and_second (leb 48 b) i))
    go false i e = small_in bytes refl b e

record Cut (k : Kind) (l : List ℕ) : Type 0 where
  front : List ℕ
  alone : Bytes front
  few : length front ≤ length l
  same : (s : List ℕ) → (rule_of k).reads (s ++ l) 0 ≡ (rule_of k).reads (s ++ front) 0

cut : (k : Kind) (l : List ℕ) → Cut k l
cut k [] = record { front = []; alone = tt; few = omega arith; same = λ s. refl }
cut k (c ∷ l) = go (or (is_digit c) (member bytes c)) refl (cut k l)
  where
    go : (t : Bool) → or (is_digit c) (member bytes c) ≡ t → Cut k l → Cut k (c ∷ l)
    go true e r = record { front = c ∷ r.front; alone = (small c e, r.alone); few = omega (arith, r.few); same = λ s. rw (append_assoc s (c ∷ []) l, append_assoc s (c ∷ []) r.front) at (r.same (s ++ c ∷ [])) }
    go false e r = record { front = []; alone = tt; few = omega arith; same = λ s. rw (append-nil s) ((lawful k).steady.foreign s c l 0 e (omega arith)) }

-- ---- the bound is enough

judged_near : (n : ℕ) (k : Kind) (s : List ℕ) → bound k ≤ n → Judged (bound k) (rule_of k) s Open → Near n k s
judged_near n k s h o =
    let c = cut k o.0 in
    record { more = c.front; bytes = c.alone; few = omega (arith, c.few, o.1.0); another = λ e. o.1.1 (rw (c.same s) e) }

-- where any continuation changes the answer, one of at most the kind's bound does
pub enough : (k : Kind) (s x : List ℕ) → (answer_of k (s ++ x) ≡ answer_of k s → ⊥) → Near (bound k) k s
enough k s x another = go ((rule_of k).more s 0) refl
  where
    go : (m : Bool) → (rule_of k).more s 0 ≡ m → Near (bound k) k s
    go true e = judged_near (bound k) k s (omega arith) (open_where k s e)
    go false e = absurd (another (rw (stable k s x 0 e).reads))

within_ten : (k : Kind) → OfFive k → bound k ≤ 10
within_ten kind.Date five = omega arith
within_ten (kind.Time c) five = omega arith
within_ten kind.Offset five = omega arith
within_ten (kind.Stamp c) five = omega arith
within_ten kind.Duration five = omega arith
within_ten (kind.Interval c) five = absurd five

-- "every open verdict of the five kinds, in both editions and both readings, has a continuation of at most ten bytes that changes the answer"
pub ten : (k : Kind) → OfFive k → (s : List ℕ) (r : Read Record) → Reads k s r → r.verdict ≡ Open → Near 10 k s
ten k five s r reads e = judged_near 10 k s (within_ten k five) (rw e at reads.verdict)

-- W12: "Demand 3 includes this kind, with fourteen bytes in place of W11's ten"
pub fourteen : (c : Choices) (s : List ℕ) (r : Read Record) → Reads (kind.Interval c) s r → r.verdict ≡ Open → Near 14 (kind.Interval c) s
fourteen c s r reads e = judged_near 14 (kind.Interval c) s (omega arith) (rw e at reads.verdict)

-- ---- and it is needed

nothing_yet : {n : ℕ} (k : Kind) → TooFew n (rule_of k) → (x : List ℕ) → length x ≤ n → answer_of k x ≡ answer_of k []
nothing_yet k few x h = rw (few.nothing x 0 (omega arith), few.nothing [] 0 (omega arith))

none_shorter : (k : Kind) → NoneShorter (bound k) k (farthest k)
unfolding map
none_shorter kind.Date x h = nothing_yet kind.Date (map_too_few _ date_too_few) x (omega arith)
none_shorter (kind.Time c) x h = nothing_yet (kind.Time c) (map_too_few _ (time_too_few c)) x (omega arith)
none_shorter kind.Offset x h = rw (plus_too_few x (omega arith), plus_too_few [] (omega arith))
none_shorter (kind.Stamp c) x h = nothing_yet (kind.Stamp c) (map_too_few _ (datetime_too_few c)) x (omega arith)
none_shorter kind.Duration x h = nothing_yet kind.Duration (map_too_few _ duration_too_few) x (omega arith)
none_shorter (kind.Interval c) x h = rw (interval.plus_too_few c x (omega arith), interval.plus_too_few c [] (omega arith))

open_there : (k : Kind) → Judged (bound k) (rule_of k) (farthest k) Open
unfolding map
open_there kind.Date = empty_open kind.Date
open_there (kind.Time c) = empty_open (kind.Time c)
open_there kind.Offset = open_where kind.Offset (43 ∷ []) plus_open
open_there (kind.Stamp c) = empty_open (kind.Stamp c)
open_there kind.Duration = empty_open kind.Duration
open_there (kind.Interval c) = open_where (kind.Interval c) (43 ∷ []) (interval.plus_open c)

-- so it is the least
pub needed : (k : Kind) → Needs (bound k) k (farthest k)
needed k = record { near = judged_near (bound k) k (farthest k) (omega arith) (open_there k); none_shorter = none_shorter k }

-- "and that ten is needed: an empty date-time has none shorter"
pub ten_needed : (c : Choices) → Needs 10 (kind.Stamp c) []
ten_needed c = needed (kind.Stamp c)

-- "(a lone `+` needs them)"
pub fourteen_needed : (c : Choices) → Needs 14 (kind.Interval c) (43 ∷ [])
fourteen_needed c = needed (kind.Interval c)
