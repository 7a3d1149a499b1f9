-- The items that rules are made of: single bytes, fields, runs and the fraction.
use Prim.Native.Nat.{ℕ, zero, suc, ◌+◌, ◌*◌, ◌≤◌}
use mathlib.Core.List.{List}
use mathlib.Core.Bool.{Bool, true, false}
use mathlib.Core.Option.{Option, none}
use mathlib.Core.Path.{◌≡◌, refl, sym, ◌∙◌}
use native.Mathlib.Omega.{arith}
use lib.ListN.{length}
use lib.Dec.{ltb, leb}
use borrow.Author.Tests.{leb-true, le-leb, eqb-true}
use Rattle.parser.specs.Reading.{Reader, lit, seq, opt, alt, map, and}
use Rattle.parser.specs.Digits.{is_digit, field, lowest, highest, reach, number, at_most, limit, run_as, run, fraction_of, fraction}
use Rattle.parser.specs.Fields.{signed, either, preceded_by}
use Rattle.parser.proofs.Fields.{true≢false, and_first, and_second}
use Rattle.parser.proofs.Stable.{lit_stable, field_stable, Growing, any_growing, most_growing}
use Rattle.parser.proofs.Places.{Foreign, lit_bounded, field_bounded, lit_fails, field_fails, run_fails, seq_fails, alt_fails, lit_foreign, field_foreign}
use Rattle.parser.proofs.Least.{fewer, lit_least, field_least}
use Rattle.parser.proofs.Stops.{OneOrTwo, no_form_lem, too_big, lit_stops, field_stops}
use Rattle.parser.proofs.Steady.{Steady, opt_steady, alt_steady, seq_steady, run_steady}
use Rattle.parser.proofs.Hopeful.{Ends, AnyByte, Anything, HopefulOr, hopeful_or, only_ends, never_stops, Starts, Keeps, AtEnd, definite_keeps, at_end_definite, at_end_starts, ends_weaken, hopeful_weaken, ends_alt, ends_else, alt_hopeful, seq_hopeful, left_out_starts}
use Rattle.parser.proofs.Leaves.{From, Narrows, lit_starts, lit_at_end, lit_hopeful, map_at_end, alt_at_end, field_hopeful_in, field_starts, field_definite}
use Rattle.parser.proofs.RunLeaves.{Padded, any_padded, zero_padded, run_hopeful, run_eager, run_starts, run_then_starts, run_then_ends}
use Rattle.parser.proofs.General.{lit_eager, alt_eager, seq_eager, field_eager}
use Rattle.parser.proofs.Lawful.{most, most_left, most_right, In, byte, member, Outside, told_apart, outside_digit, outside_other, Lawful, seq_lawful, Item, ItemOr, forget, map_item, alt_item, then_item}

-- ---- single bytes: items that are open at the end of the input alone

pub record Mark {A : Type 0} (l : List ℕ) (c : ℕ) (p : Reader A) : Type 0 where
  pub item : Item l (byte c) 1 1 Anything p
  pub at_end : AtEnd p

pub lit_mark : {l : List ℕ} (c : ℕ) → member l c ≡ true → Mark l c (lit c)
lit_mark {l} c h = record {
  item = record {
    lawful = record { steady = record { stable = lit_stable c; bounded = lit_bounded c; ahead = fewer (omega arith) (lit_least c); foreign = lit_foreign (Outside l) c (outside_other l c h); numbered = lit_stops c }; hopeful = hopeful_or (lit_hopeful c) };
    fails = lit_fails c;
    eager = lit_eager c;
    starts = lit_starts c;
  };
  at_end = lit_at_end c;
}

map_mark : {A B : Type 0} {l : List ℕ} {c : ℕ} (f : A → B) {p : Reader A} → Mark l c p → Mark l c (map f p)
map_mark f {p} hp = record { item = map_item f hp.item; at_end = map_at_end f p hp.at_end }

alt_mark : {A : Type 0} {l : List ℕ} {c d : ℕ} {p q : Reader A} → Mark l c p → Mark l d q → Mark l c (alt p q)
alt_mark {p = p} {q = q} hp hq = record { item = alt_item hp.item hq.item; at_end = alt_at_end p q hp.at_end hq.at_end }

pub either_mark : {l : List ℕ} (c d : ℕ) → member l c ≡ true → member l d ≡ true → Mark l c (either c d)
either_mark c d h g = alt_mark (lit_mark c h) (lit_mark d g)

pub signed_mark : {l : List ℕ} → member l 45 ≡ true → member l 43 ≡ true → Mark l 45 signed
signed_mark h g = alt_mark (map_mark (λ _. true) (lit_mark 45 h)) (map_mark (λ _. false) (lit_mark 43 g))

-- a byte and what must follow it
pub after_item : {W : Type 0} {A B : Type 0} {l : List ℕ} {c : ℕ} {Z : ℕ → Bool} {k n : ℕ} {F : B → Type 0} {p : Reader A} {q : A → Reader B} → Mark l c p → ((a : A) → ItemOr W l Z k n F (q a)) → ItemOr W l (byte c) (1 + k) (most (1 + k) n) F (seq p q)
after_item {Z = Z} {p = p} hp hq = then_item (definite_keeps (In Z) p hp.item.lawful.steady.stable (at_end_definite p hp.at_end hp.item.fails)) hp.item hq

-- a byte and what must follow it, or else an item that starts with another byte: where the input ends, the second is started
pub or_item : {A B : Type 0} {l : List ℕ} {c : ℕ} {Z : ℕ → Bool} {j k n : ℕ} {F : B → Type 0} {p : Reader A} {q : A → Reader B} {r : Reader B} → Mark l c p → Foreign (In Z) p → ((a : A) → Lawful l j F (q a)) → Item l Z k n F r → Item l Z k (most (most k j) n) F (alt (seq p q) r)
unfolding seq
or_item {A} {B} {l} {Z = Z} {j = j} {k = k} {n = n} {F = F} {p = p} {q = q} {r = r} hp other hq hr = record {
  lawful = record {
    steady = alt_steady first hr.lawful.steady;
    hopeful = hopeful_or (alt_hopeful (seq p q) r first.stable ends (never_stops (hopeful_weaken (most (most k j) n) F r (λ w. w) (most_right (most k j) n) (λ b f. f) hr.lawful.hopeful)));
  };
  fails = alt_fails (seq p q) r (seq_fails p q hp.item.fails) hr.fails;
  eager = alt_eager (seq p q) r (seq_eager p q hp.item.eager);
  starts = begun;
}
  where
    first : Steady (Outside l) (seq p q)
    first = seq_steady hp.item.lawful.steady (λ a. (hq a).steady)

    begun : Starts k (In Z) F (alt (seq p q) r)
    begun s = let e = hr.starts s in ends_else (seq p q) r e (rw (other s e.first e.rest (length s) e.begins (omega arith), hp.item.fails s (length s) (omega arith)))

    on : (a : A) → HopefulOr ⊥ (most (most k j) n) F (q a)
    on a = hopeful_weaken (most (most k j) n) F (q a) (λ w. w) (omega (arith, most_right k j, most_left (most k j) n)) (λ b f. f) (hq a).hopeful

    ends : (s : List ℕ) (at : ℕ) → at ≤ length s → (seq p q).more s at ≡ true → Ends (most (most k j) n) AnyByte F (alt (seq p q) r) s at
    ends s at le h = go (p.more s at) refl
      where
        go : (m : Bool) → p.more s at ≡ m → Ends (most (most k j) n) AnyByte F (alt (seq p q) r) s at
        go true em = ends_weaken (most (most k j) n) AnyByte F (omega (arith, most_left k j, most_left (most k j) n)) (λ b i. i) (λ b f. f) (at_end_starts p (alt (seq p q) r) hp.at_end begun s at le em)
        go false em = ends_alt (seq p q) r (only_ends (seq_hopeful p q hp.item.lawful.steady.stable hp.item.lawful.steady.bounded on s at le (λ e. absurd (true≢false (sym e ∙ em))) h))

-- an optional byte in front is left out where the input ends, if what follows starts with another
pub left_out_item : {W : Type 0} {A B : Type 0} {l : List ℕ} {c : ℕ} {Z : ℕ → Bool} {k n : ℕ} {F : B → Type 0} {p : Reader A} {q : Option A → Reader B} → Mark l c p → Foreign (In Z) p → ((o : Option A) → ItemOr W l Z k n F (q o)) → ItemOr W l Z k (most k n) F (seq (opt p) q)
unfolding opt seq
left_out_item {l = l} {Z = Z} {k = k} {F = F} {p = p} {q = q} hp other hq = record {
  lawful = seq_lawful (opt_steady hp.item.lawful.steady) ends (λ o. (hq o).lawful);
  fails = λ s at e. rw (hp.item.fails s at e) ((hq none).fails s at e);
  eager = λ s at e. rw (hp.item.eager s at e);
  starts = begun;
}
  where
    begun : Starts k (In Z) F (seq (opt p) q)
    begun = left_out_starts (In Z) p q hp.item.fails other (hq none).starts

    ends : (s : List ℕ) (at : ℕ) → at ≤ length s → p.more s at ≡ true → Ends k AnyByte F (seq (opt p) q) s at
    ends = at_end_starts p (seq (opt p) q) hp.at_end begun

pub preceded_item : {W : Type 0} {A : Type 0} {l : List ℕ} (c : ℕ) {Z : ℕ → Bool} {k n : ℕ} {F : A → Type 0} {p : Reader A} → member l c ≡ true → Z c ≡ false → ItemOr W l Z k n F p → ItemOr W l Z k (most k n) F (preceded_by c p)
preceded_item c {Z} h o hp = left_out_item (lit_mark c h) (lit_foreign (In Z) c (λ b i. told_apart Z b c (λ e. true≢false (sym i ∙ e ∙ o)))) (λ _. hp)

-- ---- fields

-- the greatest number that n more digits make of v
abbrev pub nines : ℕ → ℕ → ℕ
nines zero v = v
nines (suc n) v = nines n (v * 10 + 9)

-- some digits make a number from lo to hi
abbrev pub fits : ℕ → ℕ → ℕ → Bool
fits n lo hi = and (ltb 0 n) (and (leb lo hi) (leb lo (nines n 0)))

nines_highest : (n v : ℕ) → nines n v ≡ highest n v
unfolding highest
nines_highest zero v = refl
nines_highest (suc n) v = nines_highest n (v * 10 + 9)

pub lowest_zero : (n : ℕ) → lowest n 0 ≡ 0
unfolding lowest
lowest_zero zero = refl
lowest_zero (suc n) = lowest_zero n

reached : (n lo hi : ℕ) → lo ≤ nines n 0 → reach lo hi n 0 ≡ true
unfolding reach
reached n lo hi h = rw (← nines_highest n 0, le-leb lo (nines n 0) h, lowest_zero n, le-leb 0 hi (omega arith))

-- a field that is completed from lo' to hi'
pub field_item_in : {l : List ℕ} (n lo hi lo' hi' : ℕ) → and (leb lo lo') (and (leb hi' hi) (fits n lo' hi')) ≡ true → Narrows lo hi lo' hi' → Item l is_digit n n (From lo' hi') (field n lo hi)
field_item_in zero lo hi lo' hi' h narrows = absurd (true≢false (sym (and_second (leb hi' hi) (and_second (leb lo lo') h))))
field_item_in {l} (suc n) lo hi lo' hi' h narrows = record {
  lawful = record {
    steady = record { stable = field_stable (suc n) lo hi; bounded = field_bounded (suc n) lo hi; ahead = fewer (omega arith) (field_least (suc n) lo hi); foreign = field_foreign (Outside l) (suc n) lo hi (outside_digit l); numbered = field_stops (suc n) lo hi };
    hopeful = hopeful_or (field_hopeful_in (suc n) lo hi lo' hi' a b ab narrows);
  };
  fails = field_fails (suc n) lo hi (omega arith);
  eager = field_eager (suc n) lo hi (omega arith) (reached (suc n) lo hi (omega (arith, a, c)));
  starts = field_starts n lo hi lo' hi' a b ab (reached (suc n) lo' hi' c);
}
  where
    inner : fits (suc n) lo' hi' ≡ true
    inner = and_second (leb hi' hi) (and_second (leb lo lo') h)

    a : lo ≤ lo'
    a = leb-true lo lo' (and_first (leb lo lo') _ h)

    b : hi' ≤ hi
    b = leb-true hi' hi (and_first (leb hi' hi) _ (and_second (leb lo lo') h))

    ab : lo' ≤ hi'
    ab = leb-true lo' hi' (and_first (leb lo' hi') _ (and_second (ltb 0 (suc n)) inner))

    c : lo' ≤ nines (suc n) 0
    c = leb-true lo' (nines (suc n) 0) (and_second (leb lo' hi') (and_second (ltb 0 (suc n)) inner))

pub field_item : {l : List ℕ} (n lo hi : ℕ) → fits n lo hi ≡ true → Item l is_digit n n Anything (field n lo hi)
field_item n lo hi h = forget (field_item_in n lo hi lo hi (rw (le-leb lo lo (omega arith), le-leb hi hi (omega arith)) h) (λ n v r. r))

pub field_keeps : (n lo hi : ℕ) → Keeps (In is_digit) (field n lo hi)
field_keeps n lo hi = definite_keeps (In is_digit) (field n lo hi) (field_stable n lo hi) (field_definite n lo hi)

-- ---- runs and the fraction

-- a run whose number may have a zero more
pub padded_item : {A : Type 0} {l : List ℕ} (f : List ℕ → A) {may : ℕ → Bool} → Growing may → Padded may → {r : ℕ} → OneOrTwo r → Item l is_digit 1 1 Anything (run_as f may r)
padded_item {l = l} f {may} g h {r} w = record {
  lawful = record { steady = run_steady f g w (outside_digit l); hopeful = hopeful_or (run_hopeful f h r) };
  fails = run_fails f may r;
  eager = run_eager f g r;
  starts = run_starts f g r;
}

pub fraction_item : {l : List ℕ} → Item l is_digit 1 1 Anything fraction
fraction_item = padded_item fraction_of any_growing any_padded no_form_lem

-- one that must be 0
pub zero_fraction_item : {l : List ℕ} → Item l is_digit 1 1 Anything (run_as fraction_of (at_most 0) 1)
zero_fraction_item = padded_item fraction_of (most_growing 0) zero_padded no_form_lem

-- a run and what must follow it, which starts with the byte c
pub run_item : {B : Type 0} {l : List ℕ} (c : ℕ) {k n : ℕ} {F : B → Type 0} {q : ℕ → Reader B} → is_digit c ≡ false → ((v : ℕ) → Item l (byte c) k n F (q v)) → Item l is_digit (1 + k) (most (1 + k) n) F (seq run q)
run_item {l = l} c {k = k} {F = F} {q = q} d hq = record {
  lawful = seq_lawful (run_steady number (most_growing limit) too_big (outside_digit l)) (run_then_ends (In (byte c)) q other begun) (λ v. (hq v).lawful);
  fails = seq_fails run q (run_fails number (at_most limit) 2);
  eager = seq_eager run q (run_eager number (most_growing limit) 2);
  starts = run_then_starts (In (byte c)) q other begun;
}
  where
    other : (b : ℕ) → In (byte c) b → is_digit b ≡ false
    other b e = rw (eqb-true b c e) d

    begun : (v : ℕ) → Starts k (In (byte c)) F (q v)
    begun v = (hq v).starts
