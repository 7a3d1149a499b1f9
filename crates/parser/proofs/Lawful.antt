-- The laws of a part of a rule travel together: a record for what must be there, one for what may be absent, one law for each combinator.
use Prim.Native.Nat.{ℕ, suc, ◌+◌, ◌≤◌}
use mathlib.Core.List.{List, [], ◌∷◌, ◌++◌, append_assoc}
use mathlib.Core.Bool.{Bool, true, false}
use mathlib.Core.Option.{Option, some, none}
use mathlib.Core.Path.{◌≡◌, refl, sym, ◌∙◌}
use native.Mathlib.Omega.{arith}
use lib.ListN.{length, get_or, take, drop, length-append}
use lib.Seq.{length-take-le, split_at}
use lib.Dec.{ltb, leb, eqb}
use borrow.Author.Tests.{ltb-true, leb-true, leb-false, eqb-true}
use Rattle.parser.specs.Reading.{Found, no, got, Reader, lit, seq, opt, alt, verify, map, give, or, and, pick, Says}
use Rattle.parser.specs.Answer.{begun, Begins, verdict_of}
use Rattle.parser.specs.Digits.{is_digit}
use Rattle.parser.proofs.Fields.{true≢false, and_first, and_second}
use Rattle.parser.proofs.Stable.{or_false}
use Rattle.parser.proofs.Places.{Fails, Skips, seq_fails, alt_fails, map_fails, opt_skips, give_skips, seq_skips, map_skips, verify_skips}
use Rattle.parser.proofs.Steady.{Steady, give_steady, map_steady, verify_steady, opt_steady, alt_steady, seq_steady}
use Rattle.parser.proofs.Hopeful.{Ends, AnyByte, Anything, Hopeful, HopefulOr, hopeful_or, never_stops, Starts, Keeps, foreign_keeps, ends_weaken, hopeful_weaken, ends_map, ends_verify, ends_opt, ends_alt, ends_then_skips, ends_then_starts, map_hopeful, verify_hopeful, opt_hopeful, give_hopeful, alt_hopeful, seq_hopeful}
use Rattle.parser.proofs.Verdict.{says_begins}
use Rattle.parser.proofs.Alike.{Alike, alike_least, alike_stops, alike_ends, alike_hopeful}
use Rattle.parser.proofs.General.{Eager, seq_eager, map_eager, alt_eager}

-- ---- bounds and bytes are computed, so that a use shows what it has to by `refl`

-- the greater of two bounds
abbrev pub most : ℕ → ℕ → ℕ
most j k = pick (leb j k) k j

pub most_left : (j k : ℕ) → j ≤ most j k
most_left j k = go (leb j k) refl
  where
    go : (t : Bool) → leb j k ≡ t → j ≤ pick t k j
    go true e = leb-true j k e
    go false e = omega arith

pub most_right : (j k : ℕ) → k ≤ most j k
most_right j k = go (leb j k) refl
  where
    go : (t : Bool) → leb j k ≡ t → k ≤ pick t k j
    go true e = omega arith
    go false e = omega (arith, leb-false j k e)

abbrev pub In : (ℕ → Bool) → ℕ → Type 0
In Y b = Y b ≡ true

abbrev pub byte : ℕ → ℕ → Bool
byte c b = eqb b c

abbrev pub member : List ℕ → ℕ → Bool
member [] b = false
member (c ∷ l) b = or (eqb b c) (member l b)

-- each byte of the first list is one of the second
abbrev pub among : List ℕ → List ℕ → Bool
among [] l = true
among (c ∷ m) l = and (member l c) (among m l)

-- neither a digit nor a byte of the list
abbrev pub Outside : List ℕ → ℕ → Type 0
Outside l b = or (is_digit b) (member l b) ≡ false

-- bytes that a set tells apart
pub told_apart : (Y : ℕ → Bool) (b c : ℕ) → (Y b ≡ Y c → ⊥) → eqb b c ≡ false
told_apart Y b c h = go (eqb b c) refl
  where
    go : (t : Bool) → eqb b c ≡ t → eqb b c ≡ false
    go true e = absurd (h (rw (eqb-true b c e)))
    go false e = e

pub outside_digit : (l : List ℕ) (b : ℕ) → Outside l b → is_digit b ≡ false
outside_digit l b o = (or_false (is_digit b) (member l b) o).0

pub outside_other : (l : List ℕ) (c : ℕ) → member l c ≡ true → (b : ℕ) → Outside l b → eqb b c ≡ false
outside_other l c h b o = told_apart (member l) b c (λ e. true≢false (sym h ∙ sym e ∙ (or_false (is_digit b) (member l b) o).1))

outside_fewer : (m l : List ℕ) → among m l ≡ true → (b : ℕ) → Outside l b → Outside m b
outside_fewer [] l h b o = rw (outside_digit l b o)
outside_fewer (c ∷ m) l h b o =
    let r = outside_fewer m l (and_second (member l c) h) b o in
    rw (outside_digit l b o, outside_other l c (and_first (member l c) (among m l) h) b o) (or_false (is_digit b) (member m b) r).1

-- ---- the laws of any part: it takes digits and bytes of l alone; where it is open, at most k bytes complete it, with a fact F, or, where W
-- allows that, stop the reading of what it finds

pub record LawfulOr (W : Type 0) {A : Type 0} (l : List ℕ) (k : ℕ) (F : A → Type 0) (p : Reader A) : Type 0 where
  pub steady : Steady (Outside l) p
  pub hopeful : HopefulOr W k F p

abbrev pub Lawful : {A : Type 0} → List ℕ → ℕ → (A → Type 0) → Reader A → Type 0
Lawful l k F p = LawfulOr ⊥ l k F p

weaken_lawful : {U W : Type 0} {A : Type 0} {m l : List ℕ} {k : ℕ} {E F : A → Type 0} {p : Reader A} → (U → W) → ((b : ℕ) → Outside l b → Outside m b) → ((a : A) → E a → F a) → LawfulOr U m k E p → LawfulOr W l k F p
weaken_lawful {k = k} {F = F} {p = p} f h g hp =
    let x = hp.steady in
    record { steady = record { stable = x.stable; bounded = x.bounded; ahead = x.ahead; foreign = λ s c y at o. x.foreign s c y at (h c o); numbered = x.numbered }; hopeful = hopeful_weaken k F p f (omega arith) g hp.hopeful }

map_lawful : {W : Type 0} {A B : Type 0} {l : List ℕ} {k : ℕ} {E : A → Type 0} (f : A → B) {p : Reader A} → LawfulOr W l k E p → LawfulOr W l k Anything (map f p)
map_lawful f {p} hp = record { steady = map_steady f hp.steady; hopeful = map_hopeful Anything f p (λ a e. tt) hp.hopeful }

verify_lawful : {A : Type 0} {l : List ℕ} {k : ℕ} {F : A → Type 0} (f : A → Bool) {p : Reader A} → ((a : A) → F a → f a ≡ true) → Lawful l k F p → Lawful l k F (verify f p)
verify_lawful f {p} g hp = record { steady = verify_steady f hp.steady; hopeful = hopeful_or (verify_hopeful f p g (never_stops hp.hopeful)) }

opt_lawful : {A : Type 0} {l : List ℕ} {k : ℕ} {E : A → Type 0} {F : Option A → Type 0} {p : Reader A} → ((a : A) → E a → F (some a)) → Lawful l k E p → Lawful l k F (opt p)
opt_lawful {F = F} {p = p} g hp = record { steady = opt_steady hp.steady; hopeful = hopeful_or (opt_hopeful F p g (never_stops hp.hopeful)) }

alt_lawful : {A : Type 0} {l : List ℕ} {j k : ℕ} {F : A → Type 0} {p q : Reader A} → Lawful l j F p → Lawful l k F q → Lawful l (most j k) F (alt p q)
alt_lawful {A} {l} {j} {k} {F} {p} {q} hp hq = record { steady = alt_steady hp.steady hq.steady; hopeful = hopeful_or (alt_hopeful p q hp.steady.stable (λ s at le h. ends_alt p q (first s at le h)) second) }
  where
    first : Hopeful (most j k) F p
    first = never_stops (hopeful_weaken (most j k) F p (λ w. w) (most_left j k) (λ a f. f) hp.hopeful)

    second : Hopeful (most j k) F q
    second = never_stops (hopeful_weaken (most j k) F q (λ w. w) (most_right j k) (λ a f. f) hq.hopeful)

-- how a sequence ends where its first part is open, and the laws of what follows
pub seq_lawful : {W : Type 0} {A B : Type 0} {l : List ℕ} {j k : ℕ} {F : B → Type 0} {p : Reader A} {q : A → Reader B} → Steady (Outside l) p → ((s : List ℕ) (at : ℕ) → at ≤ length s → p.more s at ≡ true → Ends j AnyByte F (seq p q) s at) → ((a : A) → LawfulOr W l k F (q a)) → LawfulOr W l (most j k) F (seq p q)
seq_lawful {j = j} {k = k} {F = F} {p = p} {q = q} hp ends hq = record {
  steady = seq_steady hp (λ a. (hq a).steady);
  hopeful = λ s at le. seq_hopeful p q hp.stable hp.bounded (λ a. hopeful_weaken (most j k) F (q a) (λ w. w) (most_right j k) (λ b f. f) (hq a).hopeful) s at le (λ h. ends_weaken (most j k) AnyByte F (most_left j k) (λ c x. x) (λ b f. f) (ends s at le h));
}

-- so what code says of a part at the beginning is what a reader has to promise
pub lawful_begins : {W : Type 0} {A : Type 0} {l : List ℕ} {k : ℕ} {F : A → Type 0} {p : Reader A} → LawfulOr W l k F p → (s : List ℕ) (f : Found A) (m : Bool) → Says p s 0 f m → Begins k p s (begun f) (verdict_of m)
lawful_begins {k = k} {F = F} {p = p} hp = says_begins k F p hp.steady.stable hp.steady.bounded hp.hopeful

-- ---- what may be absent: past the end it takes nothing, where C holds, and its value has the fact

pub record TailOr (W : Type 0) {A : Type 0} (C : Type 0) (l : List ℕ) (k : ℕ) (F : A → Type 0) (p : Reader A) : Type 0 where
  pub lawful : LawfulOr W l k F p
  pub skips : C → Skips F p

abbrev pub TailIf : {A : Type 0} → Type 0 → List ℕ → ℕ → (A → Type 0) → Reader A → Type 0
TailIf C l k F p = TailOr ⊥ C l k F p

-- one that never stops the reading, where that is allowed
pub tail_or : {W : Type 0} {A : Type 0} {C : Type 0} {l : List ℕ} {k : ℕ} {F : A → Type 0} {p : Reader A} → TailIf C l k F p → TailOr W C l k F p
tail_or hp = record { lawful = weaken_lawful (λ w. absurd w) (λ b o. o) (λ a f. f) hp.lawful; skips = hp.skips }

-- absent anywhere, and with no fact
abbrev pub Tail : {A : Type 0} → List ℕ → ℕ → Reader A → Type 0
Tail l k p = TailIf Unit l k Anything p

pub give_tail : {A : Type 0} {l : List ℕ} {F : A → Type 0} (a : A) → TailIf (F a) l 0 F (give a)
give_tail {A} {l} {F} a = record {
  lawful = record { steady = give_steady a; hopeful = hopeful_or (give_hopeful a) };
  skips = give_skips F a;
}

-- a condition that is enough
pub tail_where : {A : Type 0} {C D : Type 0} {l : List ℕ} {k : ℕ} {F : A → Type 0} {p : Reader A} → (D → C) → TailIf C l k F p → TailIf D l k F p
tail_where g hp = record { lawful = hp.lawful; skips = λ d. hp.skips (g d) }

pub map_tail : {A B : Type 0} {C : Type 0} {l : List ℕ} {k : ℕ} {E : A → Type 0} (f : A → B) {p : Reader A} → TailIf C l k E p → TailIf C l k Anything (map f p)
map_tail {E = E} f {p} hp = record { lawful = map_lawful f hp.lawful; skips = λ c. map_skips E Anything f p (λ a e. tt) (hp.skips c) }

pub seq_tail : {A B : Type 0} {C : Type 0} {l : List ℕ} {j k : ℕ} {E : A → Type 0} {F : B → Type 0} {p : Reader A} {q : A → Reader B} → TailIf C l j E p → ((a : A) → TailIf (E a) l k F (q a)) → TailIf C l (most j k) F (seq p q)
seq_tail {E = E} {F = F} {p = p} {q = q} hp hq = record {
  lawful = seq_lawful hp.lawful.steady (λ s at le h. ends_then_skips F p q (λ a. (hq a).skips) (never_stops hp.lawful.hopeful s at le h)) (λ a. (hq a).lawful);
  skips = λ c. seq_skips E F p q (hp.skips c) (λ a. (hq a).skips);
}

-- ---- what must be there: past the end it finds nothing and is open, and at most j bytes, the first a byte of Y, are read whole

pub record ItemOr (W : Type 0) {A : Type 0} (l : List ℕ) (Y : ℕ → Bool) (j k : ℕ) (F : A → Type 0) (p : Reader A) : Type 0 where
  pub lawful : LawfulOr W l k F p
  pub fails : Fails p
  pub eager : Eager p
  pub starts : Starts j (In Y) F p

abbrev pub Item : {A : Type 0} → List ℕ → (ℕ → Bool) → ℕ → ℕ → (A → Type 0) → Reader A → Type 0
Item l Y j k F p = ItemOr ⊥ l Y j k F p

weaken : {U W : Type 0} {A : Type 0} {m l : List ℕ} {Y : ℕ → Bool} {j k : ℕ} {E F : A → Type 0} {p : Reader A} → (U → W) → ((b : ℕ) → Outside l b → Outside m b) → ((a : A) → E a → F a) → ItemOr U m Y j k E p → ItemOr W l Y j k F p
weaken {Y = Y} {j = j} {F = F} f h g hp = record { lawful = weaken_lawful f h g hp.lawful; fails = hp.fails; eager = hp.eager; starts = λ s. ends_weaken j (In Y) F (omega arith) (λ c x. x) g (hp.starts s) }

-- more bytes may be taken, and a fact be forgotten
pub widen : {W : Type 0} {A : Type 0} {m l : List ℕ} {Y : ℕ → Bool} {j k : ℕ} {F : A → Type 0} {p : Reader A} → among m l ≡ true → ItemOr W m Y j k F p → ItemOr W l Y j k F p
widen {m = m} {l = l} h = weaken (λ w. w) (outside_fewer m l h) (λ a f. f)

-- one that loses nothing, where that is allowed
pub item_or : {W : Type 0} {A : Type 0} {l : List ℕ} {Y : ℕ → Bool} {j k : ℕ} {F : A → Type 0} {p : Reader A} → Item l Y j k F p → ItemOr W l Y j k F p
item_or = weaken (λ w. absurd w) (λ b o. o) (λ a f. f)

pub forget : {A : Type 0} {l : List ℕ} {Y : ℕ → Bool} {j k : ℕ} {F : A → Type 0} {p : Reader A} → Item l Y j k F p → Item l Y j k Anything p
forget = weaken (λ w. w) (λ b o. o) (λ a f. tt)

pub map_item : {W : Type 0} {A B : Type 0} {l : List ℕ} {Y : ℕ → Bool} {j k : ℕ} {E : A → Type 0} (f : A → B) {p : Reader A} → ItemOr W l Y j k E p → ItemOr W l Y j k Anything (map f p)
map_item f {p} hp = record { lawful = map_lawful f hp.lawful; fails = map_fails f p hp.fails; eager = map_eager f p hp.eager; starts = λ s. ends_map Anything f p (λ a e. tt) (hp.starts s) }

pub alt_item : {A : Type 0} {l : List ℕ} {Y Z : ℕ → Bool} {i j k n : ℕ} {F : A → Type 0} {p q : Reader A} → Item l Y i j F p → Item l Z k n F q → Item l Y i (most j n) F (alt p q)
alt_item {p = p} {q = q} hp hq = record { lawful = alt_lawful hp.lawful hq.lawful; fails = alt_fails p q hp.fails hq.fails; eager = alt_eager p q hp.eager; starts = λ s. ends_alt p q (hp.starts s) }

-- an optional item: absent without more, or where what follows can do without it, and with it
pub opt_tail : {A : Type 0} {l : List ℕ} {Y : ℕ → Bool} {j k : ℕ} {E : A → Type 0} {p : Reader A} → Item l Y j k E p → Tail l k (opt p)
opt_tail {p = p} hp = record { lawful = opt_lawful (λ a e. tt) hp.lawful; skips = λ c. opt_skips Anything p tt hp.fails }

pub opt_tail_if : {A : Type 0} {l : List ℕ} {Y : ℕ → Bool} {j k : ℕ} {E : A → Type 0} {C : Option A → Type 0} {p : Reader A} → Item l Y j k E p → ((a : A) → E a → C (some a)) → TailIf (C none) l k C (opt p)
opt_tail_if {C = C} {p = p} hp g = record { lawful = opt_lawful g hp.lawful; skips = λ c. opt_skips C p c hp.fails }

-- an optional item under a test: absent where the test allows that
pub tested_tail : {A : Type 0} {l : List ℕ} {Y : ℕ → Bool} {j k : ℕ} {E : A → Type 0} (f : Option A → Bool) {p : Reader A} → Item l Y j k E p → ((a : A) → E a → f (some a) ≡ true) → TailIf (f none ≡ true) l k (λ o. f o ≡ true) (verify f (opt p))
tested_tail f {p} hp g = let t = opt_tail_if hp g in record { lawful = verify_lawful f (λ o e. e) t.lawful; skips = λ c. verify_skips (λ o. f o ≡ true) f (opt p) (λ o e. e) (t.skips c) }

-- an item and what may follow it
pub seq_item : {W : Type 0} {A B : Type 0} {l : List ℕ} {Y : ℕ → Bool} {i j k : ℕ} {E : A → Type 0} {F : B → Type 0} {p : Reader A} {q : A → Reader B} → Item l Y i j E p → ((a : A) → TailOr W (E a) l k F (q a)) → ItemOr W l Y i (most j k) F (seq p q)
seq_item {F = F} {p = p} {q = q} hp hq = record {
  lawful = seq_lawful hp.lawful.steady (λ s at le h. ends_then_skips F p q (λ a. (hq a).skips) (never_stops hp.lawful.hopeful s at le h)) (λ a. (hq a).lawful);
  fails = seq_fails p q hp.fails;
  eager = seq_eager p q hp.eager;
  starts = λ s. ends_then_skips F p q (λ a. (hq a).skips) (hp.starts s);
}

-- a byte that a part never takes leaves it as it is
pub outside_keeps : {A : Type 0} {l : List ℕ} {k : ℕ} {F : A → Type 0} {p : Reader A} (c : ℕ) → Outside l c → Lawful l k F p → Keeps (In (byte c)) p
outside_keeps {p = p} c o hp = foreign_keeps (In (byte c)) p (λ s b y at e le. hp.steady.foreign s b y at (rw (eqb-true b c e) o) le)

-- where a part is open no byte stands behind the place that it never takes: hope reads past that byte, and the part does not
pub open_apart : {A : Type 0} {l : List ℕ} {k : ℕ} {F : A → Type 0} {p : Reader A} → Lawful l k F p → (u : List ℕ) (c : ℕ) (y : List ℕ) (at : ℕ) → Outside l c → at ≤ length u → p.more (u ++ c ∷ y) at ≡ true → ⊥
open_apart {p = p} hp u c y at o le h =
    let e = never_stops hp.hopeful (u ++ c ∷ y) at (omega (arith, length-append u (c ∷ y))) h in
    let rest = y ++ e.first ∷ e.rest in
    let all = rw (append_assoc u (c ∷ y) (e.first ∷ e.rest)) at e.reads in
    let few = hp.steady.bounded u at le e.value (length (u ++ c ∷ rest)) (sym (hp.steady.foreign u c rest at o le) ∙ all) in
    omega (arith, few, length-append u (c ∷ rest))

-- so behind what such a part found and left open no such byte stands
pub open_behind : {A : Type 0} {l : List ℕ} {k : ℕ} {F : A → Type 0} {p : Reader A} → Lawful l k F p → (c : ℕ) → Outside l c → (s : List ℕ) (at : ℕ) (a : A) (n : ℕ) → Says p s at (got a n) true → (lit c).reads s n ≡ no
unfolding lit
open_behind {p = p} hp c o s at a n h = go (ltb n (length s)) refl (eqb (get_or s n 0) c) refl
  where
    ahead : at ≤ n
    ahead = omega (arith, hp.steady.ahead.spans s at a n (sym h.found))

    go : (t : Bool) → ltb n (length s) ≡ t → (u : Bool) → eqb (get_or s n 0) c ≡ u → (lit c).reads s n ≡ no
    go false i u e = rw i
    go true i false e = rw (i, e)
    go true i true e =
        let there = split_at s n 0 (ltb-true n (length s) i) in
        let still : p.more (take n s ++ get_or s n 0 ∷ drop (suc n) s) at ≡ true = rw (← there) (sym h.more) in
        absurd (open_apart hp (take n s) (get_or s n 0) (drop (suc n) s) at (rw (eqb-true (get_or s n 0) c e) o) (omega (arith, ahead, length-take-le n s (omega (arith, ltb-true n (length s) i)))) still)

-- an item and the one that must follow it, whose first byte leaves the first as it is
pub then_item : {W : Type 0} {A B : Type 0} {l : List ℕ} {Y Z : ℕ → Bool} {i j k n : ℕ} {E : A → Type 0} {F : B → Type 0} {p : Reader A} {q : A → Reader B} → Keeps (In Z) p → Item l Y i j E p → ((a : A) → ItemOr W l Z k n F (q a)) → ItemOr W l Y (i + k) (most (j + k) n) F (seq p q)
then_item {Z = Z} {i = i} {j = j} {k = k} {F = F} {p = p} {q = q} kp hp hq = record {
  lawful = seq_lawful hp.lawful.steady (λ s at le h. ends_then_starts j k (In Z) F p q le kp (λ a e. (hq a).starts) (never_stops hp.lawful.hopeful s at le h)) (λ a. (hq a).lawful);
  fails = seq_fails p q hp.fails;
  eager = seq_eager p q hp.eager;
  starts = λ s. ends_then_starts i k (In Z) F p q (omega arith) kp (λ a e. (hq a).starts) (hp.starts s);
}

-- a reader that is read alike has the same laws
pub alike_item : {W : Type 0} {A : Type 0} {l : List ℕ} {Y : ℕ → Bool} {j k : ℕ} {F : A → Type 0} {p q : Reader A} → Alike p q → ItemOr W l Y j k F q → ItemOr W l Y j k F p
alike_item {p = p} {q = q} e hq = record {
  lawful = record {
    steady = record {
      stable = λ s x at h. let g = hq.lawful.steady.stable s x at (sym (e s at).more ∙ h) in record { reads = (e (s ++ x) at).reads ∙ g.reads ∙ sym (e s at).reads; more = (e (s ++ x) at).more ∙ g.more };
      bounded = λ s at le a n h. hq.lawful.steady.bounded s at le a n (sym (e s at).reads ∙ h);
      ahead = alike_least e hq.lawful.steady.ahead;
      foreign = λ s c y at x le. (e (s ++ c ∷ y) at).reads ∙ hq.lawful.steady.foreign s c y at x le ∙ sym (e s at).reads;
      numbered = alike_stops e hq.lawful.steady.numbered;
    };
    hopeful = alike_hopeful p q e hq.lawful.hopeful;
  };
  fails = λ s at h. (e s at).reads ∙ hq.fails s at h;
  eager = λ s at h. (e s at).more ∙ hq.eager s at h;
  starts = λ s. alike_ends p q e (hq.starts s);
}

-- one of several optional items must be given: the first is enough, as C says, and the test refuses none at all
pub required_item : {A B : Type 0} {l : List ℕ} {Y : ℕ → Bool} {i j k : ℕ} {E : A → Type 0} {C : Option A → Type 0} (f : B → Bool) {p : Reader A} {q : Option A → Reader B} → Item l Y i j E p → ((o : Option A) → TailIf (C o) l k (λ b. f b ≡ true) (q o)) → ((a : A) → E a → C (some a)) → Fails (verify f (seq (opt p) q)) → Item l Y i (most j k) (λ b. f b ≡ true) (verify f (seq (opt p) q))
unfolding verify opt
required_item {C = C} f {p} {q} hp hq given none-fails = record {
  lawful = verify_lawful f (λ b e. e) (seq_tail (opt_tail_if hp given) hq).lawful;
  fails = none-fails;
  eager = seq_eager (opt p) q hp.eager;
  starts = λ s. ends_verify f (seq (opt p) q) (λ b e. e) (ends_then_skips (λ b. f b ≡ true) (opt p) q (λ o. (hq o).skips) (ends_opt C p given (hp.starts s)));
}
