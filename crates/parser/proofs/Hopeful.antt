-- Where a byte more could matter, some few bytes more are read to the last one; or, under rules that allow it, what is found now is lost to
-- them: the reading is stopped, or less is found.
use Prim.Native.Nat.{ℕ, suc, ◌+◌, ◌<◌, ◌≤◌}
use mathlib.Core.List.{List, ◌∷◌, ◌++◌, append_assoc}
use mathlib.Core.Bool.{Bool, true, false}
use mathlib.Core.Option.{Option, some, none}
use mathlib.Core.Path.{◌≡◌, refl, sym, ◌∙◌}
use mathlib.Core.Logic.{◌⊎◌, inl, inr}
use native.Mathlib.Omega.{arith}
use lib.ListN.{length, length-append}
use Rattle.parser.specs.Reading.{Found, no, got, stop, Reader, seq, after, opt, alt, failed, verify, map, map_found, give, or, and}
use Rattle.parser.proofs.Fields.{true≢false}
use Rattle.parser.proofs.Stable.{Stable}
use Rattle.parser.proofs.Places.{no≢got, Bounded, Fails, Skips, Foreign, opt_foreign}

-- At most k bytes, the first of them one of X, after which p reads everything from the place on, and a fact F of what it reads.
pub record Ends {A : Type 0} (k : ℕ) (X : ℕ → Type 0) (F : A → Type 0) (p : Reader A) (s : List ℕ) (at : ℕ) : Type 0 where
  pub first : ℕ
  pub rest : List ℕ
  pub value : A
  pub begins : X first
  pub few : suc (length rest) ≤ k
  pub fact : F value
  pub reads : p.reads (s ++ first ∷ rest) at ≡ got value (length (s ++ first ∷ rest))

abbrev pub AnyByte : ℕ → Type 0
AnyByte c = Unit

abbrev pub Anything : {A : Type 0} → A → Type 0
Anything a = Unit

-- wherever a byte more could matter
abbrev pub Hopeful : {A : Type 0} → ℕ → (A → Type 0) → Reader A → Type 0
Hopeful k F p = (s : List ℕ) (at : ℕ) → at ≤ length s → p.more s at ≡ true → Ends k AnyByte F p s at

-- nothing is found, or what ends before a place
abbrev pub Less : {A : Type 0} → Found A → ℕ → Type 0
Less no n = Unit
Less (stop r) n = Unit
Less (got a m) n = m < n

-- At most k bytes after which p, that finds a value now, finds less.
pub record Loses {A : Type 0} (k : ℕ) (p : Reader A) (s : List ℕ) (at : ℕ) : Type 0 where
  pub more : List ℕ
  pub few : length more ≤ k
  pub value : A
  pub place : ℕ
  pub now : p.reads s at ≡ got value place
  pub less : Less (p.reads (s ++ more) at) place

-- the one, or where W allows it the other
abbrev pub Changes : Type 0 → {A : Type 0} → ℕ → (A → Type 0) → Reader A → List ℕ → ℕ → Type 0
Changes W k F p s at = Ends k AnyByte F p s at ⊎ (W × Loses k p s at)

abbrev pub HopefulOr : Type 0 → {A : Type 0} → ℕ → (A → Type 0) → Reader A → Type 0
HopefulOr W k F p = (s : List ℕ) (at : ℕ) → at ≤ length s → p.more s at ≡ true → Changes W k F p s at

pub hopeful_or : {W : Type 0} {A : Type 0} {k : ℕ} {F : A → Type 0} {p : Reader A} → Hopeful k F p → HopefulOr W k F p
hopeful_or hp s at le h = inl (hp s at le h)

-- where nothing allows them
pub only_ends : {A : Type 0} {k : ℕ} {F : A → Type 0} {p : Reader A} {s : List ℕ} {at : ℕ} → Changes ⊥ k F p s at → Ends k AnyByte F p s at
only_ends (inl e) = e
only_ends (inr (w, e)) = absurd w

pub never_stops : {A : Type 0} {k : ℕ} {F : A → Type 0} {p : Reader A} → HopefulOr ⊥ k F p → Hopeful k F p
never_stops hp s at le h = only_ends (hp s at le h)

-- from the end of any input on
abbrev pub Starts : {A : Type 0} → ℕ → (ℕ → Type 0) → (A → Type 0) → Reader A → Type 0
Starts k X F p = (s : List ℕ) → Ends k X F p s (length s)

-- what has been read to the end is read the same where a byte of X follows
abbrev pub Keeps : {A : Type 0} → (ℕ → Type 0) → Reader A → Type 0
Keeps {A} X p = (s : List ℕ) (at : ℕ) (a : A) → p.reads s at ≡ got a (length s) → at ≤ length s → (c : ℕ) (y : List ℕ) → X c → p.reads (s ++ c ∷ y) at ≡ got a (length s)

-- what is found leaves nothing open
abbrev pub Definite : {A : Type 0} → Reader A → Type 0
Definite {A} p = (s : List ℕ) (at : ℕ) (a : A) (n : ℕ) → p.reads s at ≡ got a n → p.more s at ≡ false

pub definite_keeps : {A : Type 0} (X : ℕ → Type 0) (p : Reader A) → Stable p → Definite p → Keeps X p
definite_keeps X p sp dp s at a e le c y x = (sp s (c ∷ y) at (dp s at a (length s) e)).reads ∙ e

pub foreign_keeps : {A : Type 0} (X : ℕ → Type 0) (p : Reader A) → Foreign X p → Keeps X p
foreign_keeps X p fp s at a e le c y x = fp s c y at x le ∙ e

-- ---- the same end under a weaker claim

pub ends_weaken : {A : Type 0} {j : ℕ} (k : ℕ) {X : ℕ → Type 0} (Y : ℕ → Type 0) {E : A → Type 0} (F : A → Type 0) {p : Reader A} {s : List ℕ} {at : ℕ} → j ≤ k → ((c : ℕ) → X c → Y c) → ((a : A) → E a → F a) → Ends j X E p s at → Ends k Y F p s at
ends_weaken k Y F h f g e = record { first = e.first; rest = e.rest; value = e.value; begins = f e.first e.begins; few = omega (arith, e.few); fact = g e.value e.fact; reads = e.reads }

pub hopeful_weaken : {U W : Type 0} {A : Type 0} {j : ℕ} (k : ℕ) {E : A → Type 0} (F : A → Type 0) (p : Reader A) → (U → W) → j ≤ k → ((a : A) → E a → F a) → HopefulOr U j E p → HopefulOr W k F p
hopeful_weaken {U} {W} {A} {j} k {E} F p f h g hp s at le m = go (hp s at le m)
  where
    go : Changes U j E p s at → Changes W k F p s at
    go (inl e) = inl (ends_weaken k AnyByte F h (λ c x. x) g e)
    go (inr (v, e)) = inr (f v, record { more = e.more; few = omega (arith, e.few); value = e.value; place = e.place; now = e.now; less = e.less })

pub starts_weaken : {A : Type 0} {k : ℕ} {X : ℕ → Type 0} {F : A → Type 0} (p : Reader A) → Starts k X F p → Starts k AnyByte F p
starts_weaken {A} {k} {X} {F} p st s = ends_weaken k AnyByte F (omega arith) (λ c x. tt) (λ a f. f) (st s)

-- open at the end of the input alone
abbrev pub AtEnd : {A : Type 0} → Reader A → Type 0
AtEnd p = (s : List ℕ) (at : ℕ) → p.more s at ≡ true → length s ≤ at

pub at_end_definite : {A : Type 0} (p : Reader A) → AtEnd p → Fails p → Definite p
at_end_definite p ep fp s at a n e = go (p.more s at) refl
  where
    go : (m : Bool) → p.more s at ≡ m → p.more s at ≡ false
    go true h = absurd (no≢got (sym (fp s at (ep s at h)) ∙ e))
    go false h = h

-- so where it is open whatever starts there is read
pub at_end_starts : {A B : Type 0} {k : ℕ} {X : ℕ → Type 0} {F : B → Type 0} (p : Reader A) (q : Reader B) → AtEnd p → Starts k X F q → (s : List ℕ) (at : ℕ) → at ≤ length s → p.more s at ≡ true → Ends k AnyByte F q s at
at_end_starts p q ep st s at le h =
    let here : length s ≡ at = omega (arith, ep s at h) in
    rw (← here) (starts_weaken q st s)

-- ---- an end of a part is an end of the whole

pub ends_map : {A B : Type 0} {k : ℕ} {X : ℕ → Type 0} {E : A → Type 0} (F : B → Type 0) (f : A → B) (p : Reader A) {s : List ℕ} {at : ℕ} → ((a : A) → E a → F (f a)) → Ends k X E p s at → Ends k X F (map f p) s at
unfolding map
ends_map F f p g e = record { first = e.first; rest = e.rest; value = f e.value; begins = e.begins; few = e.few; fact = g e.value e.fact; reads = rw e.reads }

pub ends_verify : {A : Type 0} {k : ℕ} {X : ℕ → Type 0} {F : A → Type 0} (f : A → Bool) (p : Reader A) {s : List ℕ} {at : ℕ} → ((a : A) → F a → f a ≡ true) → Ends k X F p s at → Ends k X F (verify f p) s at
unfolding verify
ends_verify f p g e = record { first = e.first; rest = e.rest; value = e.value; begins = e.begins; few = e.few; fact = e.fact; reads = rw (e.reads, g e.value e.fact) }

pub ends_opt : {A : Type 0} {k : ℕ} {X : ℕ → Type 0} {E : A → Type 0} (F : Option A → Type 0) (p : Reader A) {s : List ℕ} {at : ℕ} → ((a : A) → E a → F (some a)) → Ends k X E p s at → Ends k X F (opt p) s at
unfolding opt
ends_opt F p g e = record { first = e.first; rest = e.rest; value = some e.value; begins = e.begins; few = e.few; fact = g e.value e.fact; reads = rw e.reads }

pub ends_alt : {A : Type 0} {k : ℕ} {X : ℕ → Type 0} {F : A → Type 0} (p q : Reader A) {s : List ℕ} {at : ℕ} → Ends k X F p s at → Ends k X F (alt p q) s at
unfolding alt
ends_alt p q e = record { first = e.first; rest = e.rest; value = e.value; begins = e.begins; few = e.few; fact = e.fact; reads = rw e.reads }

-- the first alternative finds nothing there, and the second is read
pub ends_else : {A : Type 0} {k : ℕ} {X : ℕ → Type 0} {F : A → Type 0} (p q : Reader A) {s : List ℕ} {at : ℕ} (e : Ends k X F q s at) → p.reads (s ++ e.first ∷ e.rest) at ≡ no → Ends k X F (alt p q) s at
unfolding alt
ends_else p q e fails = record { first = e.first; rest = e.rest; value = e.value; begins = e.begins; few = e.few; fact = e.fact; reads = rw (fails, e.reads) }

-- p is read to the end, and what follows takes nothing there
pub ends_then_skips : {A B : Type 0} {k : ℕ} {X : ℕ → Type 0} {E : A → Type 0} (F : B → Type 0) (p : Reader A) (q : A → Reader B) {s : List ℕ} {at : ℕ} → ((a : A) → E a → Skips F (q a)) → Ends k X E p s at → Ends k X F (seq p q) s at
unfolding seq
ends_then_skips F p q {s} hq e =
    let o = hq e.value e.fact (s ++ e.first ∷ e.rest) (length (s ++ e.first ∷ e.rest)) (omega arith) in
    record { first = e.first; rest = e.rest; value = o.0; begins = e.begins; few = e.few; fact = o.1.0; reads = rw (e.reads, o.1.1) }

-- p is read to the end, and what follows starts with a byte that leaves p as it is
pub ends_then_starts : {A B : Type 0} (j k : ℕ) {X : ℕ → Type 0} (Y : ℕ → Type 0) {E : A → Type 0} (F : B → Type 0) (p : Reader A) (q : A → Reader B) {s : List ℕ} {at : ℕ} → at ≤ length s → Keeps Y p → ((a : A) → E a → Starts k Y F (q a)) → Ends j X E p s at → Ends (j + k) X F (seq p q) s at
unfolding seq
ends_then_starts j k Y F p q {s} {at} le kp hq e =
    let t = s ++ e.first ∷ e.rest in
    let o = hq e.value e.fact t in
    let same : s ++ e.first ∷ (e.rest ++ o.first ∷ o.rest) ≡ t ++ o.first ∷ o.rest = sym (append_assoc s (e.first ∷ e.rest) (o.first ∷ o.rest)) in
    record {
      first = e.first;
      rest = e.rest ++ o.first ∷ o.rest;
      value = o.value;
      begins = e.begins;
      few = rw length-append (omega (arith, e.few, o.few));
      fact = o.fact;
      reads = rw (same, kp t at e.value e.reads (omega (arith, length-append s (e.first ∷ e.rest))) o.first o.rest o.begins, o.reads);
    }

-- p is settled with a value, and what follows is read on from there
pub ends_read_on : {A B : Type 0} {k : ℕ} {X : ℕ → Type 0} {F : B → Type 0} (p : Reader A) (q : A → Reader B) {s : List ℕ} {at : ℕ} → Stable p → p.more s at ≡ false → (a : A) (n : ℕ) → p.reads s at ≡ got a n → Ends k X F (q a) s n → Ends k X F (seq p q) s at
unfolding seq
ends_read_on p q {s} {at} sp em a n ef e =
    record { first = e.first; rest = e.rest; value = e.value; begins = e.begins; few = e.few; fact = e.fact; reads = rw ((sp s (e.first ∷ e.rest) at em).reads, ef, e.reads) }

-- p has been read to the end already, and what follows starts with a byte that leaves p as it is; so an optional item is left out
pub ends_after : {A B : Type 0} {k : ℕ} {X : ℕ → Type 0} {F : B → Type 0} (p : Reader A) (q : A → Reader B) (s : List ℕ) (at : ℕ) → at ≤ length s → Keeps X p → (a : A) → p.reads s at ≡ got a (length s) → Starts k X F (q a) → Ends k X F (seq p q) s at
unfolding seq
ends_after p q s at le kp a ea st =
    let e = st s in
    record { first = e.first; rest = e.rest; value = e.value; begins = e.begins; few = e.few; fact = e.fact; reads = rw (kp s at a ea le e.first e.rest e.begins, e.reads) }

-- ---- hope, combinator by combinator

less_map : {A B : Type 0} (f : A → B) (g : Found A) (n : ℕ) → Less g n → Less (map_found f g) n
less_map f no n h = tt
less_map f (stop r) n h = tt
less_map f (got a m) n h = h

pub map_hopeful : {W : Type 0} {A B : Type 0} {k : ℕ} {E : A → Type 0} (F : B → Type 0) (f : A → B) (p : Reader A) → ((a : A) → E a → F (f a)) → HopefulOr W k E p → HopefulOr W k F (map f p)
unfolding map
map_hopeful {W} {A} {B} {k} {E} F f p g hp s at le h = go (hp s at le h)
  where
    go : Changes W k E p s at → Changes W k F (map f p) s at
    go (inl e) = inl (ends_map F f p g e)
    go (inr (w, e)) = inr (w, record { more = e.more; few = e.few; value = f e.value; place = e.place; now = rw e.now; less = less_map f (p.reads (s ++ e.more) at) e.place e.less })

pub verify_hopeful : {A : Type 0} {k : ℕ} {F : A → Type 0} (f : A → Bool) (p : Reader A) → ((a : A) → F a → f a ≡ true) → Hopeful k F p → Hopeful k F (verify f p)
unfolding verify
verify_hopeful f p g hp s at le h = ends_verify f p g (hp s at le h)

pub opt_hopeful : {A : Type 0} {k : ℕ} {E : A → Type 0} (F : Option A → Type 0) (p : Reader A) → ((a : A) → E a → F (some a)) → Hopeful k E p → Hopeful k F (opt p)
unfolding opt
opt_hopeful F p g hp s at le h = ends_opt F p g (hp s at le h)

pub give_hopeful : {A : Type 0} {k : ℕ} {F : A → Type 0} (a : A) → Hopeful k F (give a)
unfolding give
give_hopeful a s at le h = absurd (true≢false (sym h))

or_true : (a b : Bool) → a ≡ false → or a b ≡ true → b ≡ true
or_true true b e h = absurd (true≢false e)
or_true false b e h = h

-- alternatives: how they end where the first is open, and the hope of the second
pub alt_hopeful : {A : Type 0} {k : ℕ} {F : A → Type 0} (p q : Reader A) → Stable p → ((s : List ℕ) (at : ℕ) → at ≤ length s → p.more s at ≡ true → Ends k AnyByte F (alt p q) s at) → Hopeful k F q → Hopeful k F (alt p q)
unfolding alt
alt_hopeful {A} {k} {F} p q sp hp hq s at le h = go (p.more s at) refl
  where
    second : p.more s at ≡ false → (f : Found A) → p.reads s at ≡ f → and (failed f) (q.more s at) ≡ true → Ends k AnyByte F (alt p q) s at
    second em no ef h = let e = hq s at le h in ends_else p q e ((sp s (e.first ∷ e.rest) at em).reads ∙ ef)
    second em (stop r) ef h = absurd (true≢false (sym h))
    second em (got a n) ef h = absurd (true≢false (sym h))

    go : (m : Bool) → p.more s at ≡ m → Ends k AnyByte F (alt p q) s at
    go true em = hp s at le em
    go false em = second em (p.reads s at) refl (or_true _ _ em h)

-- a sequence at a place: how it ends where its first part is open there, and the hope of what follows
pub seq_hopeful : {W : Type 0} {A B : Type 0} {k : ℕ} {F : B → Type 0} (p : Reader A) (q : A → Reader B) → Stable p → Bounded p → ((a : A) → HopefulOr W k F (q a)) → (s : List ℕ) (at : ℕ) → at ≤ length s → (p.more s at ≡ true → Ends k AnyByte F (seq p q) s at) → (seq p q).more s at ≡ true → Changes W k F (seq p q) s at
unfolding seq
seq_hopeful {W} {A} {B} {k} {F} p q sp bp hq s at le hp h = go (p.more s at) refl
  where
    -- p is settled with a value, and what follows decides
    on : p.more s at ≡ false → (a : A) (n : ℕ) → p.reads s at ≡ got a n → Changes W k F (q a) s n → Changes W k F (seq p q) s at
    on em a n ef (inl e) = inl (ends_read_on p q sp em a n ef e)
    on em a n ef (inr (w, e)) = inr (w, record { more = e.more; few = e.few; value = e.value; place = e.place; now = rw (ef, e.now); less = rw ((sp s e.more at em).reads, ef) e.less })

    second : p.more s at ≡ false → (f : Found A) → p.reads s at ≡ f → after f (λ a n. (q a).more s n) ≡ true → Changes W k F (seq p q) s at
    second em no ef h = absurd (true≢false (sym h))
    second em (stop r) ef h = absurd (true≢false (sym h))
    second em (got a n) ef h = on em a n ef (hq a s n (bp s at le a n ef) h)

    go : (m : Bool) → p.more s at ≡ m → Changes W k F (seq p q) s at
    go true em = inl (hp em)
    go false em = second em (p.reads s at) refl (or_true _ _ em h)

-- an optional item that is open at the end alone is left out there, where what follows starts with a byte that it never takes
pub left_out_starts : {A B : Type 0} {k : ℕ} {F : B → Type 0} (X : ℕ → Type 0) (p : Reader A) (q : Option A → Reader B) → Fails p → Foreign X p → Starts k X F (q none) → Starts k X F (seq (opt p) q)
unfolding opt
left_out_starts X p q fp xp st s = ends_after (opt p) q s (length s) (omega arith) (foreign_keeps X (opt p) (opt_foreign X p xp)) none (rw (fp s (length s) (omega arith))) st
