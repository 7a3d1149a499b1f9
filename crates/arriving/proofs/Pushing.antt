-- What a piece makes of a state: piece behind piece, a state that is full, and one turn of the loop.
use Prim.Native.Nat.{ℕ, zero, suc, ◌+◌, ◌-◌, ◌≤◌, ◌<◌, max}
use mathlib.Core.List.{List, [], ◌∷◌, ◌++◌}
use mathlib.Core.Bool.{Bool, true, false}
use mathlib.Core.Path.{◌≡◌, refl, sym, ◌∙◌}
use native.Mathlib.Nat.{add-zero}
use native.Mathlib.Numerals.{add-one}
use native.Mathlib.Omega.{arith}
use lib.ListN.{length, get_or, take, drop, set, length-drop, take-append-drop}
use lib.Seq.{take-suc, take_all, get_or-drop, set-get_or, set-set}
use lib.Dec.{ltb, eqb}
use borrow.Author.Tests.{lt-ltb, le-ltb, ne_eqb, ltb-true, eqb-true}
use Rattle.parser.specs.Reading.{pick, or, and}
use Rattle.parser.specs.Digits.{is_digit}
use Rattle.parser.proofs.Fields.{and_first}
use Rattle.shortening.specs.Sides.{has_sides}
use Rattle.arriving.specs.declared.State.{State}
use Rattle.arriving.specs.Keeping.{next_mark, joinable, joined, joins_to, joins, counted, kept_at, push_one, pushes, zero_run, carry}

-- two pieces are one piece
pub pushes_append : (st : State) (p q : List ℕ) → pushes st (p ++ q) ≡ pushes (pushes st p) q
unfolding pushes
pushes_append st [] q = refl
pushes_append st (b ∷ p) q = pushes_append (push_one st b) p q

-- the bytes behind the last that is kept are only counted
abbrev pub counts : State → ℕ → State
counts st n = record { kind = st.kind; kept = st.kept; places = st.places; len = st.len; mark = st.mark; accepted = st.accepted + n }

pub pushes_full : (st : State) (p : List ℕ) → 200 ≤ st.len → pushes st p ≡ counts st (length p)
unfolding pushes push_one
pushes_full st [] h = rw add-zero
pushes_full st (b ∷ p) h =
    let e : st.accepted + suc (length p) ≡ st.accepted + 1 + length p = omega arith in
    rw (le-ltb st.len 200 h, e) (pushes_full (counted st) p h)

-- a byte leaves the kind, and is counted
pick_same : {A : Type 0} (f : State → A) (x : A) (a b : State) (t : Bool) → f a ≡ x → f b ≡ x → f (pick t a b) ≡ x
pick_same f x a b true p q = p
pick_same f x a b false p q = q

pub one_kind : (st : State) (b : ℕ) → (push_one st b).kind ≡ st.kind
unfolding push_one
one_kind st b = pick_same (λ (so : State). so.kind) _ _ _ (ltb st.len 200) (pick_same (λ (so : State). so.kind) _ _ _ (joins st b) refl refl) refl

one_count : (st : State) (b : ℕ) → (push_one st b).accepted ≡ st.accepted + 1
unfolding push_one
one_count st b = pick_same (λ (so : State). so.accepted) _ _ _ (ltb st.len 200) (pick_same (λ (so : State). so.accepted) _ _ _ (joins st b) refl refl) refl

-- the state after the first i bytes of a piece
pub record Pushed (st : State) (piece : List ℕ) (so : State) (i : ℕ) : Type 0 where
  pub few : i ≤ length piece
  pub kind : so.kind ≡ st.kind
  pub count : so.accepted ≡ st.accepted + i
  pub is : so ≡ pushes st (take i piece)

pub pushed_none : (st : State) (piece : List ℕ) → Pushed st piece st 0
unfolding pushes
pushed_none st piece = record { few = omega arith; kind = refl; count = sym (add-zero st.accepted); is = refl }

module _ (st : State) (piece : List ℕ) (so : State) (i : ℕ) (g : Pushed st piece so i) where
  -- what is left behind the last kept byte is only counted, and may be nothing
  pub pushed_all : length piece ≤ i → counts so (length piece - i) ≡ pushes st piece
  pushed_all h = let none : so.accepted + (length piece - i) ≡ so.accepted = omega arith in rw (none, ← (take_all i piece h)) g.is

  pub pushed_full : 200 ≤ so.len → counts so (length piece - i) ≡ pushes st piece
  pushed_full h = cc (length-drop i piece, pushes_full so (drop i piece) h, pushes_append st (take i piece) (drop i piece), take-append-drop i piece)

  module _ (h : i < length piece) where
    pushed_one : Pushed st piece (push_one so (get_or piece i 0)) (i + 1)
    unfolding pushes
    pushed_one = record {
      few = omega arith;
      kind = one_kind so (get_or piece i 0) ∙ g.kind;
      count = omega (arith, one_count so (get_or piece i 0), g.count);
      is = rw (add-one, take-suc piece i 0, pushes_append, ← g.is);
    }

    module _ (m : ℕ) (me : m ≡ next_mark (has_sides so.kind) so.mark (get_or piece i 0)) (room : so.len < 200) where
      pub pushed_joined : (byte : ℕ) → byte ≡ joined (get_or so.kept (so.len - 1) 0) (get_or piece i 0) → joins so (get_or piece i 0) ≡ true → Pushed st piece (kept_at so (so.len - 1) byte so.len m) (i + 1)
      unfolding push_one
      pushed_joined byte e j = rw (e, me) (rw (lt-ltb _ _ room, j) at pushed_one)

      pub pushed_kept : joins so (get_or piece i 0) ≡ false → Pushed st piece (kept_at so so.len (get_or piece i 0) (so.len + 1) m) (i + 1)
      unfolding push_one
      pushed_kept j = rw me (rw (lt-ltb _ _ room, j) at pushed_one)

-- only to a kept byte is joined, and only at some marks
joins_last : (mark n b : ℕ) → joins_to mark n b ≡ true → joinable mark ≡ true
joins_last mark n b j = and_first (joinable mark) (and (ltb 0 n) (is_digit b)) j

pub joins_some : (mark n b : ℕ) → joins_to mark n b ≡ true → 0 < n
joins_some mark n b j = go (joinable mark) (ltb 0 n) refl j
  where
    go : (t u : Bool) → ltb 0 n ≡ u → and t (and u (is_digit b)) ≡ true → 0 < n
    go true true e j = ltb-true 0 n e
    go true false e j = absurd (let z : ◌≡◌ {A = ℕ} 0 1 = cc in omega arith)
    go false u e j = absurd (let z : ◌≡◌ {A = ℕ} 0 1 = cc in omega arith)

-- ---- a run of zeros, joined at one go

pub zero_none : (b : ℕ) (s : List ℕ) → (b ≡ 48 → ⊥) → zero_run (b ∷ s) ≡ 0
unfolding zero_run
zero_none b s e = rw (ne_eqb b 48 e)

pub zero_more : (b : ℕ) (s : List ℕ) → b ≡ 48 → zero_run (b ∷ s) ≡ zero_run s + 1
unfolding zero_run
zero_more b s e = rw (e, add-one (zero_run s))

record ZeroAt (s : List ℕ) (k : ℕ) : Type 0 where
  here : k < length s
  zero : get_or s k 0 ≡ 48

zeros_at : (s : List ℕ) (k : ℕ) → k < zero_run s → ZeroAt s k
unfolding zero_run
zeros_at [] k h = absurd (omega arith)
zeros_at (b ∷ s) zero h = go (eqb b 48) refl h
  where
    go : (t : Bool) → eqb b 48 ≡ t → 0 < pick t (suc (zero_run s)) 0 → ZeroAt (b ∷ s) 0
    go true e h = record { here = omega arith; zero = eqb-true b 48 e }
    go false e h = absurd (omega arith)
zeros_at (b ∷ s) (suc k) h = go (eqb b 48) (zeros_at s k) h
  where
    go : (t : Bool) → (k < zero_run s → ZeroAt s k) → suc k < pick t (suc (zero_run s)) 0 → ZeroAt (b ∷ s) (suc k)
    go true f h = let z = f (omega arith) in record { here = omega (arith, z.here); zero = z.zero }
    go false f h = absurd (omega arith)

zero_at : (s : List ℕ) (i n : ℕ) → n < zero_run (drop i s) → ZeroAt s (i + n)
zero_at s i n h =
    let z = zeros_at (drop i s) n h in
    record { here = omega (arith, z.here, length-drop i s); zero = rw get_or-drop at z.zero }

zero_short : (s : List ℕ) → zero_run s ≤ length s
unfolding zero_run
zero_short [] = omega arith
zero_short (b ∷ s) = go (eqb b 48) (zero_short s)
  where
    go : (t : Bool) → zero_run s ≤ length s → pick t (suc (zero_run s)) 0 ≤ suc (length s)
    go true le = omega arith
    go false le = omega arith

pub run_within : (s : List ℕ) (i : ℕ) → i < length s → i + max 1 (zero_run (drop i s)) ≤ length s
run_within s i h = omega (arith, zero_short (drop i s), length-drop i s)

same_digit : (x : ℕ) → joined x 48 ≡ x
same_digit x = go (eqb x 48) refl
  where
    go : (t : Bool) → eqb x 48 ≡ t → pick t 48 x ≡ x
    go true e = sym (eqb-true x 48 e)
    go false e = refl

same_mark : (sides : Bool) (m : ℕ) → joinable m ≡ true → next_mark sides m 48 ≡ m
unfolding next_mark
same_mark sides m j = go (eqb m 11) refl j
  where
    tenth : (s : Bool) → next_mark s 11 48 ≡ 11
    tenth true = refl
    tenth false = refl

    zeros : (s : Bool) → next_mark s 27 48 ≡ 27
    zeros true = refl
    zeros false = refl

    go : (t : Bool) → eqb m 11 ≡ t → or t (eqb m 27) ≡ true → next_mark sides m 48 ≡ m
    go true e j = rw (eqb-true m 11 e) (tenth sides)
    go false e j = rw (eqb-true m 27 j) (zeros sides)

-- n digits are joined to the last byte
abbrev pub runs : State → ℕ → ℕ → ℕ → State
runs so byte m n = record {
  kind = so.kind;
  kept = set so.kept (so.len - 1) byte;
  places = set so.places (so.len - 1) (so.accepted + n - 1);
  len = so.len;
  mark = m;
  accepted = so.accepted + n;
}

module _ (st : State) (piece : List ℕ) (so : State) (i byte m : ℕ) (may : joinable m ≡ true) (some : 0 < so.len) (room : so.len < 200) where
  -- one zero more
  got_more : (n : ℕ) → Pushed st piece (runs so byte m n) (i + n) → ZeroAt piece (i + n) → Pushed st piece (runs so byte m (suc n)) (i + suc n)
  got_more n g z =
      let last = so.len - 1 in
      let old = get_or (set so.kept last byte) last 0 in
      let j : joins (runs so byte m n) (get_or piece (i + n) 0) ≡ true = rw (z.zero, lt-ltb 0 so.len some, may) in
      let next = pushed_joined st piece (runs so byte m n) (i + n) g z.here m (rw z.zero (sym (same_mark (has_sides so.kind) m may))) room old (rw z.zero (sym (same_digit old))) j in
      let a : so.accepted + suc n - 1 ≡ so.accepted + n = omega arith in
      let b : so.accepted + suc n ≡ so.accepted + n + 1 = omega arith in
      let at : i + suc n ≡ i + n + 1 = omega arith in
      rw (a, b, at) (rw (set-get_or (set so.kept last byte) last 0, set-set so.places last (so.accepted + n - 1) (so.accepted + n)) at next)

module _ (st : State) (piece : List ℕ) (so : State) (i : ℕ) (g : Pushed st piece so i) (h : i < length piece) (room : so.len < 200) (m byte : ℕ) (me : m ≡ next_mark (has_sides so.kind) so.mark (get_or piece i 0)) (be : byte ≡ joined (get_or so.kept (so.len - 1) 0) (get_or piece i 0)) (j : joins so (get_or piece i 0) ≡ true) where
  run_mark : 1 < zero_run (drop i piece) → joinable m ≡ true
  run_mark z =
      let first : get_or piece i 0 ≡ 48 = rw add-zero at (zero_at piece i 0 (omega arith)).zero in
      let may = joins_last so.mark so.len (get_or piece i 0) j in
      rw (me, first, same_mark (has_sides so.kind) so.mark may) may

  run_on : (n : ℕ) → n < max 1 (zero_run (drop i piece)) → Pushed st piece (runs so byte m (suc n)) (i + suc n)
  run_on zero k =
      let a : so.accepted + 1 - 1 ≡ so.accepted = omega arith in
      rw a (pushed_joined st piece so i g h m me room byte be j)
  run_on (suc n) k = got_more st piece so i byte m (run_mark (omega arith)) (joins_some so.mark so.len (get_or piece i 0) j) room (suc n) (run_on n (omega arith)) (zero_at piece i (suc n) (omega arith))

  pub pushed_run : (end : ℕ) → end ≡ i + max 1 (zero_run (drop i piece)) → Pushed st piece (runs so byte m (end - i)) end
  pushed_run end e =
      let n = max 1 (zero_run (drop i piece)) - 1 in
      let a : end - i ≡ suc n = omega arith in
      let b : end ≡ i + suc n = omega arith in
      rw (a, b) (run_on n (omega arith))

-- a place behind a kept byte
pub carry_last : (st : State) (n : ℕ) → (n ≡ 0 → ⊥) → get_or st.places (n - 1) 0 + 1 ≡ carry st n
carry_last st zero h = absurd (h refl)
carry_last st (suc n) h = let e : suc n - 1 ≡ n = omega arith in rw e
