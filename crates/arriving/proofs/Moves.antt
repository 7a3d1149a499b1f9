-- Places of the kept bytes as places of the input: what a byte more makes of them, and that different places stay different.
use Prim.Native.Nat.{ℕ, zero, suc, ◌+◌, ◌-◌, ◌<◌, ◌≤◌}
use mathlib.Core.List.{◌++◌}
use mathlib.Core.Bool.{Bool, true, false}
use mathlib.Core.Path.{◌≡◌, refl, sym, ap, ◌∙◌}
use native.Mathlib.Omega.{arith}
use lib.ListN.{length}
use lib.Seq.{get_or-set_same, get_or-set_other}
use lib.Dec.{leb}
use borrow.Author.Tests.{leb-true, leb-false, le-leb, lt-leb}
use Rattle.parser.specs.Reading.{Found, no, got, stop, pick}
use Rattle.parser.specs.Answer.{Told, begun}
use Rattle.shortening.proofs.Cuts.{Cut, before, behind, Place, Carried}
use Rattle.arriving.specs.declared.State.{State}
use Rattle.arriving.specs.Keeping.{carry, moved, kept_at}

-- a place behind kept bytes, or behind those and bytes that are still to come
abbrev pub over : State → ℕ → ℕ
over st n = pick (leb n st.len) (carry st n) (n - st.len + st.accepted)

pub over_kept : (st : State) (n : ℕ) → n ≤ st.len → over st n ≡ carry st n
over_kept st n h = rw (le-leb n st.len h)

pub over_beyond : (st : State) (n : ℕ) → st.len < n → over st n ≡ n - st.len + st.accepted
over_beyond st n h = rw (lt-leb n st.len h)

-- each place by whether it is behind a kept byte
by_place : (P : ℕ → Type 0) (n m : ℕ) → (n ≤ m → P n) → (m < n → P n) → P n
by_place P n m a b = go (leb n m) refl
  where
    go : (t : Bool) → leb n m ≡ t → P n
    go true e = a (leb-true n m e)
    go false e = b (leb-false n m e)

-- ---- a byte is kept: no place moves

module _ (st : State) (b m : ℕ) (room : st.len < length st.places) where
  abbrev longer : State
  longer = kept_at st st.len b (st.len + 1) m

  carry_longer : (n : ℕ) → n ≤ st.len → carry longer n ≡ carry st n
  carry_longer zero h = refl
  carry_longer (suc n) h = ap (λ (p : ℕ). p + 1) (get_or-set_other st.places st.len n st.accepted 0 (λ e. omega arith))

  carry_last : carry longer (suc st.len) ≡ st.accepted + 1
  carry_last = ap (λ (p : ℕ). p + 1) (get_or-set_same st.places st.len st.accepted 0 room)

  pub over_longer : (n : ℕ) → over longer n ≡ over st n
  over_longer n = by_place (λ k. over longer k ≡ over st k) n st.len kept (λ lt. by_place (λ k. st.len < k → over longer k ≡ over st k) n (st.len + 1) last beyond lt)
    where
      kept : n ≤ st.len → over longer n ≡ over st n
      kept h = over_kept longer n (omega arith) ∙ carry_longer n h ∙ sym (over_kept st n h)

      last : n ≤ st.len + 1 → st.len < n → over longer n ≡ over st n
      last h lt =
          let here : n ≡ suc st.len = omega arith in
          let put : carry longer n ≡ st.accepted + 1 = rw here carry_last in
          let come : n - st.len + st.accepted ≡ st.accepted + 1 = omega arith in
          over_kept longer n h ∙ put ∙ sym (over_beyond st n lt ∙ come)

      beyond : st.len + 1 < n → st.len < n → over longer n ≡ over st n
      beyond h lt =
          let come : n - (st.len + 1) + (st.accepted + 1) ≡ n - st.len + st.accepted = omega arith in
          over_beyond longer n h ∙ come ∙ sym (over_beyond st n lt)

-- ---- a byte is joined to the last kept one: places from there on move by one

abbrev pub shift : ℕ → ℕ → ℕ
shift i n = pick (leb n i) n (suc n)

module _ (st : State) (i e m : ℕ) (last : st.len ≡ suc i) (room : i < length st.places) where
  abbrev joined : State
  joined = kept_at st i e st.len m

  carry_joined : (n : ℕ) → n ≤ i → carry joined n ≡ carry st n
  carry_joined zero h = refl
  carry_joined (suc n) h = ap (λ (p : ℕ). p + 1) (get_or-set_other st.places i n st.accepted 0 (λ e. omega arith))

  carry_end : carry joined (suc i) ≡ st.accepted + 1
  carry_end = ap (λ (p : ℕ). p + 1) (get_or-set_same st.places i st.accepted 0 room)

  pub over_joined : (n : ℕ) → over joined n ≡ over st (shift i n)
  over_joined n = by_place (λ k. over joined k ≡ over st (shift i k)) n i kept (λ lt. by_place (λ k. i < k → over joined k ≡ over st (shift i k)) n st.len ends beyond lt)
    where
      kept : n ≤ i → over joined n ≡ over st (shift i n)
      kept h = rw (le-leb n i h) (over_kept joined n (omega arith) ∙ carry_joined n h ∙ sym (over_kept st n (omega arith)))

      ends : n ≤ st.len → i < n → over joined n ≡ over st (shift i n)
      ends h lt =
          let here : n ≡ suc i = omega arith in
          let put : carry joined n ≡ st.accepted + 1 = rw here carry_end in
          let come : suc n - st.len + st.accepted ≡ st.accepted + 1 = omega arith in
          rw (lt-leb n i lt) (over_kept joined n h ∙ put ∙ sym (over_beyond st (suc n) (omega arith) ∙ come))

      beyond : st.len < n → i < n → over joined n ≡ over st (shift i n)
      beyond h lt =
          let come : n - st.len + (st.accepted + 1) ≡ suc n - st.len + st.accepted = omega arith in
          rw (lt-leb n i lt) (over_beyond joined n h ∙ come ∙ sym (over_beyond st (suc n) (omega arith)))

-- ---- different places stay different

abbrev pub Rises : (ℕ → ℕ) → Type 0
Rises c = (n : ℕ) → c n < c (suc n)

-- a place further on is moved further on
rises_by : (c : ℕ → ℕ) → Rises c → (k n : ℕ) → c n < c (suc (n + k))
rises_by c h zero n = let e : n + 0 ≡ n = omega arith in rw e (h n)
rises_by c h (suc k) n =
    let e : n + suc k ≡ suc (n + k) = omega arith in
    let on : c (suc (n + k)) < c (suc (n + suc k)) = rw e (h (suc (n + k))) in
    omega (arith, rises_by c h k n, on)

rises_lt : (c : ℕ → ℕ) → Rises c → (m n : ℕ) → m < n → c m < c n
rises_lt c h m n lt = let e : suc (m + (n - suc m)) ≡ n = omega arith in rw e at (rises_by c h (n - suc m) m)

pub rises_once : (c : ℕ → ℕ) → Rises c → (m n : ℕ) → c m ≡ c n → m ≡ n
rises_once c h m n e = by_place (λ k. c k ≡ c n → k ≡ n) m n least (λ lt e. absurd (omega (arith, rises_lt c h n m lt))) e
  where
    least : m ≤ n → c m ≡ c n → m ≡ n
    least le e = by_place (λ k. m ≤ k → c m ≡ c k → m ≡ k) n m (λ ge le e. omega arith) (λ lt le e. absurd (omega (arith, rises_lt c h m n lt))) le e

pub shift_rises : (i : ℕ) (c : ℕ → ℕ) → Rises c → Rises (λ n. c (shift i n))
shift_rises i c h n = by_place (λ k. c (shift i k) < c (shift i (suc k))) n i below (λ lt. rw (lt-leb n i lt, lt-leb (suc n) i (omega arith)) (h (suc n)))
  where
    below : n ≤ i → c (shift i n) < c (shift i (suc n))
    below le = by_place (λ k. c (shift i n) < c (shift i k)) (suc n) i (λ le'. rw (le-leb n i le, le-leb (suc n) i le') (h n)) (λ lt. rw (le-leb n i le, lt-leb (suc n) i lt) (rises_lt c h n (suc (suc n)) (omega arith)))

-- ---- what is found and told, with its place moved

pub moved_alike : {A : Type 0} (c d : ℕ → ℕ) → ((n : ℕ) → c n ≡ d n) → (f : Found A) → moved c f ≡ moved d f
moved_alike c d h no = refl
moved_alike c d h (stop r) = refl
moved_alike c d h (got a n) = ap (got a) (h n)

pub moved_twice : {A : Type 0} (c d : ℕ → ℕ) (f : Found A) → moved c (moved d f) ≡ moved (λ n. c (d n)) f
moved_twice c d no = refl
moved_twice c d (stop r) = refl
moved_twice c d (got a n) = refl

pub moved_same : {A : Type 0} (c : ℕ → ℕ) → ((n : ℕ) → c n ≡ n) → (f : Found A) → moved c f ≡ f
moved_same c h no = refl
moved_same c h (stop r) = refl
moved_same c h (got a n) = ap (got a) (h n)

-- what is told of it: the count alone is moved, and 0 stays 0
abbrev pub told_moved : {A : Type 0} → (ℕ → ℕ) → Told A → Told A
told_moved c t = record { number = t.number; value = t.value; count = c t.count }

pub begun_moved : {A : Type 0} (c : ℕ → ℕ) → c 0 ≡ 0 → (f : Found A) → begun (moved c f) ≡ told_moved c (begun f)
begun_moved c h no = rw h
begun_moved c h (stop r) = rw h
begun_moved c h (got a n) = refl

pub told_moved_once : {A : Type 0} (c : ℕ → ℕ) → Rises c → (t u : Told A) → told_moved c t ≡ told_moved c u → t ≡ u
told_moved_once {A} c h t u e =
    let count : t.count ≡ u.count = rises_once c h t.count u.count (ap (λ (x : Told A). x.count) e) in
    let number : t.number ≡ u.number = ap (λ (x : Told A). x.number) e in
    let value : t.value ≡ u.value = ap (λ (x : Told A). x.value) e in
    ap (λ (n : ℕ). record { number = n; value = t.value; count = t.count }) number ∙ rw (value, count)

-- a text that is read as a shorter one is, with the places behind moved by one
pub carried_moved : {A : Type 0} (c : Cut) (i : ℕ) → length c.before ≤ i → length (c.before ++ c.short) ≡ suc i → length (c.before ++ c.long) ≡ suc (suc i) → (f g : Found A) → Carried c f g → f ≡ moved (shift i) g
carried_moved c i le s l f no h = h
carried_moved c i le s l f (stop r) h = h
carried_moved c i le s l f (got a n) h = h.found ∙ ap (got a) (go h.same)
  where
    go : Place c h.place n → h.place ≡ shift i n
    go (before e b) = rw (le-leb n i (omega arith)) e
    go (behind k e b) = rw (lt-leb n i (omega arith)) (omega arith)
