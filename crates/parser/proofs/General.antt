-- Laws over any reader: what is open at every end, and the same reading from two places; and of fields where no digit stands.
use Prim.Native.Nat.{ℕ, zero, suc, ◌+◌, ◌*◌, ◌-◌, ◌<◌, ◌≤◌}
use mathlib.Core.List.{List}
use mathlib.Core.Bool.{Bool, true, false}
use mathlib.Core.Path.{◌≡◌, refl, sym, ◌∙◌}
use native.Mathlib.Omega.{arith}
use lib.ListN.{length, get_or}
use lib.Dec.{ltb, leb, eqb}
use borrow.Author.Tests.{ltb-false, le-ltb, leb-true, le-leb}
use Rattle.parser.specs.Reading.{Found, no, got, stop, Reader, lit, seq, opt, alt, map, or, and, pick, within, or_else, failed, Says}
use Rattle.parser.specs.Digits.{is_digit, digit, digits_from, field, reach}
use Rattle.parser.specs.Fields.{preceded_by}
use Rattle.parser.specs.Read.{place_after}
use Rattle.parser.proofs.Places.{no≢got, got_place}
use Rattle.parser.proofs.Fields.{and_second, OtherAt, digits_from_other, digits_more_other, digits_more_end}
use Rattle.parser.proofs.Leaves.{lit_definite}
use Rattle.parser.proofs.Alike.{SameFrom, same_says, AlikeAt}

-- ---- open at the end of every input

abbrev pub Eager : {A : Type 0} → Reader A → Type 0
Eager p = (s : List ℕ) (at : ℕ) → length s ≤ at → p.more s at ≡ true

pub lit_eager : (c : ℕ) → Eager (lit c)
unfolding lit
lit_eager c s at h = rw (le-ltb at (length s) h)

pub field_eager : (n lo hi : ℕ) → 0 < n → reach lo hi n 0 ≡ true → Eager (field n lo hi)
unfolding field
field_eager n lo hi pos r s at h = digits_more_end lo hi n 0 s at pos (le-ltb at (length s) h) ∙ r

pub seq_eager : {A B : Type 0} (p : Reader A) (q : A → Reader B) → Eager p → Eager (seq p q)
unfolding seq
seq_eager p q ep s at h = rw (ep s at h)

pub map_eager : {A B : Type 0} (f : A → B) (p : Reader A) → Eager p → Eager (map f p)
unfolding map
map_eager f p ep s at h = ep s at h

pub alt_eager : {A : Type 0} (p q : Reader A) → Eager p → Eager (alt p q)
unfolding alt
alt_eager p q ep s at h = rw (ep s at h)

-- ---- the same reading from two places

-- an optional byte in front of what is open at every end
pub preceded_same : {A : Type 0} (c : ℕ) (q : Reader A) → Eager q → (s : List ℕ) (at from : ℕ) → from ≡ place_after at ((lit c).reads s at) → SameFrom (preceded_by c q) q s at from
unfolding lit opt seq
preceded_same c q eq s at from e = go (ltb at (length s)) (eqb (get_or s at 0) c) refl refl
  where
    go : (t u : Bool) → ltb at (length s) ≡ t → eqb (get_or s at 0) c ≡ u → SameFrom (preceded_by c q) q s at from
    go true true i u = let here : from ≡ at + 1 = rw (i, u) at e in record { reads = rw (i, u, here); more = rw (i, u, here) }
    go true false i u = let here : from ≡ at = rw (i, u) at e in record { reads = rw (i, u, here); more = rw (i, u, here) }
    go false u i _ = let here : from ≡ at = rw i at e in record { reads = rw (i, here); more = rw (i, here) (sym (eq s at (ltb-false at (length s) i))) }

-- a byte that stands there
pub after_same : {A : Type 0} (c : ℕ) (q : Reader A) (s : List ℕ) (at from : ℕ) → (lit c).reads s at ≡ got tt from → SameFrom (seq (lit c) (λ _. q)) q s at from
unfolding seq
after_same c q s at from e = record { reads = rw e; more = rw (lit_definite c s at tt from e, e) }

-- an alternative that finds nothing, whatever follows, does nothing
pub or_else_no : {A : Type 0} (f : Found A) → or_else f no ≡ f
or_else_no no = refl
or_else_no (got a n) = refl
or_else_no (stop r) = refl

pub alt_drop : {A : Type 0} {p q : Reader A} (r : Reader A) {s : List ℕ} {at from : ℕ} → SameFrom p q s at from → Says r s at no false → SameFrom (alt p r) q s at from
unfolding alt
alt_drop {A} {p} {q} r {s} {at} e h = record { reads = rw (← h.found) (or_else_no (p.reads s at)) ∙ e.reads; more = rw (← h.more) (or_failed (p.more s at) (failed (p.reads s at))) ∙ e.more }
  where
    or_failed : (m t : Bool) → or m (and t false) ≡ m
    or_failed true t = refl
    or_failed false true = refl
    or_failed false false = refl

pub says_past : {A : Type 0} (c : ℕ) (q : Reader A) → Eager q → (s : List ℕ) (at from : ℕ) (f : Found A) (m : Bool) → from ≡ place_after at ((lit c).reads s at) → Says q s from f m → Says (preceded_by c q) s at f m
says_past c q eq s at from f m e h = same_says (preceded_same c q eq s at from e) h

-- ---- where no digit stands

pub field_no : (n lo hi : ℕ) → 0 < n → (s : List ℕ) (at : ℕ) → digit s at ≡ false → (field n lo hi).reads s at ≡ no
unfolding field digits_from
field_no zero lo hi pos s at h = absurd (omega arith)
field_no (suc n) lo hi pos s at h = rw h

pub field_wrong : (n lo hi : ℕ) → 0 < n → (s : List ℕ) (at : ℕ) → OtherAt s at → Says (field n lo hi) s at no false
unfolding field
field_wrong n lo hi pos s at o = record { found = sym (digits_from_other lo hi n 0 s at pos o); more = sym (digits_more_other lo hi n 0 s at pos o) }

-- there an optional byte in front of a field reads as the byte itself
pub preceded_alike : (c n lo hi : ℕ) → 0 < n → (s : List ℕ) (at : ℕ) → digit s at ≡ false → AlikeAt (preceded_by c (field n lo hi)) (seq (lit c) (λ _. field n lo hi)) s at
unfolding lit opt seq
preceded_alike c n lo hi pos s at h = go (ltb at (length s)) (eqb (get_or s at 0) c) refl refl
  where
    go : (t u : Bool) → ltb at (length s) ≡ t → eqb (get_or s at 0) c ≡ u → AlikeAt (preceded_by c (field n lo hi)) (seq (lit c) (λ _. field n lo hi)) s at
    go true true i u = record { reads = rw (i, u); more = rw (i, u) }
    go true false i u =
        let none = field_wrong n lo hi pos s at (record { inside = i; is = rw i at h }) in
        record { reads = rw (i, u) (sym none.found); more = rw (i, u) (sym none.more) }
    go false u i _ = record { reads = rw i (field_no n lo hi pos s at h); more = rw i }

-- behind a field none stands where a wider one failed, whose range has every number that one digit more can make
behind : (lo hi l h n v : ℕ) (s : List ℕ) (at w k : ℕ) → l ≤ lo * 10 → hi * 10 + 9 ≤ h → digits_from lo hi n v s at ≡ got w k → digits_from l h (suc n) v s at ≡ no → digit s k ≡ false
unfolding digits_from
behind lo hi l h zero v s at w k a b e f = go (leb lo v) (leb v hi) (is_digit (get_or s at 0)) (ltb at (length s)) refl refl refl refl e f
  where
    go : (t u d i : Bool) → leb lo v ≡ t → leb v hi ≡ u → is_digit (get_or s at 0) ≡ d → ltb at (length s) ≡ i → pick (and t u) (got v at) no ≡ got w k → pick (and i d) (pick (within l h (v * 10 + (get_or s at 0 - 48))) (got (v * 10 + (get_or s at 0 - 48)) (at + 1)) no) no ≡ no → digit s k ≡ false
    go true true true true t u d i e f =
        let most = leb-true (get_or s at 0) 57 (and_second (leb 48 (get_or s at 0)) d) in
        let least : l ≤ v * 10 + (get_or s at 0 - 48) = omega (arith, leb-true lo v t) in
        let small : v * 10 + (get_or s at 0 - 48) ≤ h = omega (arith, leb-true v hi u, most) in
        absurd (no≢got (sym (rw (le-leb l (v * 10 + (get_or s at 0 - 48)) least, le-leb (v * 10 + (get_or s at 0 - 48)) h small) at f)))
    go true true false true t u d i e f = rw (← got_place e, i, d)
    go true true d false t u _ i e f = rw (← got_place e, i)
    go true false d i t u _ _ e f = absurd (no≢got e)
    go false u d i t _ _ _ e f = absurd (no≢got e)
behind lo hi l h (suc n) v s at w k a b e f = go (digit s at) e f (behind lo hi l h n (v * 10 + (get_or s at 0 - 48)) s (at + 1) w k a b)
  where
    go : (d : Bool) → pick d (digits_from lo hi n (v * 10 + (get_or s at 0 - 48)) s (at + 1)) no ≡ got w k → pick d (digits_from l h (suc n) (v * 10 + (get_or s at 0 - 48)) s (at + 1)) no ≡ no → (digits_from lo hi n (v * 10 + (get_or s at 0 - 48)) s (at + 1) ≡ got w k → digits_from l h (suc n) (v * 10 + (get_or s at 0 - 48)) s (at + 1) ≡ no → digit s k ≡ false) → digit s k ≡ false
    go true e f ih = ih e f
    go false e f ih = absurd (no≢got e)

pub field_behind : (n lo hi l h : ℕ) (s : List ℕ) (at w k : ℕ) → l ≤ lo * 10 → hi * 10 + 9 ≤ h → (field n lo hi).reads s at ≡ got w k → (field (suc n) l h).reads s at ≡ no → digit s k ≡ false
unfolding field
field_behind n lo hi l h s at w k a b e f = behind lo hi l h n 0 s at w k a b e f
