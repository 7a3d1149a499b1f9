-- What holds of every writer, once over the kind: a record that is read from some bytes is read back from its spelling, so the spelling tells
-- the record, and the promise leaves nothing open.
use Prim.Native.Nat.{ℕ, ◌≤◌, ◌<◌}
use mathlib.Core.List.{List}
use mathlib.Core.Bool.{Bool, true, false}
use mathlib.Core.Path.{◌≡◌, refl, sym, ap, ◌∙◌}
use native.Mathlib.Omega.{arith}
use native.Mathlib.Nat.{zero-add}
use borrow.Author.Tests.{le-ltb, ltb-true, ltb-false}
use lib.Dec.{ltb}
use lib.ListN.{length, take, drop}
use lib.Seq.{take-append_seam}
use Rattle.std.specs.Prelude.{Option, Some, None, Result, Ok, Err}
use Rattle.parser.specs.Reading.{Reader, got, pick}
use Rattle.parser.specs.Answer.{recorded, Ended}
use Rattle.parser.proofs.Fields.{true≢false}
use Rattle.parser.proofs.Places.{got_value}
use Rattle.text.specs.Text.{Puts}
use Rattle.text.proofs.Laws.{puts_fits}
use Rattle.writing.specs.declared.Unwritten.{Unwritten}
use Rattle.writing.specs.declared.Unwritten.TheVariants.{NoReader, TooShort}
use Rattle.writing.specs.Writing.{number_of, count_of, Readable, measure, Measures, room_for, Leaves, over, Writes}

-- A kind's spellings beside its rule, and the ranges of the code: a record within them is read back from its spelling, and no other record is
-- read from anything.
pub record Spells {A : Type 0} (p : Reader A) (text : A → List ℕ) (given : A → Bool) : Type 0 where
  pub back : (a : A) → given a ≡ true → p.reads (text a) 0 ≡ got a (length (text a))
  pub ranges : (a : A) → Readable p a → given a ≡ true

module _ {A : Type 0} {p : Reader A} {text : A → List ℕ} {given : A → Bool} (k : Spells p text given) where
  -- the ranges are exactly the records that some reader gives
  pub readable : (a : A) → given a ≡ true → Readable p a
  readable a e = record { bytes = text a; count = length (text a); reads = k.back a e }

  pub not_readable : (a : A) → given a ≡ false → Readable p a → ⊥
  not_readable a e r = true≢false (sym (k.ranges a r) ∙ e)

  -- "A whole reading of what was written gives the record back"
  pub read_back : (a : A) → Readable p a → Ended p (text a) (recorded a (length (text a)))
  read_back a r = let n = length (text a) in rw (k.back a (k.ranges a r), le-ltb n n (omega arith))

  -- no two records share a spelling
  pub one_record : (a b : A) → Readable p a → Readable p b → text a ≡ text b → a ≡ b
  one_record a b r q e = got_value {n = length (text b)} (sym (k.back a (k.ranges a r)) ∙ rw e (k.back b (k.ranges b q)))

-- where two rules have the same spellings, within the same ranges, what the one reads is read back by the other
pub read_back_by : {A : Type 0} {p q : Reader A} {text : A → List ℕ} {given : A → Bool} → Spells p text given → Spells q text given → (a : A) → Readable p a → Ended q (text a) (recorded a (length (text a)))
read_back_by k l a r = read_back l a (readable l a (k.ranges a r))

-- ---- options and results, told apart

some_once : {m n : ℕ} → Some m ≡ Some n → m ≡ n
some_once e = cc

some_or_none : {n : ℕ} → None ≡ Some n → ⊥
some_or_none e = cc

ok_once : {m n : ℕ} → ◌≡◌ {A = Result ℕ Unwritten} (Ok m) (Ok n) → m ≡ n
ok_once e = cc

err_once : {v w : Unwritten} → ◌≡◌ {A = Result ℕ Unwritten} (Err v) (Err w) → v ≡ w
err_once e = cc

ok_or_err : {n : ℕ} {w : Unwritten} → ◌≡◌ {A = Result ℕ Unwritten} (Ok n) (Err w) → ⊥
ok_or_err e = cc

-- ---- how long a spelling is

pub measure_long : (t : Bool) {k n : ℕ} → measure t k ≡ Some n → (t ≡ true) × (n ≡ k)
measure_long true e = (refl, cc)
measure_long false e = absurd (let z : ◌≡◌ {A = ℕ} 0 1 = cc in omega arith)

pub measure_none : (t : Bool) (k : ℕ) → measure t k ≡ None → t ≡ false
measure_none true k e = absurd (let z : ◌≡◌ {A = ℕ} 0 1 = cc in omega arith)
measure_none false k e = refl

-- what the ranges tell is a measure
module _ {A : Type 0} {p : Reader A} {text : A → List ℕ} {given : A → Bool} (k : Spells p text given) (a : A) where
  pub none_measures : given a ≡ false → Measures p a (text a) None
  none_measures e = record { unread = λ z. refl; long = λ r. absurd (not_readable k a e r) }

  pub some_measures : {n : ℕ} → given a ≡ true → n ≡ length (text a) → Measures p a (text a) (Some n)
  some_measures e f = record { unread = λ z. absurd (z (readable k a e)); long = λ z. ap Some f }

  pub given_measures : {t : Bool} {n : ℕ} → t ≡ given a → n ≡ length (text a) → Measures p a (text a) (measure t n)
  given_measures {t = true} e f = some_measures (sym e) f
  given_measures {t = false} e f = none_measures (sym e)

module _ {A : Type 0} {p : Reader A} {text : A → List ℕ} {given : A → Bool} (k : Spells p text given) {a : A} {m : Option ℕ} (h : Measures p a (text a) m) where
  -- nothing else meets the promise
  pub measures_is : m ≡ measure (given a) (length (text a))
  measures_is = go (given a) refl
    where
      go : (t : Bool) → given a ≡ t → m ≡ measure t (length (text a))
      go true f = h.long (readable k a f)
      go false f = h.unread (not_readable k a f)

  -- what is measured is what some reader gives, and only that
  pub measured_long : {n : ℕ} → m ≡ Some n → (given a ≡ true) × (n ≡ length (text a))
  measured_long e = measure_long (given a) (sym measures_is ∙ e)

  pub measured_none : m ≡ None → given a ≡ false
  measured_none e = measure_none (given a) _ (sym measures_is ∙ e)

-- ---- the three answers

-- what was put from the front on, with room for all of it
pub put_front : {text old new : List ℕ} {next : ℕ} → Puts text old 0 new next → length text ≤ length old → (next ≡ length text) × (new ≡ over text old)
put_front {text} q h = let e = puts_fits q (omega arith) in (e.0 ∙ zero-add (length text), rw (zero-add (length text)) at e.1)

-- there is room for as much as was measured
pub room_given : (m : Option ℕ) {size n : ℕ} → room_for m size ≡ Ok n → (m ≡ Some n) × (n ≤ size)
room_given None e = absurd (ok_or_err (sym e))
room_given (Some l) {size} {n} e = go (ltb size l) refl e
  where
    go : (t : Bool) → ltb size l ≡ t → pick t (Err TooShort) (Ok l) ≡ Ok n → (Some l ≡ Some n) × (n ≤ size)
    go true f e = absurd (ok_or_err (sym e))
    go false f e = let same : l ≡ n = ok_once e in (ap Some same, omega (arith, ltb-false size l f))

module _ {A : Type 0} {p : Reader A} {a : A} {text : List ℕ} {old : List ℕ} where
  pub short_writes : {n : ℕ} → Readable p a → n ≡ length text → length old < n → Writes p a text old old (Err TooShort)
  short_writes r e h = record {
    unread = λ z. absurd (z r);
    short = λ z l. record { number = refl; count = refl; buffer = refl };
    fits = λ z l. absurd (omega arith);
  }

  -- nothing is written where there is no length, or no room
  pub refused_writes : (m : Option ℕ) {why : Unwritten} → Measures p a text m → room_for m (length old) ≡ Err why → Writes p a text old old (Err why)
  refused_writes None h e = rw (← err_once e) (record {
    unread = λ z. record { number = refl; count = refl; buffer = refl };
    short = λ r. absurd (some_or_none (h.long r));
    fits = λ r. absurd (some_or_none (h.long r));
  })
  refused_writes (Some n) {why} h e = go (ltb (length old) n) refl e
    where
      go : (t : Bool) → ltb (length old) n ≡ t → pick t (Err TooShort) (Ok n) ≡ Err why → Writes p a text old old (Err why)
      go true f e = rw (← err_once e) (record {
        unread = λ z. absurd (some_or_none (sym (h.unread z)));
        short = λ r l. record { number = refl; count = refl; buffer = refl };
        fits = λ r l. absurd (omega (arith, ltb-true (length old) n f, some_once (h.long r)));
      })
      go false f e = absurd (ok_or_err e)

  pub over_writes : (m : Option ℕ) {new : List ℕ} {n : ℕ} → Measures p a text m → room_for m (length old) ≡ Ok n → (length text ≤ length old → new ≡ over text old) → Writes p a text old new (Ok n)
  over_writes m {new} {n} h e b =
      let room = room_given m e in
      record {
        unread = λ z. absurd (some_or_none (sym (h.unread z) ∙ room.0));
        short = λ r l. absurd (omega (arith, some_once (sym room.0 ∙ h.long r), room.1));
        fits = λ r l. record { number = refl; count = some_once (sym room.0 ∙ h.long r); buffer = b l };
      }

  pub put_writes : (m : Option ℕ) {new : List ℕ} {n next : ℕ} → Measures p a text m → room_for m (length old) ≡ Ok n → Puts text old 0 new next → Writes p a text old new (Ok n)
  put_writes m h e q = over_writes m h e (λ l. (put_front q l).1)

-- ---- the promise leaves nothing open

pub written_once : (v w : Result ℕ Unwritten) → number_of v ≡ number_of w → count_of v ≡ count_of w → v ≡ w
written_once (Ok m) (Ok n) e f = ap Ok f
written_once (Ok m) (Err NoReader) e f = absurd (omega arith)
written_once (Ok m) (Err TooShort) e f = absurd (omega arith)
written_once (Err NoReader) (Ok n) e f = absurd (omega arith)
written_once (Err TooShort) (Ok n) e f = absurd (omega arith)
written_once (Err NoReader) (Err NoReader) e f = refl
written_once (Err NoReader) (Err TooShort) e f = absurd (omega arith)
written_once (Err TooShort) (Err NoReader) e f = absurd (omega arith)
written_once (Err TooShort) (Err TooShort) e f = refl

module _ {k n : ℕ} {l new new' : List ℕ} {v w : Result ℕ Unwritten} where
  leaves_once : Leaves k n l new v → Leaves k n l new' w → (v ≡ w) × (new ≡ new')
  leaves_once x y = (written_once v w (x.number ∙ sym y.number) (x.count ∙ sym y.count), x.buffer ∙ sym y.buffer)

-- where it is known whether some reader gives the record, as the ranges tell
module _ {A : Type 0} {p : Reader A} {text : A → List ℕ} {given : A → Bool} (k : Spells p text given) (a : A) {old : List ℕ} where
  pub writes_once : {new new' : List ℕ} {v w : Result ℕ Unwritten} → Writes p a (text a) old new v → Writes p a (text a) old new' w → (v ≡ w) × (new ≡ new')
  writes_once {new} {new'} {v} {w} x y = go (given a) refl (ltb (length old) (length (text a))) refl
    where
      go : (t : Bool) → given a ≡ t → (s : Bool) → ltb (length old) (length (text a)) ≡ s → (v ≡ w) × (new ≡ new')
      go false e s f = let z = not_readable k a e in leaves_once (x.unread z) (y.unread z)
      go true e true f = let r = readable k a e in let h = ltb-true (length old) (length (text a)) f in leaves_once (x.short r h) (y.short r h)
      go true e false f = let r = readable k a e in let h = ltb-false (length old) (length (text a)) f in leaves_once (x.fits r h) (y.fits r h)

  -- 4 exactly when no reader gives the record: not where one does
  pub four_only : {new : List ℕ} {w : Result ℕ Unwritten} → Writes p a (text a) old new w → number_of w ≡ 4 → Readable p a → ⊥
  four_only {new} {w} x e r = go (ltb (length old) (length (text a))) refl
    where
      go : (s : Bool) → ltb (length old) (length (text a)) ≡ s → ⊥
      go true f = omega (arith, (x.short r (ltb-true (length old) (length (text a)) f)).number)
      go false f = omega (arith, (x.fits r (ltb-false (length old) (length (text a)) f)).number)

  -- what was written with 0 is the spelling
  pub written_text : {new : List ℕ} {w : Result ℕ Unwritten} → Writes p a (text a) old new w → number_of w ≡ 0 → (Readable p a) × (count_of w ≡ length (text a)) × (take (count_of w) new ≡ text a)
  written_text {new} {w} x e = go (given a) refl (ltb (length old) (length (text a))) refl
    where
      go : (t : Bool) → given a ≡ t → (s : Bool) → ltb (length old) (length (text a)) ≡ s → (Readable p a) × (count_of w ≡ length (text a)) × (take (count_of w) new ≡ text a)
      go false e' s f = absurd (omega (arith, (x.unread (not_readable k a e')).number))
      go true e' true f = absurd (omega (arith, (x.short (readable k a e') (ltb-true (length old) (length (text a)) f)).number))
      go true e' false f =
          let r = readable k a e' in
          let l = x.fits r (ltb-false (length old) (length (text a)) f) in
          (r, l.count, rw (l.count, l.buffer) (take-append_seam (text a) (drop (length (text a)) old)))

  -- and it is read back whole
  pub written_read_back : {new : List ℕ} {w : Result ℕ Unwritten} → Writes p a (text a) old new w → number_of w ≡ 0 → Ended p (take (count_of w) new) (recorded a (count_of w))
  written_read_back x e = let t = written_text x e in rw (t.2, t.1) (read_back k a t.0)

-- "equal records give equal bytes", into whatever buffers they are written
pub equal_bytes : {A : Type 0} {p : Reader A} {text : A → List ℕ} {given : A → Bool} (k : Spells p text given) (a b : A) {old old' new new' : List ℕ} {v w : Result ℕ Unwritten}
    → a ≡ b → Writes p a (text a) old new v → Writes p b (text b) old' new' w → number_of v ≡ 0 → number_of w ≡ 0 → take (count_of v) new ≡ take (count_of w) new'
equal_bytes {text = text} k a b same x y e f = (written_text k a x e).2 ∙ ap text same ∙ sym (written_text k b y f).2
