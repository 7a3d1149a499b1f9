-- From the record that is made of the slots, and what its writer promises, to the promise of the slots and the buffer: once over the kind.
use Prim.Native.Nat.{ℕ, suc, ◌≤◌, ◌<◌, ◌^◌}
use mathlib.Core.List.{List, ◌∷◌}
use mathlib.Core.Bool.{Bool, true, false}
use mathlib.Core.Path.{◌≡◌, refl, sym, ◌∙◌}
use native.Mathlib.Omega.{arith}
use borrow.Author.Rules.{sfits_of}
use borrow.Author.Tests.{ltb-true, ltb-false}
use lib.Dec.{ltb}
use lib.IntN.{ℤ, pos}
use lib.ListN.{length, get_or, take, drop, length-append}
use lib.Seq.{drop-cons}
use lib.Signed.{mag}
use mir.Syntax.{w64}
use mir.Val.{to_z, of_z}
use mir.Facts.{to_z-of_z}
use Rattle.types.specs.declared.DateTime.{DateTime}
use Rattle.parser.specs.Reading.{Reader}
use Rattle.slots.specs.Slots.{date_slots, time_slots, date_time_slots}
use Rattle.slots.proofs.Laws.{date_length_lem, time_length_lem}
use Rattle.writing.specs.declared.Unwritten.{Unwritten}
use Rattle.std.specs.declared.result.Result.{Result}
use Rattle.writing.specs.Writing.{count_of, Readable, Leaves, Writes}
use Rattle.writing.proofs.Laws.{Spells, readable, not_readable}
use Rattle.held.specs.Held.{Made}
use Rattle.slot_writers.specs.Promise.{Holds, LeavesIn, Tells, WritesFrom}

-- the count is within the buffer
pub count_within : {A : Type 0} {p : Reader A} {text : A → List ℕ} {given : A → Bool} → Spells p text given → {a : A} {old new : List ℕ} {w : Result ℕ Unwritten} → Writes p a (text a) old new w → count_of w ≤ length old
count_within {text = text} {given = given} k {a} {old} {w = w} h = go (given a) refl (ltb (length old) (length (text a))) refl
  where
    go : (t : Bool) → given a ≡ t → (s : Bool) → ltb (length old) (length (text a)) ≡ s → count_of w ≤ length old
    go false e s f = omega (arith, (h.unread (not_readable k a e)).count)
    go true e true f = omega (arith, (h.short (readable k a e) (ltb-true (length old) (length (text a)) f)).count)
    go true e false f = let le = ltb-false (length old) (length (text a)) f in omega (arith, (h.fits (readable k a e) le).count)

pub date_time_length : (x : DateTime) → length (date_time_slots x) ≡ 12
date_time_length x = length-append (date_slots x.date) (time_slots x.time) ∙ omega (arith, date_length_lem x.date, time_length_lem x.time)

told : {k m : ℕ} {l new : List ℕ} {before after : List ℤ} {w : Result ℕ Unwritten} {r : ℕ} → Leaves k m l new w → Tells w before after r → LeavesIn k m l before after new r
told h t = record { number = t.number ∙ h.number; count = rw h.count at t.count; buffer = h.buffer }

-- a slot as the code reads it, and those behind it
module _ (l : List ℤ) {n : ℕ} (room : n ≤ length l) where
  pub slot : (i k : ℕ) {zs : List ℤ} → i < n → mag (get_or l i (pos 0)) < 2 ^ 63 → zs ≡ take k (drop (suc i) l) → to_z w64 (of_z w64 (get_or l i (pos 0))) ∷ zs ≡ take (suc k) (drop i l)
  slot i k h fits e = let inside : i < length l = omega arith in rw (drop-cons l i (pos 0) inside, ← e, to_z-of_z (sfits_of {w = w64} fits))

-- what is held from slot 2 on are the record's slots
module _ {A : Type 0} (slots : A → List ℤ) (before : List ℤ) {m : ℕ} (a : A) (size : length (slots a) ≡ m) where
  holds : Holds slots a before → slots a ≡ take m (drop 2 before)
  holds h = sym (rw size at h)

  held : slots a ≡ take m (drop 2 before) → Holds slots a before
  held e = rw size (sym e)

-- ---- the ways of a writer

pub few : {A : Type 0} {n : ℕ} {p : Reader A} {slots : A → List ℤ} {spelling : A → List ℕ} {before : List ℤ} {old : List ℕ} → length before < n → WritesFrom n p slots spelling before before old old 255
few h = record { few = λ _. ((refl, refl), refl); unread = λ i. absurd (omega arith); short = λ i. absurd (omega arith); fits = λ i. absurd (omega arith) }

module _ {A : Type 0} {n : ℕ} {p : Reader A} {slots : A → List ℤ} {spelling : A → List ℕ} {given : A → Bool} (k : Spells p spelling given) {m : ℕ} (size : (a : A) → length (slots a) ≡ m) {before after : List ℤ} {old : List ℕ} {r : ℕ} (room : n ≤ length before) where
  pub wrote : {a : A} {new : List ℕ} {w : Result ℕ Unwritten} → Made given slots (take m (drop 2 before)) a → Writes p a (spelling a) old new w → Tells w before after r → WritesFrom n p slots spelling before after old new r
  wrote {a} made h t = record {
    few = λ i. absurd (omega arith);
    unread = λ _ none. told (h.unread (λ q. none a q (held slots before a (size a) (made.held (k.ranges a q))))) t;
    short = λ _ b q i l. told ((rw (is b q i) at h).short q l) t;
    fits = λ _ b q i l. told ((rw (is b q i) at h).fits q l) t;
  }
    where
      is : (b : A) → Readable p b → Holds slots b before → a ≡ b
      is b q i = made.found b (k.ranges b q) (holds slots before b (size b) i)
