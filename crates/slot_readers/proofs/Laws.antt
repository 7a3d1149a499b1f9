-- From what a reader promises to what its function does: the count fits a slot, and the slots hold what the answer says.
use Prim.Native.Nat.{ℕ, ◌≤◌, ◌<◌, ◌^◌}
use mathlib.Core.Bool.{Bool, true, false}
use mathlib.Core.List.{List}
use mathlib.Core.Path.{◌≡◌, refl}
use native.Mathlib.Omega.{arith}
use lib.Dec.{ltb}
use lib.IntN.{ℤ}
use lib.ListN.{length}
use Rattle.std.specs.Prelude.{Result}
use Rattle.types.specs.declared.Verdict.{Verdict}
use Rattle.parser.specs.Reading.{Reader, Found, no, got, stop, pick}
use Rattle.parser.specs.Answer.{Told, recorded, refused, begun, ended, Begins, Ended}
use Rattle.parser.specs.Told.{told}
use Rattle.parser.specs.declared.answer.Counted.{Counted}
use Rattle.parser.specs.declared.answer.Refused.{Refused}
use Rattle.parser.specs.declared.answer.Read.{Read}
use Rattle.parser.proofs.Places.{Bounded}
use Rattle.offset.proofs.Laws.{offset_bounded}
use Rattle.time.proofs.Laws.{time_bounded}
use Rattle.date.proofs.Laws.{date_bounded}
use Rattle.datetime.proofs.Laws.{datetime_bounded}
use Rattle.duration.proofs.Laws.{duration_bounded}
use Rattle.slots.specs.Slots.{no_slots, verdict_slot, no_verdict, Untouched, Answered, PutIn}
use Rattle.slot_readers.specs.Promises.{BeginsIn, EndsIn}

-- ---- the count is within the input

begun_count : {A : Type 0} (p : Reader A) (s : List ℕ) → Bounded p → (begun (p.reads s 0)).count ≤ length s
begun_count {A} p s bounded = go (p.reads s 0) refl
  where
    go : (f : Found A) → p.reads s 0 ≡ f → (begun f).count ≤ length s
    go (got a n) e = bounded s 0 (omega arith) a n e
    go no e = omega arith
    go (stop r) e = omega arith

ended_count : {A : Type 0} (p : Reader A) (s : List ℕ) → Bounded p → (ended (length s) (p.reads s 0)).count ≤ length s
ended_count {A} p s bounded = go (p.reads s 0) refl
  where
    of : (b : Bool) (a : A) (n : ℕ) → n ≤ length s → (pick b (refused 3 n) (recorded a n)).count ≤ length s
    of true a n le = le
    of false a n le = le

    go : (f : Found A) → p.reads s 0 ≡ f → (ended (length s) f).count ≤ length s
    go (got a n) e = of (ltb n (length s)) a n (bounded s 0 (omega arith) a n e)
    go no e = omega arith
    go (stop r) e = omega arith

-- ---- the slots

-- what was put, by what the answer tells
put_as : {A : Type 0} {n : ℕ} {f : A → List ℤ} {m : ℕ} {before after : List ℤ} {r : ℕ} {v : ℤ} {told told' : Told A} → told ≡ told' → told'.count ≤ m → m < 2 ^ 63 → n ≤ length before → PutIn n f v told before after r → Answered f v told' before after r
put_as e le short room put = rw e at (put.room room (rw e (omega arith)))

-- a refusal is one of any kind
pub refusal : {A : Type 0} {f : A → List ℤ} {m : ℕ} {v : ℤ} {q i : ℕ} {before after : List ℤ} {r : ℕ} → PutIn m no_slots v (refused q i) before after r → PutIn m f v (refused q i) before after r
refusal p = record { few = p.few; far = p.far; room = λ h i. let a = p.room h i in record { number = a.number; filled = a.filled } }

module _ {A : Type 0} {n : ℕ} {p : Reader A} {f : A → List ℤ} {s : List ℕ} {before after : List ℤ} {r : ℕ} where
  pub begins : {k : ℕ} {told : Told A} {v : Verdict} {w : ℤ} → Bounded p → length s < 2 ^ 63 → Begins k p s told v → w ≡ verdict_slot v → PutIn n f w told before after r → BeginsIn n k p f s before after r
  begins {v = v} bounded short b e put =
      record { few = put.few; room = λ room. (v, (b.verdict, put_as b.answer (begun_count p s bounded) short room (rw e at put))) }

  pub ends : {told : Told A} → Bounded p → length s < 2 ^ 63 → Ended p s told → PutIn n f no_verdict told before after r → EndsIn n p f s before after r
  ends bounded short e put = record { few = put.few; room = λ room. put_as e (ended_count p s bounded) short room put }

  -- where the reader is asked only if there are slots enough
  pub fills : {k : ℕ} {post : Read A → Type 0} → Bounded p → length s < 2 ^ 63 → ((x : Read A) → post x → Begins k p s (told x.answer) x.verdict) → (length before < n → Untouched before after r) → (n ≤ length before → (x : Read A) × (post x × PutIn n f (verdict_slot x.verdict) (told x.answer) before after r)) → BeginsIn n k p f s before after r
  fills bounded short read few filled =
      record { few = few; room = λ room. let x = filled room in (begins bounded short (read x.0 x.1.0) refl x.1.1).room room }

  pub fills_whole : {post : Result (Counted A) Refused → Type 0} → Bounded p → length s < 2 ^ 63 → ((x : Result (Counted A) Refused) → post x → Ended p s (told x)) → (length before < n → Untouched before after r) → (n ≤ length before → (x : Result (Counted A) Refused) × (post x × PutIn n f no_verdict (told x) before after r)) → EndsIn n p f s before after r
  fills_whole bounded short read few filled =
      record { few = few; room = λ room. let x = filled room in (ends bounded short (read x.0 x.1.0) x.1.1).room room }

-- of each kind
pub ruleset filled = (fills, fills_whole, offset_bounded, time_bounded, date_bounded, datetime_bounded, duration_bounded)
