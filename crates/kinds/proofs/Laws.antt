-- What holds of every kind's rule, once over the kind: each kind's own laws, under the name of its records.
use Prim.Native.Nat.{ℕ, ◌≤◌}
use mathlib.Core.List.{List, [], ◌∷◌, ◌++◌}
use mathlib.Core.Bool.{Bool, true, false}
use mathlib.Core.Path.{◌≡◌, refl, sym}
use native.Mathlib.Omega.{arith}
use lib.ListN.{length}
use lib.Dec.{ltb}
use borrow.Author.Tests.{le-ltb}
use Rattle.types.specs.declared.Verdict.TheVariants.{Open}
use Rattle.parser.specs.Reading.{Found, no, got, stop, Says, pick}
use Rattle.parser.specs.Answer.{begun, ended, recorded, refused, verdict_of, Judged, Begins, Ended}
use Rattle.parser.proofs.Stable.{Stable}
use Rattle.parser.proofs.Places.{Bounded, Fails}
use Rattle.parser.proofs.Stops.{OneOrTwo, no_form_lem, too_big}
use Rattle.parser.proofs.General.{Eager}
use Rattle.parser.proofs.Hopeful.{Anything, HopefulOr, hopeful_weaken, never_stops}
use Rattle.parser.proofs.Lawful.{LawfulOr, lawful_begins, ItemOr, widen, map_item}
use Rattle.date.proofs.Laws.{date_item}
use Rattle.time.proofs.Laws.{MayStop, time_item_lem}
use Rattle.offset.proofs.Laws.{offset_item}
use Rattle.datetime.proofs.Laws.{datetime_item}
use Rattle.duration.proofs.Laws.{duration_item_lem}
use Rattle.interval.proofs.Laws.{interval_item}
use Rattle.kinds.specs.declared.answer.Kind.{Kind}
use Rattle.kinds.specs.declared.answer.Kind.TheVariants as kind
use Rattle.kinds.specs.declared.answer.Record.{Record}
use Rattle.kinds.specs.Kinds.{rule_of, bound}

-- what a record takes beside digits: `+`, `-`, `W`, `T`, `:`, `,`, `.`, `Z`, a duration's letters, and an interval's `R` and `/`
abbrev pub bytes : List ℕ
bytes = 43 ∷ 45 ∷ 87 ∷ 84 ∷ 58 ∷ 44 ∷ 46 ∷ 90 ∷ 80 ∷ 89 ∷ 77 ∷ 68 ∷ 72 ∷ 83 ∷ 82 ∷ 47 ∷ []

-- whether what is found may be lost to a completion: behind an hour that ends the day
abbrev pub MayStopOf : Kind → Type 0
MayStopOf kind.Date = ⊥
MayStopOf (kind.Time c) = MayStop c.edition
MayStopOf kind.Offset = ⊥
MayStopOf (kind.Stamp c) = MayStop c.edition
MayStopOf kind.Duration = ⊥
MayStopOf (kind.Interval c) = MayStop c.edition

-- stable, within the input, deaf to every other byte, and hopeful with its bound; and past the end nothing is found, and it is open there
record LawsOf (k : Kind) : Type 0 where
  lawful : LawfulOr (MayStopOf k) bytes (bound k) Anything (rule_of k)
  fails : Fails (rule_of k)
  eager : Eager (rule_of k)

of_item : {k : Kind} {Y : ℕ → Bool} {j : ℕ} → ItemOr (MayStopOf k) bytes Y j (bound k) Anything (rule_of k) → LawsOf k
of_item i = record { lawful = i.lawful; fails = i.fails; eager = i.eager }

laws : (k : Kind) → LawsOf k
laws kind.Date = of_item (widen refl (map_item _ date_item))
laws (kind.Time c) = of_item (widen refl (map_item _ (time_item_lem c)))
laws kind.Offset = of_item (widen refl (map_item _ offset_item))
laws (kind.Stamp c) = of_item (widen refl (map_item _ (datetime_item c)))
laws kind.Duration = of_item (widen refl (map_item _ duration_item_lem))
laws (kind.Interval c) = of_item (map_item _ (interval_item c))

pub lawful : (k : Kind) → LawfulOr (MayStopOf k) bytes (bound k) Anything (rule_of k)
lawful k = (laws k).lawful

pub fails : (k : Kind) → Fails (rule_of k)
fails k = (laws k).fails

-- where no byte more could matter, every longer input reads the same
pub stable : (k : Kind) → Stable (rule_of k)
stable k = (lawful k).steady.stable

-- what is found ends within the input
pub bounded : (k : Kind) → Bounded (rule_of k)
bounded k = (lawful k).steady.bounded

-- what stops a reading is no form or a number that is too big
pub stops_by : (k : Kind) (s : List ℕ) (at r : ℕ) → (rule_of k).reads s at ≡ stop r → (1 ≤ r) × (r ≤ 2)
stops_by k s at r e = go ((lawful k).steady.numbered.by s at r e)
  where
    go : {q : ℕ} → OneOrTwo q → (1 ≤ q) × (q ≤ 2)
    go no_form_lem = (omega arith, omega arith)
    go too_big = (omega arith, omega arith)

-- so the whole reader's answer is one of four
pub four_answers : (k : Kind) (s : List ℕ) → (ended (length s) ((rule_of k).reads s 0)).number ≤ 3
four_answers k s = go ((rule_of k).reads s 0) refl
  where
    whole : (a : Record) (n : ℕ) (t : Bool) → (pick t (refused 3 n) (recorded a n)).number ≤ 3
    whole a n true = omega arith
    whole a n false = omega arith

    go : (f : Found Record) → (rule_of k).reads s 0 ≡ f → (ended (length s) f).number ≤ 3
    go no e = omega arith
    go (stop r) e = omega (arith, stops_by k s 0 r e)
    go (got a n) e = whole a n (ltb n (length s))

-- where a byte more could matter, so many bytes, or fewer, are read to the last one, or what is found now is lost to them
pub hopeful : (k : Kind) → HopefulOr (MayStopOf k) (bound k) Anything (rule_of k)
hopeful k = (lawful k).hopeful

-- so what code says of a kind's rule at the beginning is what its beginning reader has to promise
pub says : (k : Kind) (s : List ℕ) (f : Found Record) (m : Bool) → Says (rule_of k) s 0 f m → Begins (bound k) (rule_of k) s (begun f) (verdict_of m)
says k = lawful_begins (lawful k)

pub open_where : (k : Kind) (s : List ℕ) → (rule_of k).more s 0 ≡ true → Judged (bound k) (rule_of k) s Open
open_where k s e = (says k s _ true (record { found = refl; more = sym e })).verdict

-- so the empty text is open
pub empty_open : (k : Kind) → Judged (bound k) (rule_of k) [] Open
empty_open k = open_where k [] ((laws k).eager [] 0 (omega arith))

-- ---- where nothing may be lost to a completion, an open text has one that the whole reader accepts

pub record Completed (k : Kind) (s : List ℕ) : Type 0 where
  pub more : List ℕ
  pub value : Record
  pub few : length more ≤ bound k
  pub accepted : Ended (rule_of k) (s ++ more) (recorded value (length (s ++ more)))

pub open_completed : (k : Kind) → (MayStopOf k → ⊥) → (s : List ℕ) → Judged (bound k) (rule_of k) s Open → Completed k s
open_completed k never s other = go ((rule_of k).more s 0) refl
  where
    go : (m : Bool) → (rule_of k).more s 0 ≡ m → Completed k s
    go true h =
        let e = never_stops (hopeful_weaken (bound k) Anything (rule_of k) never (omega arith) (λ a f. f) (hopeful k)) s 0 (omega arith) h in
        let all = length (s ++ e.first ∷ e.rest) in
        record { more = e.first ∷ e.rest; value = e.value; few = e.few; accepted = rw (e.reads, le-ltb all all (omega arith)) }
    go false h = absurd (other.1.1 (rw (stable k s other.0 0 h).reads))
