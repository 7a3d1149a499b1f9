-- A text can be completed exactly where it is open or accepted, and so can all that it begins with.
use Prim.Native.Nat.{ℕ, ◌≤◌, ◌<◌}
use mathlib.Core.List.{List, [], ◌∷◌, ◌++◌, append_assoc, append-nil}
use mathlib.Core.Bool.{true, false}
use mathlib.Core.Path.{◌≡◌, sym, ap, ◌∙◌}
use native.Mathlib.Omega.{arith}
use lib.ListN.{length, take, drop, length-append, take-append-drop}
use lib.Seq.{take-length, take-take}
use borrow.Author.Tests.{eqb-true, eq-eqb, le-ltb}
use Rattle.std.specs.declared.result.Result.TheVariants as result
use Rattle.types.specs.declared.Verdict.TheVariants.{Settled, Open}
use Rattle.parser.specs.Reading.{got}
use Rattle.parser.specs.Answer.{recorded, begun, Judged}
use Rattle.parser.specs.Told.{told}
use Rattle.parser.specs.declared.answer.Read.{Read}
use Rattle.parser.proofs.Fields.{true≢false}
use Rattle.parser.proofs.Verdict.{recorded_or_refused, recorded_once, begun_got, ended_got, ended_all}
use Rattle.kinds.specs.declared.answer.Kind.{Kind}
use Rattle.kinds.specs.declared.answer.Kind.TheVariants as kind
use Rattle.kinds.specs.declared.answer.Record.{Record}
use Rattle.kinds.specs.Kinds.{Answer, rule_of, bound, Reads}
use Rattle.kinds.proofs.Laws.{MayStopOf, bounded, empty_open, open_completed}
use Rattle.breaks.specs.Breaks.{under2019, Accepts, Completable}
use Rattle.breaks.specs.Standing.{wholly}

-- under 2019 no completion may stop the reading
never : (k : Kind) → MayStopOf (under2019 k) → ⊥
never kind.Date w = w
never (kind.Time c) w = w
never kind.Offset w = w
never (kind.Stamp c) w = w
never kind.Duration w = w
never (kind.Interval c) w = w

module _ (k : Kind) where
  -- ---- accepted, and what the rule finds

  -- a record of the whole reader takes all bytes: fewer are refused, and more are not there
  accepts_got : (s : List ℕ) (a : Accepts k s) → (rule_of (under2019 k)).reads s 0 ≡ got a.value (length s)
  accepts_got s a =
      let reading = (rule_of (under2019 k)).reads s 0 in
      let found = ended_got (length s) reading a.value a.count (sym a.whole) in
      let enough = ended_all (length s) reading a.value a.count (sym a.whole) in
      let all : a.count ≡ length s = omega (arith, enough, bounded (under2019 k) s 0 (omega arith) a.value a.count found) in
      found ∙ ap (got a.value) all

  got_accepts : (s : List ℕ) (v : Record) → (rule_of (under2019 k)).reads s 0 ≡ got v (length s) → Accepts k s
  got_accepts s v e = record { value = v; count = length s; whole = rw (e, le-ltb (length s) (length s) (omega arith)) }

  -- ---- what can be completed

  pub accepts_completable : (s : List ℕ) → Accepts k s → Completable k s
  accepts_completable s a = record { more = []; accepted = rw (append-nil s) a }

  pub open_completable : (s : List ℕ) → Judged (bound (under2019 k)) (rule_of (under2019 k)) s Open → Completable k s
  open_completable s other = let c = open_completed (under2019 k) (never k) s other in record { more = c.more; accepted = record { value = c.value; count = length (s ++ c.more); whole = c.accepted } }

  -- settled, and not accepted: a continuation that is accepted would get the same answer, whose count lies within the text
  settled_refused : (s : List ℕ) → Judged (bound (under2019 k)) (rule_of (under2019 k)) s Settled → (Accepts k s → ⊥) → Completable k s → ⊥
  settled_refused s same refused c =
      let all = length (s ++ c.more) in
      let value = c.accepted.value in
      let now = begun_got ((rule_of (under2019 k)).reads s 0) value all (sym (same c.more) ∙ ap begun (accepts_got (s ++ c.more) c.accepted)) in
      let whole : all ≡ length s = omega (arith, bounded (under2019 k) s 0 (omega arith) value all now, length-append s c.more) in
      refused (got_accepts s value (now ∙ ap (got value) whole))

  -- the empty text, and what begins a text that can be completed
  pub empty_completable : Completable k []
  empty_completable = open_completable [] (empty_open (under2019 k))

  begins_completable : (s x : List ℕ) → Completable k (s ++ x) → Completable k s
  begins_completable s x c = record { more = x ++ c.more; accepted = rw (← append_assoc s x c.more) c.accepted }

  pub part_completable : (n : ℕ) (s : List ℕ) → Completable k s → Completable k (take n s)
  part_completable n s c = begins_completable (take n s) (drop n s) (rw (take-append-drop n s) c)

  pub before_completable : (m n : ℕ) (s : List ℕ) → m ≤ n → Completable k (take n s) → Completable k (take m s)
  before_completable m n s h c = rw (take-take m n s h) at (part_completable m (take n s) c)

-- ---- what a reading tells

module _ (k : Kind) (s : List ℕ) (r : Read Record) (reads : Reads (under2019 k) s r) where
  pub whole_accepted : wholly r.answer (length s) ≡ true → Accepts k s
  whole_accepted h = go r.answer reads.answer h
    where
      go : (a : Answer) → told a ≡ begun ((rule_of (under2019 k)).reads s 0) → wholly a (length s) ≡ true → Accepts k s
      go (result.Ok q) e h = got_accepts k s q.value (begun_got _ q.value (length s) (sym e ∙ ap (recorded q.value) (eqb-true q.count (length s) h)))
      go (result.Err d) e h = absurd (true≢false (sym h))

  accepted_whole : Accepts k s → wholly r.answer (length s) ≡ true
  accepted_whole a = go r.answer (reads.answer ∙ ap begun (accepts_got k s a))
    where
      go : (x : Answer) → told x ≡ recorded a.value (length s) → wholly x (length s) ≡ true
      go (result.Ok q) e = eq-eqb q.count (length s) (recorded_once e).1
      go (result.Err d) e = absurd (recorded_or_refused (sym e))

  not_accepted : wholly r.answer (length s) ≡ false → Accepts k s → ⊥
  not_accepted h a = true≢false (sym (accepted_whole a) ∙ h)

  pub open_unfinished : wholly r.answer (length s) ≡ false → r.verdict ≡ Open → (Accepts k s → ⊥) × Completable k s
  open_unfinished h e = (not_accepted h, open_completable k s (rw e at reads.verdict))

  pub settled_broken : wholly r.answer (length s) ≡ false → r.verdict ≡ Settled → Completable k s → ⊥
  settled_broken h e = settled_refused k s (rw e at reads.verdict) (not_accepted h)

-- ---- the part of a text in which it breaks: up to low it can be completed, up to high it cannot

pub record Between (k : Kind) (s : List ℕ) (low high : ℕ) : Type 0 where
  pub some : low < high
  pub within : high ≤ length s
  pub before : Completable k (take low s)
  pub behind : Completable k (take high s) → ⊥

pub breaks_between : (k : Kind) (s : List ℕ) → (Completable k s → ⊥) → Between k s 0 (length s)
breaks_between k s broken = record { some = nonzero s broken; within = omega arith; before = empty_completable k; behind = rw (take-length s) broken }
  where
    nonzero : (s : List ℕ) → (Completable k s → ⊥) → 0 < length s
    nonzero [] broken = absurd (broken (empty_completable k))
    nonzero (b ∷ s) broken = omega arith
