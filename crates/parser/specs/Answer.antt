-- What a reader tells of an input: the paper's number, the record if there is one, and the count; and what its two verdicts mean.
use Rattle.std.specs.Prelude.{ℕ, ◌≤◌, List, ◌++◌, Bool, true, false, ◌≡◌, length, drop, ltb}
use Rattle.std.proofs.Math.Option.{Option, some, none}
use Rattle.types.specs.declared.Verdict.{Verdict}
use Rattle.types.specs.declared.Verdict.TheVariants.{Settled, Open}
use Rattle.parser.specs.Reading.{Found, no, got, stop, Reader, pick}

pub record Told (A : Type 0) : Type 0 where
  pub number : ℕ
  pub value : Option A
  pub count : ℕ

-- a record and the bytes read; "A refusal carries no record"
abbrev pub recorded : {A : Type 0} → A → ℕ → Told A
recorded a n = record { number = 0; value = some a; count = n }

abbrev pub refused : {A : Type 0} → ℕ → ℕ → Told A
refused r n = record { number = r; value = none; count = n }

-- a beginning reader: 0, a record; 1, no form; 2, number too big
abbrev pub begun : {A : Type 0} → Found A → Told A
begun (got a n) = recorded a n
begun no = refused 1 0
begun (stop r) = refused r 0

-- a whole reader of so many bytes: 3, a record, but count below length
abbrev pub ended : {A : Type 0} → ℕ → Found A → Told A
ended all (got a n) = pick (ltb n all) (refused 3 n) (recorded a n)
ended all no = refused 1 0
ended all (stop r) = refused r 0

-- the same of what a beginning reader tells, and the number of all bytes
abbrev pub whole_of : {A : Type 0} → ℕ → Option A → Told A → Told A
whole_of all (some a) t = pick (ltb t.count all) (refused 3 t.count) t
whole_of all none t = t

abbrev pub to_whole : {A : Type 0} → ℕ → Told A → Told A
to_whole all t = whole_of all t.value t

-- "A beginning reader's rest after a record is handed back [..]; after a refusal that part is all of them."
abbrev pub rest_of : {A : Type 0} → List ℕ → Found A → List ℕ
rest_of s (got a n) = drop n s
rest_of s no = s
rest_of s (stop r) = s

abbrev pub verdict_of : Bool → Verdict
verdict_of true = Open
verdict_of false = Settled

-- settled: each longer input gets the same answer; open: some continuation, of at most k bytes, gets another
abbrev pub Judged : {A : Type 0} → ℕ → Reader A → List ℕ → Verdict → Type 0
Judged k p s Settled = (x : List ℕ) → begun (p.reads (s ++ x) 0) ≡ begun (p.reads s 0)
Judged k p s Open = (x : List ℕ) × ((length x ≤ k) × (begun (p.reads (s ++ x) 0) ≡ begun (p.reads s 0) → ⊥))

-- all that a beginning reader promises of its answer
pub record Begins {A : Type 0} (k : ℕ) (p : Reader A) (s : List ℕ) (told : Told A) (v : Verdict) : Type 0 where
  pub answer : told ≡ begun (p.reads s 0)
  pub verdict : Judged k p s v

-- all that a whole reader promises of its answer
abbrev pub Ended : {A : Type 0} → Reader A → List ℕ → Told A → Type 0
Ended p s told = told ≡ ended (length s) (p.reads s 0)

-- all that is promised of the part handed back
abbrev pub Rest : {A : Type 0} → Reader A → List ℕ → List ℕ → Type 0
Rest p s rest = rest ≡ rest_of s (p.reads s 0)
