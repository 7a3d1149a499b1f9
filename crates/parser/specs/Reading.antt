-- What it means to read bytes from a place on: the rule, and beside it whether the end of the input was met where a byte more
-- could matter. `reads` never looks at `more`, so the rules stand by themselves and are all that a reader of them must believe.
use Rattle.std.specs.Prelude.{ℕ, ◌+◌, List, Bool, true, false, not, ◌≡◌, length, get_or, ltb, leb, eqb}
use Rattle.std.proofs.Math.Option.{Option, some, none}

-- no form here; a value and the place after it; a refusal that ends all reading, by its number
pub data Found (A : Type 0) : Type 0 where
  no : Found A
  got : A → ℕ → Found A
  stop : ℕ → Found A

pub record Reader (A : Type 0) : Type 0 where
  pub reads : List ℕ → ℕ → Found A
  pub more : List ℕ → ℕ → Bool

abbrev pub or : Bool → Bool → Bool
or true b = true
or false b = b

abbrev pub and : Bool → Bool → Bool
and true b = b
and false b = false

abbrev pub pick : {A : Type 0} → Bool → A → A → A
pick true a b = a
pick false a b = b

abbrev pub within : ℕ → ℕ → ℕ → Bool
within lo hi v = and (leb lo v) (leb v hi)

-- the byte c
unfoldable pub lit : ℕ → Reader Unit
lit c = record {
  reads = λ s at. pick (and (ltb at (length s)) (eqb (get_or s at 0) c)) (got tt (at + 1)) no;
  more = λ s at. not (ltb at (length s));
}

-- one after the other: a value is read on from, and anything else ends the sequence
abbrev pub then : {A B : Type 0} → Found A → (A → ℕ → Found B) → Found B
then no k = no
then (stop r) k = stop r
then (got a n) k = k a n

abbrev pub after : {A : Type 0} → Found A → (A → ℕ → Bool) → Bool
after no k = false
after (stop r) k = false
after (got a n) k = k a n

unfoldable pub seq : {A B : Type 0} → Reader A → (A → Reader B) → Reader B
seq p q = record {
  reads = λ s at. then (p.reads s at) (λ a n. (q a).reads s n);
  more = λ s at. or (p.more s at) (after (p.reads s at) (λ a n. (q a).more s n));
}

-- "An optional item that fails takes nothing, and reading goes on without it."
abbrev pub lack : {A : Type 0} → ℕ → Found A → Found (Option A)
lack at no = got none at
lack at (stop r) = stop r
lack at (got a n) = got (some a) n

unfoldable pub opt : {A : Type 0} → Reader A → Reader (Option A)
opt p = record { reads = λ s at. lack at (p.reads s at); more = p.more }

-- "The first alternative that succeeds is kept, and no later failure reopens it"
abbrev pub or_else : {A : Type 0} → Found A → Found A → Found A
or_else no g = g
or_else (stop r) g = stop r
or_else (got a n) g = got a n

abbrev pub failed : {A : Type 0} → Found A → Bool
failed no = true
failed (stop r) = false
failed (got a n) = false

unfoldable pub alt : {A : Type 0} → Reader A → Reader A → Reader A
alt p q = record {
  reads = λ s at. or_else (p.reads s at) (q.reads s at);
  more = λ s at. or (p.more s at) (and (failed (p.reads s at)) (q.more s at));
}

-- a value that fails the test is no form
abbrev pub keep : {A : Type 0} → (A → Bool) → Found A → Found A
keep f no = no
keep f (stop r) = stop r
keep f (got a n) = pick (f a) (got a n) no

unfoldable pub verify : {A : Type 0} → (A → Bool) → Reader A → Reader A
verify f p = record { reads = λ s at. keep f (p.reads s at); more = p.more }

-- a value that fails the test ends all reading, by its number
abbrev pub keep_or_stop : {A : Type 0} → (A → Bool) → ℕ → Found A → Found A
keep_or_stop f r no = no
keep_or_stop f r (stop q) = stop q
keep_or_stop f r (got a n) = pick (f a) (got a n) (stop r)

unfoldable pub must : {A : Type 0} → (A → Bool) → ℕ → Reader A → Reader A
must f r p = record { reads = λ s at. keep_or_stop f r (p.reads s at); more = p.more }

-- the value by a function
abbrev pub map_found : {A B : Type 0} → (A → B) → Found A → Found B
map_found f no = no
map_found f (stop r) = stop r
map_found f (got a n) = got (f a) n

unfoldable pub map : {A B : Type 0} → (A → B) → Reader A → Reader B
map f p = record { reads = λ s at. map_found f (p.reads s at); more = p.more }

-- a value, with nothing read
unfoldable pub give : {A : Type 0} → A → Reader A
give a = record { reads = λ s at. got a at; more = λ s at. false }

-- that code's answer at a place is the reader's
pub record Says {A : Type 0} (p : Reader A) (s : List ℕ) (at : ℕ) (f : Found A) (m : Bool) : Type 0 where
  pub found : f ≡ p.reads s at
  pub more : m ≡ p.more s at

-- the same, read on from where something before it was left open, or not
pub record SaysOn {A : Type 0} (before : Bool) (p : Reader A) (s : List ℕ) (at : ℕ) (f : Found A) (m : Bool) : Type 0 where
  pub found : f ≡ p.reads s at
  pub more : m ≡ or before (p.more s at)
