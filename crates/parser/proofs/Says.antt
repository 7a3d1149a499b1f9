-- What code says of a whole, from what it says of its parts: one law for each combinator and outcome. A function's proof puts
-- its callees' promises together by these.
use Prim.Native.Nat.{ℕ}
use mathlib.Core.List.{List}
use mathlib.Core.Bool.{Bool, true, false}
use mathlib.Core.Option.{Option, none}
use mathlib.Core.Path.{◌≡◌, refl, sym, ap, ◌∙◌}
use Rattle.parser.specs.Reading.{Found, no, got, stop, Reader, seq, opt, lack, alt, failed, verify, keep, must, keep_or_stop, map, map_found, or, Says, SaysOn}
use Rattle.parser.proofs.Fields.{true≢false}
use Rattle.parser.proofs.Places.{no≢got, Fails}
use Rattle.parser.proofs.Hopeful.{AtEnd}

pub or_false : (m : Bool) → or m false ≡ m
or_false true = refl
or_false false = refl

pub or_true : (m : Bool) → or m true ≡ true
or_true true = refl
or_true false = refl

-- One law for every function that says what a rule reads: two answers that meet the promise tell the same, what was found and whether a
-- byte more could matter.
pub says_once : {A : Type 0} (p : Reader A) (s : List ℕ) (at : ℕ) (f g : Found A) (m n : Bool) → Says p s at f m → Says p s at g n → (f ≡ g) × (m ≡ n)
says_once p s at f g m n h k = (h.found ∙ sym k.found, h.more ∙ sym k.more)

module _ {A : Type 0} (p : Reader A) (s : List ℕ) (at : ℕ) where
  pub says_map : {B : Type 0} (g : A → B) (f : Found A) (m : Bool) → Says p s at f m → Says (map g p) s at (map_found g f) m
  unfolding map
  says_map g f m h = record { found = ap (map_found g) h.found; more = h.more }

  pub says_verify : (t : A → Bool) (f : Found A) (m : Bool) → Says p s at f m → Says (verify t p) s at (keep t f) m
  unfolding verify
  says_verify t f m h = record { found = ap (keep t) h.found; more = h.more }

  pub says_must : (t : A → Bool) (r : ℕ) (f : Found A) (m : Bool) → Says p s at f m → Says (must t r p) s at (keep_or_stop t r f) m
  unfolding must
  says_must t r f m h = record { found = ap (keep_or_stop t r) h.found; more = h.more }

  pub says_opt : (f : Found A) (m : Bool) → Says p s at f m → Says (opt p) s at (lack at f) m
  unfolding opt
  says_opt f m h = record { found = ap (lack at) h.found; more = h.more }

  pub says_seq_got : {B : Type 0} (q : A → Reader B) (a : A) (n : ℕ) (m : Bool) (f : Found B) (l : Bool) → Says p s at (got a n) m → Says (q a) s n f l → Says (seq p q) s at f (or m l)
  unfolding seq
  says_seq_got q a n m f l h k = record { found = rw (← h.found) k.found; more = rw (← h.found, ← h.more, ← k.more) }

  pub says_seq_no : {B : Type 0} (q : A → Reader B) (m : Bool) → Says p s at no m → Says (seq p q) s at no m
  unfolding seq
  says_seq_no q m h = record { found = rw (← h.found); more = rw (← h.found, ← h.more, or_false m) }

  pub says_seq_stop : {B : Type 0} (q : A → Reader B) (r : ℕ) (m : Bool) → Says p s at (stop r) m → Says (seq p q) s at (stop r) m
  unfolding seq
  says_seq_stop q r m h = record { found = rw (← h.found); more = rw (← h.found, ← h.more, or_false m) }

  pub says_alt_no : (q : Reader A) (m : Bool) (f : Found A) (l : Bool) → Says p s at no m → Says q s at f l → Says (alt p q) s at f (or m l)
  unfolding alt
  says_alt_no q m f l h k = record { found = rw (← h.found) k.found; more = rw (← h.found, ← h.more, ← k.more) }

  -- whatever is no failure is kept
  pub says_alt_first : (q : Reader A) (f : Found A) (m : Bool) → failed f ≡ false → Says p s at f m → Says (alt p q) s at f m
  unfolding alt
  says_alt_first q no m e h = absurd (true≢false e)
  says_alt_first q (stop r) m e h = record { found = rw (← h.found); more = rw (← h.found, ← h.more, or_false m) }
  says_alt_first q (got a n) m e h = record { found = rw (← h.found); more = rw (← h.found, ← h.more, or_false m) }

  pub says_alt_got : (q : Reader A) (a : A) (n : ℕ) (m : Bool) → Says p s at (got a n) m → Says (alt p q) s at (got a n) m
  says_alt_got q a n m h = says_alt_first q (got a n) m refl h

-- an optional item that the end of the input cuts short, before what fails there
pub says_cut : {A B : Type 0} (p : Reader A) (q : Option A → Reader B) (s : List ℕ) (at : ℕ) → AtEnd p → Fails (q none) → Says p s at no true → Says (seq (opt p) q) s at no true
unfolding seq opt
says_cut p q s at ep fq h = record { found = rw (← h.found, fq s at (ep s at (sym h.more))); more = rw (← h.more) }

-- ---- reading on from what was left open

-- where a byte stands that does not stand behind what was left open, nothing was
pub settled_before : (b : Bool) {f : Found Unit} {n : ℕ} → (b ≡ true → f ≡ no) → got tt n ≡ f → b ≡ false
settled_before true h e = absurd (no≢got (sym (h refl) ∙ sym e))
settled_before false h e = refl

pub says_on : {A : Type 0} (p : Reader A) (s : List ℕ) (at : ℕ) (f : Found A) (b m : Bool) → Says p s at f m → SaysOn b p s at f (or b m)
says_on p s at f b m h = record { found = h.found; more = rw h.more }

pub on_seq_no : {A B : Type 0} (b : Bool) (p : Reader A) (q : A → Reader B) (s : List ℕ) (at : ℕ) (m : Bool) → SaysOn b p s at no m → SaysOn b (seq p q) s at no m
unfolding seq
on_seq_no b p q s at m h = record { found = rw (← h.found); more = rw (← h.found, or_false (p.more s at)) h.more }

pub on_map : {A B : Type 0} (b : Bool) (p : Reader A) (s : List ℕ) (at : ℕ) (g : A → B) (f : Found A) (m : Bool) → SaysOn b p s at f m → SaysOn b (map g p) s at (map_found g f) m
unfolding map
on_map b p s at g f m h = record { found = ap (map_found g) h.found; more = h.more }

pub says_seq_on : {A B : Type 0} (p : Reader A) (q : A → Reader B) (s : List ℕ) (at : ℕ) (a : A) (n : ℕ) (m : Bool) (f : Found B) (l : Bool) → Says p s at (got a n) m → SaysOn m (q a) s n f l → Says (seq p q) s at f l
unfolding seq
says_seq_on p q s at a n m f l h k = record { found = rw (← h.found) k.found; more = k.more ∙ rw (h.more, ← h.found) }
