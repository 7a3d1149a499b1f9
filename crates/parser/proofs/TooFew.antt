-- The least length of what a reader finds, and where fewer bytes are left: nothing is found then.
use Prim.Native.Nat.{ℕ, suc, ◌+◌, ◌*◌, ◌-◌, ◌<◌, ◌≤◌}
use mathlib.Core.List.{List, [], ◌∷◌, append-nil}
use mathlib.Core.Bool.{Bool, true, false}
use mathlib.Core.Path.{◌≡◌, refl, sym, ◌∙◌}
use native.Mathlib.Omega.{arith}
use lib.ListN.{length, drop, length-drop}
use lib.Dec.{leb}
use borrow.Author.Tests.{leb-true, leb-false, le-leb}
use Rattle.parser.specs.Reading.{Found, no, got, stop, Reader, lit, seq, then, opt, alt, verify, map, pick}
use Rattle.parser.specs.Digits.{field, number, number_from, run_at, of_run, at_most, limit, run_as, run}
use Rattle.parser.specs.Fields.{signed, preceded_by}
use Rattle.parser.proofs.Fields.{and_second}
use Rattle.parser.proofs.Runs.{AllDigits, none, also, run_digits, digits_short}
use Rattle.parser.proofs.Places.{no≢got, Bounded, Fails, field_bounded, field_fails}
use Rattle.parser.proofs.Least.{Least, fewer, lit_least, field_least, map_least, verify_least, opt_least, alt_least, seq_least}
use Rattle.parser.proofs.Stops.{lit_stops, field_stops, map_stops, verify_stops, opt_stops, alt_stops, seq_stops}
use Rattle.parser.proofs.Unstopped.{Unstopped}
use Rattle.parser.proofs.Alike.{Alike, alike_least, alike_stops}

-- ---- what takes so many bytes at least for what it finds, and never stops the reading: one law for each combinator

pub record Takes (k : ℕ) {A : Type 0} (p : Reader A) : Type 0 where
  pub least : Least k p
  pub unstopped : Unstopped p

pub fewer_takes : {j k : ℕ} {A : Type 0} {p : Reader A} → j ≤ k → Takes k p → Takes j p
fewer_takes h hp = record { least = fewer h hp.least; unstopped = hp.unstopped }

pub lit_takes : (c : ℕ) → Takes 1 (lit c)
lit_takes c = record { least = lit_least c; unstopped = lit_stops c }

pub field_takes : (n lo hi : ℕ) → Takes n (field n lo hi)
field_takes n lo hi = record { least = field_least n lo hi; unstopped = field_stops n lo hi }

pub map_takes : {k : ℕ} {A B : Type 0} (f : A → B) {p : Reader A} → Takes k p → Takes k (map f p)
map_takes f hp = record { least = map_least f hp.least; unstopped = map_stops f hp.unstopped }

pub verify_takes : {k : ℕ} {A : Type 0} (f : A → Bool) {p : Reader A} → Takes k p → Takes k (verify f p)
verify_takes f hp = record { least = verify_least f hp.least; unstopped = verify_stops f hp.unstopped }

pub opt_takes : {k : ℕ} {A : Type 0} {p : Reader A} → Takes k p → Takes 0 (opt p)
opt_takes hp = record { least = opt_least hp.least; unstopped = opt_stops hp.unstopped }

pub alt_takes : {k : ℕ} {A : Type 0} {p q : Reader A} → Takes k p → Takes k q → Takes k (alt p q)
alt_takes hp hq = record { least = alt_least hp.least hq.least; unstopped = alt_stops hp.unstopped hq.unstopped }

pub seq_takes : {j k : ℕ} {A B : Type 0} {p : Reader A} {q : A → Reader B} → Takes j p → ((a : A) → Takes k (q a)) → Takes (j + k) (seq p q)
seq_takes hp hq = record { least = seq_least hp.least (λ a. (hq a).least); unstopped = seq_stops hp.unstopped (λ a. (hq a).unstopped) }

pub preceded_takes : {k : ℕ} {A : Type 0} (c : ℕ) {p : Reader A} → Takes k p → Takes (0 + k) (preceded_by c p)
preceded_takes c hp = seq_takes (opt_takes (lit_takes c)) (λ _. hp)

pub signed_takes : Takes 1 signed
signed_takes = alt_takes (map_takes _ (lit_takes 45)) (map_takes _ (lit_takes 43))

pub alike_takes : {k : ℕ} {A : Type 0} {p q : Reader A} → Alike p q → Takes k q → Takes k p
alike_takes e hq = record { least = alike_least e hq.least; unstopped = alike_stops e hq.unstopped }

-- ---- with n bytes behind its place, or fewer, it finds nothing

pub record TooFew (n : ℕ) {A : Type 0} (p : Reader A) : Type 0 where
  pub nothing : (s : List ℕ) (at : ℕ) → length s ≤ at + n → p.reads s at ≡ no

pub too_few_fails : {n : ℕ} {A : Type 0} {p : Reader A} → TooFew n p → Fails p
too_few_fails hp s at h = hp.nothing s at (omega arith)

-- what takes more
pub takes_too_few : {k : ℕ} {A : Type 0} {p : Reader A} (n : ℕ) → n < k → Takes k p → Bounded p → Fails p → TooFew n p
takes_too_few {k} {A} {p} n more hp bp fp = record { nothing = λ s at h. go s at h (p.reads s at) refl }
  where
    taken : (s : List ℕ) (at : ℕ) → length s ≤ at + n → (a : A) (m : ℕ) → p.reads s at ≡ got a m → (t : Bool) → leb at (length s) ≡ t → ⊥
    taken s at h a m ef true e = omega (arith, more, hp.least.spans s at a m ef, bp s at (leb-true at (length s) e) a m ef)
    taken s at h a m ef false e = no≢got (sym (fp s at (omega (arith, leb-false at (length s) e))) ∙ ef)

    go : (s : List ℕ) (at : ℕ) → length s ≤ at + n → (f : Found A) → p.reads s at ≡ f → f ≡ no
    go s at h no ef = refl
    go s at h (stop r) ef = absurd (hp.unstopped.by s at r ef)
    go s at h (got a m) ef = absurd (taken s at h a m ef (leb at (length s)) refl)

pub field_too_few : (n lo hi : ℕ) → TooFew n (field (suc n) lo hi)
field_too_few n lo hi = takes_too_few n (omega arith) (field_takes (suc n) lo hi) (field_bounded (suc n) lo hi) (field_fails (suc n) lo hi (omega arith))

pub map_too_few : {n : ℕ} {A B : Type 0} (f : A → B) {p : Reader A} → TooFew n p → TooFew n (map f p)
unfolding map
map_too_few f hp = record { nothing = λ s at h. rw (hp.nothing s at h) }

-- where they are too few for the first part
pub seq_too_few : {n : ℕ} {A B : Type 0} {p : Reader A} (q : A → Reader B) → TooFew n p → TooFew n (seq p q)
unfolding seq
seq_too_few q hp = record { nothing = λ s at h. rw (hp.nothing s at h) }

-- where what the first part leaves is too few
pub then_too_few : {j k : ℕ} {A B : Type 0} {p : Reader A} {q : A → Reader B} → Takes j p → ((a : A) → TooFew k (q a)) → TooFew (j + k) (seq p q)
unfolding seq
then_too_few {j} {k} {A} {B} {p} {q} hp hq = record { nothing = λ s at h. go s at h (p.reads s at) refl }
  where
    go : (s : List ℕ) (at : ℕ) → length s ≤ at + (j + k) → (f : Found A) → p.reads s at ≡ f → then f (λ a m. (q a).reads s m) ≡ no
    go s at h no ef = refl
    go s at h (stop r) ef = absurd (hp.unstopped.by s at r ef)
    go s at h (got a m) ef = (hq a).nothing s m (omega (arith, hp.least.spans s at a m ef))

pub preceded_too_few : {n : ℕ} {A : Type 0} (c : ℕ) {p : Reader A} → TooFew n p → TooFew (0 + n) (preceded_by c p)
preceded_too_few c hp = then_too_few (opt_takes (lit_takes c)) (λ _. hp)

pub alike_too_few : {n : ℕ} {A : Type 0} {p q : Reader A} → Alike p q → TooFew n q → TooFew n p
alike_too_few e hq = record { nothing = λ s at h. (e s at).reads ∙ hq.nothing s at h }

-- ---- a run and what must follow it: one digit is no number that is too big, and behind it the input ends

one_digit : {b : ℕ} → AllDigits (b ∷ []) → at_most limit (number (b ∷ [])) ≡ true
unfolding number_from
one_digit {b} (also e none) = le-leb (0 * 10 + (b - 48)) limit (omega (arith, leb-true b 57 (and_second (leb 48 b) e)))

pub run_too_few : {B : Type 0} (q : ℕ → Reader B) → ((v : ℕ) → Fails (q v)) → TooFew 1 (seq run q)
unfolding seq run_as
run_too_few {B} q hq = record { nothing = λ s at h. go s at h (run_at s at) (rw (append-nil (run_at s at)) at (run_digits (drop at s) none)) (omega (arith, digits_short (drop at s), length-drop at s)) }
  where
    go : (s : List ℕ) (at : ℕ) → length s ≤ at + 1 → (d : List ℕ) → AllDigits d → length d ≤ 1 → then (of_run d no (pick (at_most limit (number d)) (got (number d) (at + length d)) (stop 2))) (λ v n. (q v).reads s n) ≡ no
    go s at h [] all few = refl
    go s at h (b ∷ []) all few = rw (one_digit all) (hq _ s (at + 1) h)
    go s at h (b ∷ c ∷ d) all few = absurd (omega arith)
