-- What is tried has the laws of the rule that it tries: a no form that ended the reading fails in its place, and all else stays.
use Prim.Native.Nat.{ℕ}
use mathlib.Core.List.{List, ◌++◌}
use mathlib.Core.Bool.{Bool, true, false}
use mathlib.Core.Path.{◌≡◌}
use mathlib.Core.Logic.{inl, inr}
use lib.Dec.{eqb}
use Rattle.parser.specs.Reading.{Found, no, got, stop, Reader, pick}
use Rattle.parser.proofs.Places.{no≢stop, from_no, from_stop, picked}
use Rattle.parser.proofs.Steady.{Steady}
use Rattle.parser.proofs.Hopeful.{Ends, Less, Changes}
use Rattle.parser.proofs.Lawful.{ItemOr}
use Rattle.interval.specs.Rules.{no_form_fails, tried}

-- what is found is found by the rule
pub tried_got : {A : Type 0} (f : Found A) (a : A) (n : ℕ) → no_form_fails f ≡ got a n → f ≡ got a n
tried_got no a n e = e
tried_got (stop r) a n e = picked from_no from_stop (eqb r 1) e
tried_got (got b m) a n e = e

tried_stop : {A : Type 0} (f : Found A) (r : ℕ) → no_form_fails f ≡ stop r → f ≡ stop r
tried_stop no r e = e
tried_stop (stop q) r e = picked (λ i. absurd (no≢stop i)) (λ i. i) (eqb q 1) e
tried_stop (got b m) r e = e

tried_less : {A : Type 0} (f : Found A) (n : ℕ) → Less f n → Less (no_form_fails f) n
tried_less no n h = tt
tried_less {A} (stop r) n h = go (eqb r 1)
  where
    go : (t : Bool) → Less {A = A} (pick t no (stop r)) n
    go true = tt
    go false = tt
tried_less (got a m) n h = h

tried_ends : {A : Type 0} {k : ℕ} {X : ℕ → Type 0} {F : A → Type 0} {p : Reader A} {s : List ℕ} {at : ℕ} → Ends k X F p s at → Ends k X F (tried p) s at
unfolding tried
tried_ends e = record { first = e.first; rest = e.rest; value = e.value; begins = e.begins; few = e.few; fact = e.fact; reads = rw e.reads }

tried_steady : {A : Type 0} {X : ℕ → Type 0} {p : Reader A} → Steady X p → Steady X (tried p)
unfolding tried
tried_steady {p = p} hp = record {
  stable = λ s x at h. record { reads = rw (hp.stable s x at h).reads; more = (hp.stable s x at h).more };
  bounded = λ s at le a n e. hp.bounded s at le a n (tried_got (p.reads s at) a n e);
  ahead = record { spans = λ s at a n e. hp.ahead.spans s at a n (tried_got (p.reads s at) a n e) };
  foreign = λ s c y at x le. rw (hp.foreign s c y at x le);
  numbered = record { by = λ s at r e. hp.numbered.by s at r (tried_stop (p.reads s at) r e) };
}

pub tried_item : {W : Type 0} {A : Type 0} {l : List ℕ} {Y : ℕ → Bool} {j k : ℕ} {F : A → Type 0} {p : Reader A} → ItemOr W l Y j k F p → ItemOr W l Y j k F (tried p)
unfolding tried
tried_item {W} {k = k} {F = F} {p = p} hp = record {
  lawful = record { steady = tried_steady hp.lawful.steady; hopeful = λ s at le h. go s at (hp.lawful.hopeful s at le h) };
  fails = λ s at h. rw (hp.fails s at h);
  eager = hp.eager;
  starts = λ s. tried_ends (hp.starts s);
}
  where
    go : (s : List ℕ) (at : ℕ) → Changes W k F p s at → Changes W k F (tried p) s at
    go s at (inl e) = inl (tried_ends e)
    go s at (inr (w, e)) = inr (w, record { more = e.more; few = e.few; value = e.value; place = e.place; now = rw e.now; less = tried_less (p.reads (s ++ e.more) at) e.place e.less })
