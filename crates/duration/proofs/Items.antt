-- What stands at a place decides every part that is tried there: whether it is a run, and of which part its letter says it is.
use Rattle.std.proofs.Common.{◌≡◌, ℕ, ◌+◌, ◌<◌, ◌≤◌, Bool, true, false, eqb, ltb, List, length, get_or, sym, refl, ◌∙◌, arith, le-ltb, lt-ltb}
use mathlib.Core.Option.{Option, some, none}
use Rattle.parser.specs.Reading.{Found, no, got, stop, Reader, lit, seq, opt, map, map_found, give, pick, or, Says}
use Rattle.parser.specs.Digits.{number, at_most, limit, run}
use Rattle.parser.proofs.Least.{run_least}
use Rattle.parser.proofs.Says.{says_opt, says_seq_got, says_seq_stop}
use Rattle.parts.specs.Items.{item_of, item_at, here, past}
use Rattle.parts.specs.declared.Item.{Item}
use Rattle.std.specs.declared.result.Result.{Result}
use Rattle.std.specs.declared.result.Result.TheVariants.{Ok, Err}
use Rattle.types.specs.declared.Refusal.{Refusal}
use Rattle.types.specs.Numbers.{number_of}
use Rattle.parser.specs.Read.{missed}
use Rattle.parser.specs.declared.Miss.{Miss}
use Rattle.parser.specs.declared.Miss.TheVariants as miss
use Rattle.parts.proofs.Items.{run_inside, run_to_end, run_stop}
use Rattle.duration.specs.Rules.{part, present}
use Rattle.duration.specs.Items.{is_cut, unless_too_big}

-- ---- what a part finds, by what stands at its place

abbrev part_found : ℕ → Result Item Miss → Found ℕ
part_found c (Ok i) = pick (eqb i.letter c) (got i.value i.next) no
part_found c (Err m) = missed m

pub map_pick : {A B : Type 0} (g : A → B) (t : Bool) (a : A) (n : ℕ) → pick t (got (g a) n) no ≡ map_found g (pick t (got a n) no)
map_pick g true a n = refl
map_pick g false a n = refl

part_says : (c : ℕ) (s : List ℕ) (at : ℕ) → Says (part c) s at (part_found c (item_at s at)) (is_cut (item_at s at))
unfolding part item_at seq map lit
part_says c s at = go (run.reads s at) (run.more s at) refl refl
  where
    go : (f : Found ℕ) (m : Bool) → run.reads s at ≡ f → run.more s at ≡ m → Says (part c) s at (part_found c (item_of s f m)) (is_cut (item_of s f m))
    go no true ef em = record { found = rw ef; more = rw (ef, em) }
    go no false ef em = record { found = rw ef; more = rw (ef, em) }
    go (stop r) m ef em = let e = run_stop s at r ef in record { found = rw (ef, e.0); more = rw (ef, e.1) }
    go (got v n) true ef em = record { found = rw (ef, le-ltb n (length s) (run_to_end s at v n ef em)); more = rw em }
    go (got v n) false ef em =
        let i = lt-ltb n (length s) (run_inside s at v n ef em) in
        record { found = rw (ef, i) (map_pick (λ _. v) (eqb (get_or s n 0) c) tt (n + 1)); more = rw (ef, em, i) }

-- ---- an optional part, and what is read on from the place that is left

-- a rule that tries a part first: it stops at a number that is too big, and is open where the part is
pub record Heeds {A : Type 0} (q : Reader A) (s : List ℕ) (at : ℕ) : Type 0 where
  pub stops : (r : Refusal) → item_at s at ≡ Err (miss.Stopped r) → Says q s at (stop (number_of r)) false
  pub opens : item_at s at ≡ Err miss.Cut → q.more s at ≡ true

pub part_heeds : {A : Type 0} (c : ℕ) (q : Option ℕ → Reader A) (s : List ℕ) (at : ℕ) → Heeds (seq (opt (part c)) q) s at
unfolding seq opt
part_heeds c q s at = record {
  stops = λ r e. says_seq_stop (opt (part c)) s at q (number_of r) false (says_opt (part c) s at (stop (number_of r)) false (rw e at (part_says c s at)));
  opens = λ e. rw (← (part_says c s at).more, e);
}

pub optional_part : {A : Type 0} (c : ℕ) (q : Option ℕ → Reader A) (s : List ℕ) (at next : ℕ) (f : Found A) (m : Bool) → Heeds (q none) s at → next ≡ past c at (item_at s at) → Says (q (here c (item_at s at))) s next f m → Says (seq (opt (part c)) q) s at f m
optional_part {A} c q s at next f m h en k = go (item_at s at) refl (part_says c s at) (rw en at k)
  where
    absent : Says (part c) s at no false → Says (q none) s at f m → Says (seq (opt (part c)) q) s at f m
    absent p k = says_seq_got (opt (part c)) s at q none at false f m (says_opt (part c) s at no false p) k

    go : (i : Result Item Miss) → item_at s at ≡ i → Says (part c) s at (part_found c i) (is_cut i) → Says (q (here c i)) s (past c at i) f m → Says (seq (opt (part c)) q) s at f m
    go (Ok i) e p k = letter (eqb i.letter c) p k
      where
        letter : (t : Bool) → Says (part c) s at (pick t (got i.value i.next) no) false → Says (q (pick t (some i.value) none)) s (pick t i.next at) f m → Says (seq (opt (part c)) q) s at f m
        letter true p k = says_seq_got (opt (part c)) s at q (some i.value) i.next false f m (says_opt (part c) s at (got i.value i.next) false p) k
        letter false p k = absent p k
    go (Err miss.Wrong) e p k = absent p k
    go (Err miss.Cut) e p k = rw (k.more ∙ h.opens e) (says_seq_got (opt (part c)) s at q none at true f m (says_opt (part c) s at no true p) k)
    go (Err (miss.Stopped r)) e p k = rw (k.found ∙ sym (h.stops r e).found, k.more ∙ sym (h.stops r e).more) (says_seq_stop (opt (part c)) s at q (number_of r) false (says_opt (part c) s at (stop (number_of r)) false p))

-- the last part of a rule, behind which nothing is tried
pub last_part : {A : Type 0} (c : ℕ) (g : Option ℕ → A) (s : List ℕ) (at : ℕ) → Says (seq (opt (part c)) (λ o. give (g o))) s at (unless_too_big (item_at s at) (got (g (here c (item_at s at))) (past c at (item_at s at)))) (is_cut (item_at s at))
unfolding give
last_part {A} c g s at = go (item_at s at) (part_says c s at)
  where
    q : Option ℕ → Reader A
    q o = give (g o)

    taken : (o : Option ℕ) (n : ℕ) → Says (q o) s n (got (g o) n) false
    taken o n = record { found = refl; more = refl }

    absent : (m : Bool) → Says (part c) s at no m → Says (seq (opt (part c)) q) s at (got (g none) at) (or m false)
    absent m p = says_seq_got (opt (part c)) s at q none at m (got (g none) at) false (says_opt (part c) s at no m p) (taken none at)

    go : (i : Result Item Miss) → Says (part c) s at (part_found c i) (is_cut i) → Says (seq (opt (part c)) q) s at (unless_too_big i (got (g (here c i)) (past c at i))) (is_cut i)
    go (Ok i) p = letter (eqb i.letter c) p
      where
        letter : (t : Bool) → Says (part c) s at (pick t (got i.value i.next) no) false → Says (seq (opt (part c)) q) s at (got (g (pick t (some i.value) none)) (pick t i.next at)) false
        letter true p = says_seq_got (opt (part c)) s at q (some i.value) i.next false (got (g (some i.value)) i.next) false (says_opt (part c) s at (got i.value i.next) false p) (taken (some i.value) i.next)
        letter false p = absent false p
    go (Err miss.Wrong) p = absent false p
    go (Err miss.Cut) p = absent true p
    go (Err (miss.Stopped r)) p = says_seq_stop (opt (part c)) s at q (number_of r) false (says_opt (part c) s at (stop (number_of r)) false p)

-- a part lies further on exactly where it is there
pub record Further (c : ℕ) (s : List ℕ) (at : ℕ) : Type 0 where
  pub order : at ≤ past c at (item_at s at)
  pub there : present (here c (item_at s at)) ≡ ltb at (past c at (item_at s at))

pub further : (c : ℕ) (s : List ℕ) (at : ℕ) → Further c s at
unfolding item_at
further c s at = let e = go (run.reads s at) (run.more s at) refl in record { order = e.0; there = e.1 }
  where
    same : ltb at at ≡ false
    same = le-ltb at at (omega arith)

    letter : (t : Bool) (v n : ℕ) → at < n → (at ≤ pick t n at) × (present (pick t (some v) none) ≡ ltb at (pick t n at))
    letter true v n h = (omega arith, sym (lt-ltb at n h))
    letter false v n h = (omega arith, sym same)

    go : (f : Found ℕ) (m : Bool) → run.reads s at ≡ f → (at ≤ past c at (item_of s f m)) × (present (here c (item_of s f m)) ≡ ltb at (past c at (item_of s f m)))
    go no true e = (omega arith, sym same)
    go no false e = (omega arith, sym same)
    go (stop r) m e = (omega arith, sym same)
    go (got v n) true e = (omega arith, sym same)
    go (got v n) false e = letter (eqb (get_or s n 0) c) v (n + 1) (omega (arith, (run_least number (at_most limit) 2).spans s at v n e))
