-- The laws of the repeat: `R`, digits that may be absent, and `/`; and of what an optional part stands in front of.
use Prim.Native.Nat.{ℕ, ◌+◌, ◌≤◌}
use mathlib.Core.List.{List, [], ◌∷◌}
use mathlib.Core.Bool.{Bool, true}
use mathlib.Core.Option.{Option, some, none}
use mathlib.Core.Path.{◌≡◌, refl}
use mathlib.Core.Logic.{◌⊎◌, inl, inr}
use native.Mathlib.Omega.{arith}
use lib.ListN.{length}
use borrow.Author.Tests.{eqb-true}
use Rattle.parser.specs.Reading.{no, got, Reader, seq, opt, map}
use Rattle.parser.specs.Digits.{number, at_most}
use Rattle.parser.proofs.Stable.{most_growing}
use Rattle.parser.proofs.Places.{Fails, Foreign, run_fails, run_foreign, opt_foreign}
use Rattle.parser.proofs.Stops.{too_big}
use Rattle.parser.proofs.Steady.{Steady, opt_steady, map_steady, run_steady}
use Rattle.parser.proofs.Hopeful.{Ends, AnyByte, Anything, never_stops, Keeps, foreign_keeps, ends_weaken, ends_map, ends_opt, ends_then_starts, ends_after, left_out_starts}
use Rattle.parser.proofs.RunLeaves.{run_eager, run_open}
use Rattle.parser.proofs.Lawful.{In, byte, Outside, outside_digit, most, seq_lawful, Item, ItemOr, map_item}
use Rattle.parser.proofs.Items.{lit_mark, after_item}
use Rattle.interval.specs.Rules.{repeat_limit, repeat_run, slashed, digits_and_slash, repeated}

-- what a repeat takes beside digits
abbrev pub bytes : List ℕ
bytes = 82 ∷ 47 ∷ []

-- ---- a run that may be absent, and a byte that must follow it

run_steady_here : Steady (Outside bytes) repeat_run
unfolding repeat_run
run_steady_here = run_steady number (most_growing repeat_limit) too_big (outside_digit bytes)

run_fails_here : Fails repeat_run
unfolding repeat_run
run_fails_here = run_fails number (at_most repeat_limit) 2

slash_foreign : Foreign (In (byte 47)) repeat_run
unfolding repeat_run
slash_foreign = run_foreign number (at_most repeat_limit) 2 (In (byte 47)) (λ b e. rw (eqb-true b 47 e))

absent : {A : Type 0} (p : Reader A) (s : List ℕ) (at : ℕ) → p.reads s at ≡ no → (opt p).reads s at ≡ got none at
unfolding opt
absent p s at e = rw e

given : {A : Type 0} (p : Reader A) (s : List ℕ) (at : ℕ) (a : A) (n : ℕ) → p.reads s at ≡ got a n → (opt p).reads s at ≡ got (some a) n
unfolding opt
given p s at a n e = rw e

-- where it is open it has been read to the end, or is absent there
run_read : (s : List ℕ) (at : ℕ) → at ≤ length s → repeat_run.more s at ≡ true → (o : Option ℕ) × ((opt repeat_run).reads s at ≡ got o (length s))
unfolding repeat_run
run_read s at le h = go (run_open number (at_most repeat_limit) 2 s at le h)
  where
    go : (length s ≡ at) ⊎ ((v : ℕ) × (repeat_run.reads s at ≡ got v (length s))) → (o : Option ℕ) × ((opt repeat_run).reads s at ≡ got o (length s))
    go (inl here) = (none, rw here (absent repeat_run s at (run_fails_here s at (omega arith))))
    go (inr (v, e)) = (some v, given repeat_run s at v (length s) e)

slash_item : (n : Option ℕ) → Item bytes (byte 47) 1 1 Anything (slashed n)
slash_item n = map_item _ (lit_mark 47 refl).item

run_keeps : Keeps (In (byte 47)) (opt repeat_run)
run_keeps = foreign_keeps (In (byte 47)) (opt repeat_run) (opt_foreign (In (byte 47)) repeat_run slash_foreign)

digits_item : Item bytes (byte 47) 1 1 Anything digits_and_slash
unfolding seq opt repeat_run
digits_item = record {
  lawful = seq_lawful (opt_steady run_steady_here) (λ s at le h. let o = run_read s at le h in ends_weaken 1 AnyByte Anything (omega arith) (λ c x. tt) (λ a f. f) (ends_after (opt repeat_run) slashed s at le run_keeps o.0 o.1 (slash_item o.0).starts)) (λ n. (slash_item n).lawful);
  fails = λ s at h. rw (run_fails_here s at h, (slash_item none).fails s at h);
  eager = λ s at h. rw (run_eager number (most_growing repeat_limit) 2 s at h);
  starts = left_out_starts (In (byte 47)) repeat_run slashed run_fails_here slash_foreign (slash_item none).starts;
}

-- `R/`
pub repeated_item : Item bytes (byte 82) 2 2 Anything repeated
unfolding repeated
repeated_item = after_item (lit_mark 82 refl) (λ _. digits_item)

-- ---- an optional part in front of what must follow, which starts with a byte that the part never takes: it is completed where it is open, and
-- left out where nothing has come

module _ {W : Type 0} {A B C : Type 0} {l : List ℕ} {Y : ℕ → Bool} (c : ℕ) {i j k n : ℕ} {F : C → Type 0} (g : Option A → B) {p : Reader A} {q : B → Reader C} (hp : Item l Y i j Anything p) (apart : Foreign (In (byte c)) p) (hq : (b : B) → ItemOr W l (byte c) k n F (q b)) where
  abbrev front : Reader B
  front = map g (opt p)

  front_keeps : Keeps (In (byte c)) front
  unfolding map opt
  front_keeps = foreign_keeps (In (byte c)) front (λ s b y at e le. rw (apart s b y at e le))

  front_absent : (s : List ℕ) (at : ℕ) → length s ≤ at → front.reads s at ≡ got (g none) at
  unfolding map opt
  front_absent s at h = rw (hp.fails s at h)

  completed : (s : List ℕ) (at : ℕ) → at ≤ length s → front.more s at ≡ true → Ends (j + k) AnyByte F (seq front q) s at
  unfolding map opt
  completed s at le h = ends_then_starts j k (In (byte c)) F front q le front_keeps (λ b _. (hq b).starts) (ends_map Anything g (opt p) (λ a e. tt) (ends_opt Anything p (λ a e. tt) (never_stops hp.lawful.hopeful s at le h)))

  pub front_item : ItemOr W l (byte c) k (most (j + k) n) F (seq front q)
  unfolding map opt seq
  front_item = record {
    lawful = seq_lawful (map_steady g (opt_steady hp.lawful.steady)) completed (λ b. (hq b).lawful);
    fails = λ s at h. rw (front_absent s at h, (hq (g none)).fails s at h);
    eager = λ s at h. rw (hp.eager s at h);
    starts = λ s. ends_after front q s (length s) (omega arith) front_keeps (g none) (front_absent s (length s) (omega arith)) (hq (g none)).starts;
  }
