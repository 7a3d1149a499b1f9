-- What holds after some lines of a block: the log has gone on by the bytes that are used.
use Prim.Native.Nat.{ℕ, ◌≤◌, ◌<◌}
use mathlib.Core.List.{List, [], ◌++◌, append_assoc, append-nil}
use mathlib.Core.Path.{◌≡◌, refl, ◌∙◌}
use native.Mathlib.Nat.{sub-zero}
use native.Mathlib.Omega.{arith}
use lib.ListN.{length, length-append}
use lib.Seq.{take_all}
use Rattle.lines.specs.Lines.{between}
use Rattle.lines.proofs.Held.{between_then}
use Rattle.logs.specs.declared.Week.{Week}
use Rattle.logs.specs.declared.Reached.{Reached}
use Rattle.logs.specs.Log.{longest, Sofar, Goes, One, AllLines}

-- nothing, and one behind the other
nothing_goes : (w : Week) (table : List (List ℕ)) (kept : List ℕ) → w.held ≤ length kept → Goes (length kept) [] table w kept table w kept
nothing_goes w table kept room = record { goes = λ long bytes h s. rw (append-nil bytes) s; taken = refl; room = room; size = refl }

module _ {limit : ℕ} {a b : List ℕ} {t t' t'' : List (List ℕ)} {w w' w'' : Week} {k k' k'' : List ℕ} where
  goes_then : Goes limit a t w k t' w' k' → Goes limit b t' w' k' t'' w'' k'' → Goes limit (a ++ b) t w k t'' w'' k''
  goes_then g h = record {
    goes = λ (long : 205 ≤ limit) (bytes : List ℕ) (short : length (bytes ++ (a ++ b)) ≤ longest) (s : Sofar limit bytes t w k).
        let first : length (bytes ++ a) ≤ longest = omega (arith, length-append bytes (a ++ b), length-append a b, length-append bytes a) in
        rw (append_assoc bytes a b) at (h.goes long (bytes ++ a) (rw (append_assoc bytes a b) short) (g.goes long bytes first s));
    taken = h.taken ∙ g.taken;
    room = h.room;
    size = h.size;
  }

module _ (w : Week) (block : List ℕ) (table₀ : List (List ℕ)) (kept₀ : List ℕ) where
  pub record Along (table : List (List ℕ)) (kept : List ℕ) (now : Week) (used : ℕ) : Type 0 where
    pub goes : Goes (length kept₀) (between 0 used block) table₀ w kept₀ table now kept
    pub within : used ≤ length block

  pub begins : w.held ≤ length kept₀ → Along table₀ kept₀ w 0
  begins room = record { goes = nothing_goes w table₀ kept₀ room; within = omega arith }

  pub goes_along : {table table' : List (List ℕ)} {kept kept' : List ℕ} {now : Week} {used : ℕ} {r : Reached} → Along table kept now used → used < length block
      → One now block used table kept table' kept' r → Along table' kept' r.week r.used
  goes_along {table} {table'} {kept} {kept'} {now} {used} {r} a more o = record {
    goes = rw (between_then 0 used r.used block (omega arith) o.moves.on) at (goes_then a.goes (rw a.goes.size at o.goes));
    within = omega (arith, o.moves.within);
  }

  pub ends : {table : List (List ℕ)} {kept : List ℕ} {now : Week} {used : ℕ} → Along table kept now used → length block ≤ used → AllLines w block table₀ kept₀ table kept now
  ends {table} {kept} {now} {used} a h =
      let all : between 0 used block ≡ block = rw (sub-zero used) (take_all used block h) in
      rw all at a.goes
