-- What is counted of all bytes so far: a line that ends is one line more, and a line that goes on is none.
use Prim.Native.Nat.{ℕ, ◌≤◌, ◌<◌}
use mathlib.Core.Bool.{true, false}
use mathlib.Core.List.{List, [], ◌∷◌, ◌++◌}
use mathlib.Core.Option.{Option, some, none}
use mathlib.Core.Path.{◌≡◌, refl, sym, ap, ◌∙◌}
use native.Mathlib.Omega.{arith}
use lib.ListN.{length, take, length-append}
use lib.Seq.{take-nil}
use Rattle.types.specs.Sums.{largest, or_over}
use Rattle.types.proofs.Laws.{both_come}
use Rattle.lines.specs.Lines.{split, between, Holds, GoesOn, Takes}
use Rattle.lines.specs.declared.Taken.{Taken}
use Rattle.lines.proofs.Laws.{took_line, taken_room, taken_moves}
use Rattle.lines.proofs.Pinned.{finished_few}
use Rattle.counts.specs.Counts.{Line, line_of, seconds_in_all, adds}
use Rattle.counts.specs.Seen.{seen, counted, adding}
use Rattle.counts.proofs.Laws.{line_clip, table_then, bad_then, seconds_then}
use Rattle.logs.specs.declared.Week.{Week}
use Rattle.logs.specs.Log.{longest, Comes, Sofar, with_line, One}

-- what a line adds is its true seconds, or over
adding_is : (x : Option Line) → adding (seen x) ≡ or_over (adds x)
adding_is (some x) = refl
adding_is none = refl

-- one line more
pub comes_then : {ls table : List (List ℕ)} {w : Week} (l : List ℕ) → length ls < largest → Comes ls table w → Comes (ls ++ l ∷ []) (counted (seen (line_of l)) table) (with_line w (seen (line_of l)))
comes_then {ls} {table} {w} l few c =
    let sum = both_come {a = seconds_in_all ls} {b = adds (line_of l)} (record { is = c.sum }) (record { is = adding_is (line_of l) }) refl in
    record {
      counts = rw c.counts (table_then ls l few);
      bad = rw c.bad (bad_then ls l few);
      sum = sum.is ∙ ap or_over (sym (seconds_then ls l));
    }

-- fewer lines than a count holds
pub few_lines : (bytes : List ℕ) → length bytes ≤ longest → length (split bytes).finished < largest
few_lines bytes h = omega (arith, finished_few bytes)

module _ (w : Week) (table : List (List ℕ)) {from : ℕ} {block kept new : List ℕ} {r : Taken} (takes : Takes w.held block from kept new r) (room : w.held ≤ length kept) where
  took : (bytes : List ℕ) → Holds (length kept) bytes (take w.held kept) → GoesOn r.ended (length kept) bytes (bytes ++ between from r.used block) (take r.held new)
  took = took_line takes refl room

  -- a line that ends is counted by its first bytes
  pub one_ended : r.ended ≡ true → let line = seen (line_of (take r.held new)) in One w block from table kept (counted line table) new (record { week = with_line w line; used = r.used })
  one_ended e = record {
    goes = record {
      goes = λ (long : 205 ≤ length kept) (bytes : List ℕ) (h : length (bytes ++ between from r.used block) ≤ longest) (s : Sofar (length kept) bytes table w kept).
          let g = rw e at (took bytes s.holds) in
          let line : line_of (take r.held new) ≡ line_of g.line = ap line_of g.kept ∙ line_clip (length kept) g.line long in
          record {
            comes = rw (g.finished, line) (comes_then g.line (few_lines bytes (omega (arith, length-append bytes (between from r.used block)))) s.comes);
            holds = rw g.rest (sym (take-nil (length kept)));
          };
      taken = refl;
      room = omega arith;
      size = (taken_room takes refl room).1;
    };
    moves = taken_moves takes;
  }

  pub one_open : r.ended ≡ false → One w block from table kept table new (record { week = record { bad = w.bad; tally = w.tally; held = r.held; taken = w.taken }; used = r.used })
  one_open e = record {
    goes = record {
      goes = λ (long : 205 ≤ length kept) (bytes : List ℕ) (h : length (bytes ++ between from r.used block) ≤ longest) (s : Sofar (length kept) bytes table w kept).
          let g = rw e at (took bytes s.holds) in
          record { comes = rw g.0 record { counts = s.comes.counts; bad = s.comes.bad; sum = s.comes.sum }; holds = g.1 };
      taken = refl;
      room = (taken_room takes refl room).0;
      size = (taken_room takes refl room).1;
    };
    moves = taken_moves takes;
  }
