-- A block more is handed over: what of it is still input goes behind the input so far. At the end what is held is the last line.
use Prim.Native.Nat.{ℕ, zero, suc, ◌+◌, ◌-◌, ◌≤◌, min}
use mathlib.Core.List.{List, [], ◌∷◌, ◌++◌}
use mathlib.Core.Path.{◌≡◌, refl, sym, ap, subst, ◌∙◌}
use native.Mathlib.Nat.{sub-zero}
use native.Mathlib.Omega.{arith}
use lib.ListN.{length, take, length-append, length-take}
use lib.Seq.{length-take-le, take-nil}
use Rattle.lines.specs.Lines.{split_by, lines, Holds}
use Rattle.lines.proofs.Held.{take_lesser, held_whole, held_nothing, held_some, no_last, last}
use Rattle.text.specs.Text.{Puts}
use Rattle.counts.specs.Counts.{line_of, how_many, seconds_in_all, table_of}
use Rattle.counts.specs.Seen.{seen, counted}
use Rattle.counts.proofs.Laws.{line_clip}
use Rattle.logs.specs.declared.Week.{Week}
use Rattle.logs.specs.Table.{log_text, week_text}
use Rattle.logs.specs.Log.{longest, input, Comes, Sofar, After, started, with_line, AllLines, Steps, last_text, Finishes}
use Rattle.logs.proofs.Laws.{comes_then, few_lines}
use Rattle.logs.proofs.Short.{week_short}

take_more : (m : ℕ) (a b : List ℕ) → take m (a ++ b) ≡ take m a ++ take (m - length (take m a)) b
take_more zero a b = refl
take_more (suc m) [] b = rw (sub-zero (suc m))
take_more (suc m) (x ∷ a) b =
    let less : suc m - suc (length (take m a)) ≡ m - length (take m a) = omega arith in
    rw less (ap (λ (l : List ℕ). x ∷ l) (take_more m a b))

first_short : (m : ℕ) (s : List ℕ) → length (take m s) ≤ m
first_short m s = rw (length-take m s) (omega arith)

-- the first m bytes of some and a block: the first m of these, and so much of the block as there is room for
module _ (m : ℕ) (handed block : List ℕ) {taken before n : ℕ} (here : taken ≡ length (take m handed)) (least : before ≡ min taken m) (some : n ≡ min (m - before) (length block)) where
  at_end : before ≡ length (take m handed)
  at_end = omega (arith, first_short m handed)

  first_more : take m (handed ++ block) ≡ take m handed ++ take n block
  first_more = take_more m handed block ∙ sym (rw (some, at_end, take_lesser (m - length (take m handed)) block))

  first_length : length (take m handed ++ take n block) ≡ before + n
  first_length = rw (length-append (take m handed) (take n block), length-take-le n block (omega arith), at_end)

input_short : (s : List ℕ) → length (input s) ≤ longest
input_short s = first_short longest s

-- how much of a block is taken, and the log that it is handed to
module _ (w : Week) (block kept : List ℕ) {before n held : ℕ} (least : before ≡ min w.taken longest) (some : n ≡ min (longest - before) (length block)) (clamped : held ≡ min w.held (length kept)) where
  abbrev ready : Week
  ready = record { bad = w.bad; tally = w.tally; held = held; taken = before + n }

  pub steps : {table table' : List (List ℕ)} {kept' : List ℕ} {r : Week} → AllLines ready (take n block) table kept table' kept' r → Steps w block table kept table' kept' r
  steps {table} {table'} {kept'} {r} all = record {
    goes = λ (long : 205 ≤ length kept) (handed : List ℕ) (a : After (length kept) handed table w kept).
        let bytes = input handed in
        let more = first_more longest handed block a.taken least some in
        let s = a.sofar in
        let ready-so : Sofar (length kept) bytes table ready kept = record { comes = record { counts = s.comes.counts; bad = s.comes.bad; sum = s.comes.sum }; holds = held_whole w.held kept clamped ∙ s.holds } in
        let short : length (bytes ++ take n block) ≤ longest = rw more at (input_short (handed ++ block)) in
        record {
          sofar = subst (λ (i : List ℕ). Sofar (length kept) i table' r kept') (sym more) (all.goes long bytes short ready-so);
          taken = all.taken ∙ sym (ap length more ∙ first_length longest handed block a.taken least some);
        };
    size = all.size;
  }

-- nothing has come, and nothing is held
pub starts : (limit : ℕ) (kept : List ℕ) → After limit [] (table_of []) started kept
unfolding split_by how_many seconds_in_all
starts limit kept = record { sofar = record { comes = record { counts = refl; bad = refl; sum = refl }; holds = sym (take-nil limit) }; taken = refl }

-- ---- the end of the input

comes_text : {ls table : List (List ℕ)} {w : Week} → Comes ls table w → week_text table w.bad w.tally.sum ≡ log_text ls
comes_text c = rw (c.counts, c.bad, c.sum)

module _ (w : Week) (table : List (List ℕ)) (kept : List ℕ) where
  -- what is held is a line where it is not empty
  last_text_lem : (held : List ℕ) → 1 ≤ length held → let line = seen (line_of held) in week_text (counted line table) (with_line w line).bad (with_line w line).tally.sum ≡ last_text w table held
  last_text_lem [] h = absurd (omega arith)
  last_text_lem (b ∷ l) h = refl

  pub says : 205 ≤ length kept → (handed : List ℕ) → After (length kept) handed table w kept → last_text w table (take w.held kept) ≡ log_text (lines (input handed))
  says long handed a = go (take w.held kept) a.sofar.holds
    where
      go : (held : List ℕ) → Holds (length kept) (input handed) held → last_text w table held ≡ log_text (lines (input handed))
      go [] h = rw (no_last (length kept) (input handed) [] h (omega arith) refl) (comes_text a.sofar.comes)
      go (b ∷ l) h =
          let end = last (length kept) (input handed) (b ∷ l) h (omega arith) in
          let line : line_of (b ∷ l) ≡ line_of end.line = ap line_of end.kept ∙ line_clip (length kept) end.line long in
          rw (end.lines, line) (comes_text (comes_then end.line (few_lines (input handed) (input_short handed)) a.sofar.comes))

  short : length (last_text w table (take w.held kept)) ≤ 1024
  short = go (take w.held kept)
    where
      go : (held : List ℕ) → length (last_text w table held) ≤ 1024
      go [] = week_short _ _ _
      go (b ∷ l) = week_short _ _ _

  module _ {n : ℕ} {out out' : List ℕ} {r : ℕ} (clamped : n ≡ min w.held (length kept)) where
    pub ends_none : n ≡ 0 → Puts (week_text table w.bad w.tally.sum) out 0 out' r → Finishes w table kept out out' r
    ends_none e p = record { puts = rw (held_nothing w.held kept clamped e) p; short = short; says = says }

    pub ends_last : (n ≡ 0 → ⊥) → let line = seen (line_of (take n kept)) in Puts (week_text (counted line table) (with_line w line).bad (with_line w line).tally.sum) out 0 out' r → Finishes w table kept out out' r
    ends_last e p =
        let held = held_whole w.held kept clamped in
        record { puts = rw (last_text_lem (take w.held kept) (held_some w.held kept clamped e)) at (rw held at p); short = short; says = says }
