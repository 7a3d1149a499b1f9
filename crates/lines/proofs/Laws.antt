-- What other crates may cite of lines: a split is right and the only right one; an input is split a part at a time; and whoever takes lines
-- with `take_line` gets the lines of all bytes so far, each once and in order.
use Prim.Native.Nat.{ℕ, zero, suc, ◌+◌, ◌-◌, ◌≤◌, ◌<◌}
use mathlib.Core.Bool.{Bool, true, false}
use mathlib.Core.List.{List, [], ◌∷◌, ◌++◌, append_assoc, append-nil}
use mathlib.Core.Path.{◌≡◌, refl, sym, ap, ◌∙◌}
use native.Mathlib.Omega.{arith}
use lib.Dec.{eqb}
use lib.ListN.{length, take, drop, length-append, length-take, length-drop}
use lib.Seq.{take_all, take-append_seam, drop-drop}
use borrow.Author.Tests.{eqb-true, eqb-false, ne_eqb}
use Rattle.std.specs.declared.option.Option.TheVariants.{None, Some}
use Rattle.lines.specs.Lines.{pick, Split, after, onto, split_by, split, lines, joined_with, joined, FreeOf, EachFreeOf, Free, EachFree}
use Rattle.lines.specs.Lines.{place_from, place_of, end_at, clip, between, part_of, behind, is_end, Takes, Holds, GoesOn, Moves}
use Rattle.std.specs.declared.option.Option.{Option}
use Rattle.lines.specs.declared.Taken.{Taken}
use Rattle.text.proofs.Laws.{puts_clips}

-- The parts of a split, put together again, are the input.

joined_onto : (c : ℕ) (a : List ℕ) (ls : List (List ℕ)) (r : List ℕ)
    → joined_with c (onto a (record { finished = ls; rest = r })) ≡ a ++ joined_with c (record { finished = ls; rest = r })
joined_onto c a [] r = refl
joined_onto c a (l ∷ ls) r = append_assoc a l _

pub joined_by : (c : ℕ) (s : List ℕ) → joined_with c (split_by c s) ≡ s
unfolding split_by
joined_by c [] = refl
joined_by c (b ∷ s) = step (eqb b c) refl (joined_by c s)
  where
    step : (t : Bool) → eqb b c ≡ t → joined_with c (split_by c s) ≡ s → joined_with c (split_by c (b ∷ s)) ≡ b ∷ s
    step true e h = rw (e, eqb-true b c e) (ap (λ (l : List ℕ). c ∷ l) h)
    step false e h = rw e (joined_onto c (b ∷ []) (split_by c s).finished (split_by c s).rest ∙ ap (λ (l : List ℕ). b ∷ l) h)

pub joined_split : (s : List ℕ) → joined (split s) ≡ s
joined_split s = joined_by 10 s

-- No part of a split has the byte in it that ends parts.

pub free_by : (c : ℕ) (s : List ℕ) → EachFreeOf c (split_by c s).finished × FreeOf c (split_by c s).rest
unfolding split_by
free_by c [] = (tt, tt)
free_by c (b ∷ s) = step (eqb b c) refl (split_by c s).finished (split_by c s).rest (free_by c s)
  where
    step : (t : Bool) → eqb b c ≡ t → (ls : List (List ℕ)) (r : List ℕ) → EachFreeOf c ls × FreeOf c r
        → let p : Split = record { finished = ls; rest = r } in
        let q : Split = pick t (after [] p) (onto (b ∷ []) p) in
        EachFreeOf c q.finished × FreeOf c q.rest
    step true e ls r h = ((tt, h.0), h.1)
    step false e [] r h = (tt, (eqb-false b c e, h.1))
    step false e (l ∷ ls) r h = (((eqb-false b c e, h.0.0), h.0.1), h.1)

pub split_free : (s : List ℕ) → EachFree (split s).finished × Free (split s).rest
split_free s = free_by 10 s

-- Bytes with no byte 10 in them stand in front of the first line, or of the rest.

onto_nil : (ls : List (List ℕ)) (r : List ℕ) → onto [] (record { finished = ls; rest = r }) ≡ record { finished = ls; rest = r }
onto_nil [] r = refl
onto_nil (l ∷ ls) r = refl

onto_cons : (b : ℕ) (a : List ℕ) (ls : List (List ℕ)) (r : List ℕ)
    → onto (b ∷ []) (onto a (record { finished = ls; rest = r })) ≡ onto (b ∷ a) (record { finished = ls; rest = r })
onto_cons b a [] r = refl
onto_cons b a (l ∷ ls) r = refl

pub split_onto : (a s : List ℕ) → Free a → split (a ++ s) ≡ onto a (split s)
unfolding split_by
split_onto [] s h = sym (onto_nil (split s).finished (split s).rest)
split_onto (b ∷ a) s h =
    rw (ne_eqb b 10 h.0, split_onto a s h.1) (onto_cons b a (split s).finished (split s).rest)

-- So no other parts, put together, are the same input.
pub split_joined : (ls : List (List ℕ)) (r : List ℕ) → EachFree ls → Free r
    → split (joined (record { finished = ls; rest = r })) ≡ record { finished = ls; rest = r }
unfolding split_by
split_joined [] r f g = rw (← append-nil r) (split_onto r [] g)
split_joined (l ∷ ls) r f g = split_onto l _ f.0 ∙ rw (split_joined ls r f.1 g, append-nil l)

-- An input is split a part at a time: first a, and then b behind the rest of a.

-- the lines of p, then those of q, and the rest of q
abbrev pub then : Split → Split → Split
then p q = record { finished = p.finished ++ q.finished; rest = q.rest }

then_onto : (b : ℕ) (s : List ℕ) → eqb b 10 ≡ false → (ls : List (List ℕ)) (r : List ℕ)
    → let p : Split = record { finished = ls; rest = r } in
    onto (b ∷ []) (then p (split (r ++ s))) ≡ then (onto (b ∷ []) p) (split ((onto (b ∷ []) p).rest ++ s))
unfolding split_by
then_onto b s e [] r = rw e
then_onto b s e (l ∷ ls) r = refl

pub split_append : (a b : List ℕ) → split (a ++ b) ≡ then (split a) (split ((split a).rest ++ b))
unfolding split_by
split_append [] b = refl
split_append (x ∷ a) b = step (eqb x 10) refl (split_append a b)
  where
    step : (t : Bool) → eqb x 10 ≡ t → split (a ++ b) ≡ then (split a) (split ((split a).rest ++ b))
        → split (x ∷ a ++ b) ≡ then (split (x ∷ a)) (split ((split (x ∷ a)).rest ++ b))
    step true e h = rw (e, h)
    step false e h = rw (e, h) (then_onto x b e (split a).finished (split a).rest)

pub lines_append : (a b : List ℕ) → lines (a ++ b) ≡ (split a).finished ++ lines ((split a).rest ++ b)
unfolding lines
lines_append a b = rw (split_append a b) (append_assoc (split a).finished _ _)

-- With the end that `place_of` finds, the line from `at` is the bytes up to it, and the other lines are those behind it.

at≢open : (end : ℕ) → Some end ≡ None → ⊥
at≢open end h = let z : ◌≡◌ {A = ℕ} 0 1 = cc in omega arith

pub record Ends (c at end : ℕ) (t : List ℕ) : Type 0 where
  pub size : ℕ
  pub place : end ≡ at + size
  pub within : size < length t
  pub splits : split_by c t ≡ after (take size t) (split_by c (drop (suc size) t))

pub end_from_ends : (c at end : ℕ) (t : List ℕ) → place_from c at t ≡ Some end → Ends c at end t
unfolding split_by
end_from_ends c at end [] h = absurd (at≢open end (sym h))
end_from_ends c at end (b ∷ t) h = step (eqb b c) refl (end_from_ends c (at + 1) end t)
  where
    step : (u : Bool) → eqb b c ≡ u → (place_from c (at + 1) t ≡ Some end → Ends c (at + 1) end t) → Ends c at end (b ∷ t)
    step true e ih =
        let g : Some at ≡ Some end = rw e at h in
        let p : at ≡ end = cc in
        record { size = 0; place = omega arith; within = omega arith; splits = rw e }
    step false e ih =
        let o = ih (rw e at h) in
        record { size = suc o.size; place = omega arith; within = omega arith; splits = rw (e, o.splits) }

pub end_from_open : (c at : ℕ) (t : List ℕ) → place_from c at t ≡ None → split_by c t ≡ record { finished = []; rest = t }
unfolding split_by
end_from_open c at [] h = refl
end_from_open c at (b ∷ t) h = step (eqb b c) refl (end_from_open c (at + 1) t)
  where
    step : (u : Bool) → eqb b c ≡ u → (place_from c (at + 1) t ≡ None → split_by c t ≡ record { finished = []; rest = t })
        → split_by c (b ∷ t) ≡ record { finished = []; rest = b ∷ t }
    step true e ih = absurd (at≢open at (rw e at h))
    step false e ih = rw (e, ih (rw e at h))

-- A place that is found lies at or behind where it was looked for, and within the bytes.
place_from_within : (c at end : ℕ) (t : List ℕ) → place_from c at t ≡ Some end → (at ≤ end) × (end < at + length t)
place_from_within c at end [] h = absurd (at≢open end (sym h))
place_from_within c at end (b ∷ t) h = step (eqb b c) refl (place_from_within c (at + 1) end t)
  where
    step : (u : Bool) → eqb b c ≡ u → (place_from c (at + 1) t ≡ Some end → (at + 1 ≤ end) × (end < at + 1 + length t)) → (at ≤ end) × (end < at + suc (length t))
    step true e ih =
        let g : Some at ≡ Some end = rw e at h in
        let p : at ≡ end = cc in
        (omega arith, omega arith)
    step false e ih = let o = ih (rw e at h) in (omega arith, omega arith)

pub place_within : (c : ℕ) (s : List ℕ) (at end : ℕ) → place_of c s at ≡ Some end → (at ≤ end) × (end < length s)
unfolding place_of
place_within c s at end h =
    let o = place_from_within c at end (drop at s) h in
    let l = length-drop at s in
    (omega arith, omega arith)

module _ (s : List ℕ) (at : ℕ) where
  pub end_within : (end : ℕ) → end_at s at ≡ Some end → (at ≤ end) × (end < length s)
  unfolding place_of
  end_within end h =
      let o = end_from_ends 10 at end (drop at s) h in
      let l = length-drop at s in
      (omega arith, omega arith)

  pub split_end : (end : ℕ) → end_at s at ≡ Some end
      → split (drop at s) ≡ after (take (end - at) (drop at s)) (split (drop (end + 1) s))
  unfolding place_of
  split_end end h =
      let o = end_from_ends 10 at end (drop at s) h in
      let line : end - at ≡ o.size = omega arith in
      let next : end + 1 ≡ at + suc o.size = omega arith in
      rw (line, next, ← drop-drop (suc o.size) at s) o.splits

  pub split_open : end_at s at ≡ None → split (drop at s) ≡ record { finished = []; rest = drop at s }
  unfolding place_of
  split_open h = end_from_open 10 at (drop at s) h

-- A clipped rest loses nothing that a clipped line shows.

take_append_take : (n : ℕ) (a b : List ℕ) → take n (take n a ++ b) ≡ take n (a ++ b)
take_append_take zero a b = refl
take_append_take (suc n) [] b = refl
take_append_take (suc n) (x ∷ a) b = ap (λ (l : List ℕ). x ∷ l) (take_append_take n a b)

-- Bytes without a byte 10 go on with the rest, and a byte 10 behind them ends a line.

free_append : (a b : List ℕ) → Free a → Free b → Free (a ++ b)
free_append [] b f g = g
free_append (x ∷ a) b f g = (f.0, free_append a b f.1 g)

module _ (bytes x : List ℕ) (free : Free x) where
  goes_on : split (bytes ++ x) ≡ record { finished = (split bytes).finished; rest = (split bytes).rest ++ x }
  unfolding split_by
  goes_on =
      let line = (split bytes).rest ++ x in
      let one = split_onto line [] (free_append (split bytes).rest x (split_free bytes).1 free) in
      split_append bytes x ∙ rw (rw (append-nil line) at one, append-nil (split bytes).finished)

  line_ended : split (bytes ++ (x ++ 10 ∷ [])) ≡ record { finished = (split bytes).finished ++ ((split bytes).rest ++ x) ∷ []; rest = [] }
  unfolding split_by
  line_ended =
      let line = (split bytes).rest ++ x in
      let one = split_onto line (10 ∷ []) (free_append (split bytes).rest x (split_free bytes).1 free) in
      split_append bytes (x ++ 10 ∷ []) ∙ rw (← append_assoc (split bytes).rest x (10 ∷ []), one, append-nil line)

-- What `take_line` takes of a block.

module _ (block : List ℕ) (from : ℕ) where
  record Line (end : ℕ) : Type 0 where
    free : Free (between from end block)
    bytes : between from (end + 1) block ≡ between from end block ++ 10 ∷ []

  line_of : (end : ℕ) → end_at block from ≡ Some end → Line end
  line_of end h =
      let within = end_within block from end h in
      let x = take (end - from) (drop from block) in
      let parts = split_end block from end h in
      let long : length (x ++ 10 ∷ []) ≡ end + 1 - from = simp (length-append, length-take, length-drop) (omega arith) in
      let all : drop from block ≡ (x ++ 10 ∷ []) ++ drop (end + 1) block = sym (joined_split (drop from block)) ∙ rw (parts, joined_split (drop (end + 1) block)) (sym (append_assoc x (10 ∷ []) _)) in
      record {
        free = (rw parts at (split_free (drop from block)).0).0;
        bytes = rw (← long) (ap (take (length (x ++ 10 ∷ []))) all ∙ take-append_seam _ _);
      }

  rest_free : end_at block from ≡ None → Free (drop from block)
  rest_free h = rw (split_open block from h) at (split_free (drop from block)).1

-- The law of lines, over all bytes so far: whoever holds the first bytes of the rest, and lets `take_line` take from a block behind these bytes, has
-- one line more, or holds the first bytes of the new rest.

module _ {limit held from : ℕ} {block old new : List ℕ} {r : Taken} (takes : Takes held block from old new r) (size : length old ≡ limit) (room : held ≤ limit) where
  pub taken_room : (r.held ≤ limit) × (length new ≡ limit)
  taken_room =
      let c = puts_clips takes.puts (rw size room) in
      (rw size at c.place, rw size at c.size)

  taken_front : (bytes : List ℕ) → Holds limit bytes (take held old) → take r.held new ≡ clip limit ((split bytes).rest ++ part_of (end_at block from) block from)
  taken_front bytes h =
      let c = puts_clips takes.puts (rw size room) in
      rw (size, h) at c.front ∙ take_append_take limit (split bytes).rest _

  pub took_line : (bytes : List ℕ) → Holds limit bytes (take held old) → GoesOn r.ended limit bytes (bytes ++ between from r.used block) (take r.held new)
  took_line bytes h = rw (takes.ended, takes.used) (step (end_at block from) refl (taken_front bytes h))
    where
      step : (e : Option ℕ) → end_at block from ≡ e → take r.held new ≡ clip limit ((split bytes).rest ++ part_of e block from)
          → GoesOn (is_end e) limit bytes (bytes ++ between from (behind e block from) block) (take r.held new)
      step (Some end) e front =
          let l = line_of block from end e in
          let s = line_ended bytes (between from end block) l.free in
          rw l.bytes record { line = (split bytes).rest ++ between from end block; finished = ap Split.finished s; rest = ap Split.rest s; kept = front }
      step None e front =
          let s = goes_on bytes (drop from block) (rest_free block from e) in
          let all : between from (from + (length block - from)) block ≡ drop from block = take_all (from + (length block - from) - from) (drop from block) (rw (length-drop from block) (omega arith)) in
          rw all (ap Split.finished s, rw s front)

pub taken_moves : {held from : ℕ} {block old new : List ℕ} {r : Taken} → Takes held block from old new r → Moves from (length block) r.used
taken_moves {held} {from} {block} {old} {new} {r} takes = rw takes.used (step (end_at block from) refl)
  where
    step : (e : Option ℕ) → end_at block from ≡ e → Moves from (length block) (behind e block from)
    step (Some end) e = let w = end_within block from end e in record { on = omega arith; within = omega arith; some = λ h. omega arith }
    step None e = record { on = omega arith; within = omega arith; some = λ h. omega arith }
