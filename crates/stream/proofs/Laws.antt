-- What is put for all bytes so far: a line that ends adds its response, and a line that goes on adds nothing.
use Prim.Native.Nat.{ℕ, ◌≤◌, min}
use mathlib.Core.Bool.{true, false}
use mathlib.Core.List.{List, [], ◌∷◌, ◌++◌, append_assoc, append-nil}
use mathlib.Core.Path.{◌≡◌, refl, sym, ◌∙◌}
use native.Mathlib.Omega.{arith}
use lib.ListN.{length, take}
use lib.Seq.{take-nil}
use Rattle.lines.specs.Lines.{split, lines, clip, Holds, GoesOn}
use Rattle.lines.specs.Lines.{Takes}
use Rattle.lines.specs.declared.Taken.{Taken}
use Rattle.lines.proofs.Laws.{took_line, taken_room, taken_moves}
use Rattle.lines.proofs.Held.{held_whole, held_nothing, held_some, no_last, last}
use Rattle.text.proofs.Laws.{puts_nothing}
use Rattle.reply.specs.Line.{Gives}
use Rattle.reply.proofs.Asked.{answers_clip}
use Rattle.reply.proofs.Short.{line_short}
use Rattle.samples.proofs.Lines.{compares_clip, line_short as compares-short}
use Rattle.spellings.proofs.Laws.{spelled_clip, line_short as spelled-short}
use Rattle.cuts.proofs.Laws.{says_clip, line_short as says_short}
use Rattle.faults.proofs.Laws.{line_clip as why-clip, line_short as why-short}
use Rattle.distances.proofs.Laws.{line_clip as apart-clip, line_short as apart_short}
use Rattle.stream.specs.declared.Program.{Program}
use Rattle.stream.specs.declared.Program.TheVariants.{Answers, Replay, Spell, Pieces, Why, WhyShow, Apart}
use Rattle.stream.specs.Stream.{Responds, Responses, After, Goes, One, Finishes}

-- No response is longer than the room that is kept for one.
pub responds_short : (p : Program) (l t : List ℕ) → Responds p l t → length t ≤ 16384
responds_short Answers l t r = omega (arith, line_short l t r)
responds_short Replay l t r = omega (arith, compares-short l t r)
responds_short Spell l t r = rw r (omega (arith, spelled-short l))
responds_short Pieces l t r = says_short l t r
responds_short Why l t r = omega (arith, why-short false l t r)
responds_short WhyShow l t r = omega (arith, why-short true l t r)
responds_short Apart l t r = omega (arith, apart_short l t r)

-- A response to the first bytes of a line is a response to the line: no program takes a line that long.
responds_clip : (p : Program) (limit : ℕ) (l t : List ℕ) → 1024 ≤ limit → Responds p (clip limit l) t → Responds p l t
responds_clip Answers limit l t h r = record { answer = r.answer; answers = answers_clip true limit l r.answer (omega arith) r.answers; ends = r.ends }
responds_clip Replay limit l t h r = compares_clip limit l t h r
responds_clip Spell limit l t h r = r ∙ spelled_clip limit l (omega arith)
responds_clip Pieces limit l t h r = says_clip limit l t (omega arith) r
responds_clip Why limit l t h r = why-clip false limit l t (omega arith) r
responds_clip WhyShow limit l t h r = why-clip true limit l t (omega arith) r
responds_clip Apart limit l t h r = apart-clip limit l t (omega arith) r

-- One response more behind some others.
responses_then : (p : Program) (ls : List (List ℕ)) (l t u : List ℕ) → Responses p ls t → Responds p l u → Responses p (ls ++ l ∷ []) (t ++ u)
responses_then p [] l t u e r = record { first = u; next = []; responds = r; behind = refl; text = rw (e, append-nil u) }
responses_then p (k ∷ ls) l t u f r =
    record {
      first = f.first;
      next = f.next ++ u;
      responds = f.responds;
      behind = responses_then p ls l f.next u f.behind r;
      text = rw f.text (append_assoc f.first f.next u);
    }

module _ (p : Program) (limit : ℕ) where
  -- a line that goes on
  pub open_goes : (more old new : List ℕ) → ((bytes : List ℕ) → Holds limit bytes old → GoesOn false limit bytes (bytes ++ more) new) → Goes p limit more [] old new
  open_goes more old new h = record {
    goes = λ (k : 1024 ≤ limit) (bytes put : List ℕ) (a : After p limit bytes put old).
        let g = h bytes a.holds in
        record { responses = rw (g.0, append-nil put) a.responses; holds = g.1 };
  }

  -- a line that ends, and its response
  pub ended_goes : (more old kept text : List ℕ) → ((bytes : List ℕ) → Holds limit bytes old → GoesOn true limit bytes (bytes ++ more) kept) → Responds p kept text → Goes p limit more text old []
  ended_goes more old kept text h r = record {
    goes = λ (k : 1024 ≤ limit) (bytes put : List ℕ) (a : After p limit bytes put old).
        let g = h bytes a.holds in
        record {
          responses = rw g.finished (responses_then p (split bytes).finished g.line put text a.responses (responds_clip p limit g.line text k (rw g.kept at r)));
          holds = rw g.rest (sym (take-nil limit));
        };
  }

  -- nothing, and one behind the other
  pub nothing_goes : (old : List ℕ) → Goes p limit [] [] old old
  nothing_goes old = record { goes = λ (k : 1024 ≤ limit) (bytes put : List ℕ) (a : After p limit bytes put old). rw (append-nil bytes, append-nil put) a }

  pub goes_then : {a b t u : List ℕ} {old mid new : List ℕ} → Goes p limit a t old mid → Goes p limit b u mid new → Goes p limit (a ++ b) (t ++ u) old new
  goes_then {a} {b} {t} {u} g h = record {
    goes = λ (k : 1024 ≤ limit) (bytes put : List ℕ) (x : After p limit bytes put _).
        rw (append_assoc bytes a b, append_assoc put t u) at (h.goes k (bytes ++ a) (put ++ t) (g.goes k bytes put x));
  }

  -- the end: nothing is held where the rest is empty, and else the first bytes of the last line
  pub ends_empty : (old : List ℕ) → old ≡ [] → 1024 ≤ limit → (bytes put : List ℕ) → After p limit bytes put old → Responses p (lines bytes) (put ++ [])
  ends_empty old e k bytes put a = rw (no_last limit bytes old a.holds (omega arith) e, append-nil put) a.responses

  pub ends_last : (old text : List ℕ) → 1 ≤ length old → Responds p old text → 1024 ≤ limit → (bytes put : List ℕ) → After p limit bytes put old → Responses p (lines bytes) (put ++ text)
  ends_last old text h r k bytes put a =
      let l = last limit bytes old a.holds h in
      rw l.lines (responses_then p (split bytes).finished l.line put text a.responses (responds_clip p limit l.line text k (rw l.kept at r)))

-- One line: it ends and has a response, or goes on.
module _ (p : Program) {held from at : ℕ} {block kept new out : List ℕ} {r : Taken} (takes : Takes held block from kept new r) (room : held ≤ length kept) where
  pub one_ended : {out' : List ℕ} {next : ℕ} → r.ended ≡ true → Gives (Responds p (take r.held new)) out at out' next
      → One p held block from kept out at new out' (record { held = 0; used = r.used; at = next })
  one_ended {out'} {next} e g =
      record {
        text = g.text;
        goes = ended_goes p (length kept) _ (take held kept) (take r.held new) g.text (λ (bytes : List ℕ) (h : Holds (length kept) bytes (take held kept)). rw e at (took_line takes refl room bytes h)) g.answer;
        puts = g.puts;
        short = responds_short p _ g.text g.answer;
        room = omega arith;
        size = (taken_room takes refl room).1;
        moves = taken_moves takes;
      }

  pub one_open : r.ended ≡ false → One p held block from kept out at new out (record { held = r.held; used = r.used; at = at })
  one_open e =
      record {
        text = [];
        goes = open_goes p (length kept) _ (take held kept) (take r.held new) (λ (bytes : List ℕ) (h : Holds (length kept) bytes (take held kept)). rw e at (took_line takes refl room bytes h));
        puts = puts_nothing out at;
        short = omega arith;
        room = (taken_room takes refl room).0;
        size = (taken_room takes refl room).1;
        moves = taken_moves takes;
      }

module _ (p : Program) {held n : ℕ} {kept out : List ℕ} (clamped : n ≡ min held (length kept)) where
  pub finishes_empty : n ≡ 0 → Finishes p held kept out out 0
  finishes_empty e = record { text = []; responses = ends_empty p (length kept) (take held kept) (held_nothing held kept clamped e); puts = puts_nothing out 0 }

  pub finishes_last : {out' : List ℕ} {next : ℕ} → (n ≡ 0 → ⊥) → Gives (Responds p (take n kept)) out 0 out' next → Finishes p held kept out out' next
  finishes_last e g = record { text = g.text; responses = ends_last p (length kept) (take held kept) g.text (held_some held kept clamped e) (rw (held_whole held kept clamped) at g.answer); puts = g.puts }
