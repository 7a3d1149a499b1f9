-- After any steps from a start the answers and the verdict are those of the two readers on everything accepted so far, however the bytes
-- were cut: the kept bytes stand for them.
use Prim.Native.Nat.{ℕ, ◌+◌, ◌≤◌}
use mathlib.Core.List.{List, [], ◌∷◌, ◌++◌, append_assoc, append-nil}
use mathlib.Core.Bool.{Bool, true, false}
use mathlib.Core.Path.{◌≡◌, refl, sym, ap, ap₂, ◌∙◌}
use native.Mathlib.Omega.{arith}
use lib.ListN.{length, length-append}
use lib.Seq.{length-take-le}
use lib.Dec.{leb}
use borrow.Author.Tests.{le-leb}
use Rattle.types.specs.declared.Verdict.{Verdict}
use Rattle.types.specs.declared.Verdict.TheVariants.{Settled, Open}
use Rattle.parser.specs.Reading.{Found, no, got, stop, Reader, pick}
use Rattle.parser.specs.Answer.{begun, ended, Judged}
use Rattle.parser.specs.declared.answer.Read.{Read}
use Rattle.parser.proofs.Fields.{true≢false}
use Rattle.parser.proofs.Verdict.{begins_once}
use Rattle.kinds.specs.declared.answer.Kind.{Kind}
use Rattle.kinds.specs.declared.answer.Record.{Record}
use Rattle.kinds.specs.Kinds.{Answer, rule_of, bound, Reads, Parses}
use Rattle.kinds.proofs.Laws.{bounded}
use Rattle.kinds.proofs.Once.{told_once, read_once, parsed_once}
use Rattle.arriving.specs.declared.State.{State}
use Rattle.arriving.specs.Keeping.{Stepped, push_one, pushes, started, stepped, text_of, carry, moved, found_in, Answers, Ends}
use Rattle.arriving.specs.Pieces.{steps, accept, accepts, accepted_of, Faithful, join_all}
use Rattle.arriving.proofs.Pushing.{one_kind}
use Rattle.arriving.proofs.Moves.{over, over_kept, told_moved, begun_moved, told_moved_once}
use Rattle.arriving.proofs.Stands.{Stands, start_stands, pushes_stands}

-- ---- the state that steps lead to

-- a piece is accepted, or leaves the state as it is
pub step_stands : (st : State) (s p : List ℕ) → Stands st s → Stands (stepped st p).state (accept s p)
step_stands st s p h = go (leb (st.accepted + length p) 4294967295) (leb (length s + length p) 4294967295) (ap (λ (n : ℕ). leb (n + length p) 4294967295) h.accepted)
  where
    go : (t u : Bool) → t ≡ u → Stands (pick {A = Stepped} t (record { state = pushes st p; number = 0 }) (record { state = st; number = 6 })).state (pick u (s ++ p) s)
    go true true e = pushes_stands p st s h
    go false false e = h
    go true false e = absurd (true≢false e)
    go false true e = absurd (true≢false (sym e))

steps_stand : (ps : List (List ℕ)) (st : State) (s : List ℕ) → Stands st s → Stands (steps st ps) (accepts s ps)
unfolding steps accepts
steps_stand [] st s h = h
steps_stand (p ∷ ps) st s h = steps_stand ps (stepped st p).state (accept s p) (step_stands st s p h)

-- "After any steps from a start", refused ones among them
pub reached : (k : Kind) (ps : List (List ℕ)) → Stands (steps (started k) ps) (accepted_of ps)
reached k ps = steps_stand ps (started k) [] (start_stands k)

-- the kind stays
pushes_kind : (p : List ℕ) (st : State) → (pushes st p).kind ≡ st.kind
unfolding pushes
pushes_kind [] st = refl
pushes_kind (b ∷ p) st = pushes_kind p (push_one st b) ∙ one_kind st b

pub step_kind : (st : State) (p : List ℕ) → (stepped st p).state.kind ≡ st.kind
step_kind st p = go (leb (st.accepted + length p) 4294967295)
  where
    go : (t : Bool) → (pick {A = Stepped} t (record { state = pushes st p; number = 0 }) (record { state = st; number = 6 })).state.kind ≡ st.kind
    go true = pushes_kind p st
    go false = refl

pub steps_kind : (ps : List (List ℕ)) (st : State) → (steps st ps).kind ≡ st.kind
unfolding steps
steps_kind [] st = refl
steps_kind (p ∷ ps) st = steps_kind ps (stepped st p).state ∙ step_kind st p

-- ---- what is said of a state that stands for some bytes

module _ (st : State) (s : List ℕ) (h : Stands st s) where
  abbrev rule : Reader Record
  rule = rule_of st.kind

  over_zero : over st 0 ≡ 0
  over_zero = over_kept st 0 (omega arith)

  -- what is found ends among the kept bytes, whose places the state has
  found_in_lem : found_in st ≡ rule.reads s 0
  found_in_lem = go (rule.reads (text_of st) 0) refl ∙ sym whole
    where
      whole : rule.reads s 0 ≡ moved (over st) (rule.reads (text_of st) 0)
      whole = rw (append-nil s, append-nil (text_of st)) at (h.reads [])

      go : (f : Found Record) → rule.reads (text_of st) 0 ≡ f → moved (carry st) f ≡ moved (over st) f
      go no e = refl
      go (stop r) e = refl
      go (got a n) e =
          let within = bounded st.kind (text_of st) 0 (omega arith) a n e in
          let size = length-take-le st.len st.kept (omega (arith, h.size, h.few)) in
          ap (got a) (sym (over_kept st n (omega (arith, within, size))))

  -- each continuation is told as that of the kept bytes is, the count carried over
  told_on : (x : List ℕ) → begun (rule.reads (s ++ x) 0) ≡ told_moved (over st) (begun (rule.reads (text_of st ++ x) 0))
  told_on x = ap begun (h.reads x) ∙ begun_moved (over st) over_zero (rule.reads (text_of st ++ x) 0)

  told_now : begun (rule.reads s 0) ≡ told_moved (over st) (begun (rule.reads (text_of st) 0))
  told_now = rw (append-nil s, append-nil (text_of st)) at (told_on [])

  judged : (v : Verdict) → Judged (bound st.kind) rule (text_of st) v → Judged (bound st.kind) rule s v
  judged Settled same = λ x. told_on x ∙ ap (told_moved (over st)) (same x) ∙ sym told_now
  judged Open other = (
    other.0,
    (other.1.0, λ e. other.1.1 (told_moved_once (over st) h.rises _ _ (sym (told_on other.0) ∙ e ∙ told_now))),
  )

  pub answers_reads : (r : Read Record) → Answers st r → Reads st.kind s r
  answers_reads r a = record { answer = a.answer ∙ ap begun found_in_lem; verdict = judged r.verdict a.verdict }

  pub ends_parses : (a : Answer) → Ends st a → Parses st.kind s a
  ends_parses a e = e ∙ ap₂ ended h.accepted found_in_lem

-- ---- the theorem: after any steps from a start, refused ones among them

pub faithful : (k : Kind) (ps : List (List ℕ)) → Faithful k (accepted_of ps) (steps (started k) ps)
faithful k ps = record {
  answers = λ r a. rw same at (answers_reads st (accepted_of ps) h r a);
  ends = λ a e. rw same at (ends_parses st (accepted_of ps) h a e);
  number = λ p. number p (leb (st.accepted + length p) 4294967295) ∙ ap (λ (n : ℕ). pick (leb (n + length p) 4294967295) 0 6) h.accepted;
}
  where
    st : State
    st = steps (started k) ps

    same : st.kind ≡ k
    same = steps_kind ps (started k)

    h : Stands st (accepted_of ps)
    h = reached k ps

    number : (p : List ℕ) (t : Bool) → (pick {A = Stepped} t (record { state = pushes st p; number = 0 }) (record { state = st; number = 6 })).number ≡ pick t 0 6
    number p true = refl
    number p false = refl

-- however the bytes were cut: where the same is accepted, the same is answered
pub answer_however_cut : (k : Kind) (ps qs : List (List ℕ)) → accepted_of ps ≡ accepted_of qs → (a b : Read Record) → Answers (steps (started k) ps) a → Answers (steps (started k) qs) b → a ≡ b
answer_however_cut k ps qs e a b h g = read_once k (accepted_of qs) a b (rw e at ((faithful k ps).answers a h)) ((faithful k qs).answers b g)

pub end_however_cut : (k : Kind) (ps qs : List (List ℕ)) → accepted_of ps ≡ accepted_of qs → (a b : Answer) → Ends (steps (started k) ps) a → Ends (steps (started k) qs) b → a ≡ b
end_however_cut k ps qs e a b h g = parsed_once k (accepted_of qs) a b (rw e at ((faithful k ps).ends a h)) ((faithful k qs).ends b g)

-- pieces of no more bytes than that in all are accepted, each of them
all_accepted : (ps : List (List ℕ)) (s : List ℕ) → length (s ++ join_all ps) ≤ 4294967295 → accepts s ps ≡ s ++ join_all ps
unfolding accepts join_all
all_accepted [] s h = sym (append-nil s)
all_accepted (p ∷ ps) s h =
    let one : accept s p ≡ s ++ p = rw (le-leb (length s + length p) 4294967295 (omega (arith, h, length-append s (p ++ join_all ps), length-append p (join_all ps)))) in
    let all : length ((s ++ p) ++ join_all ps) ≤ 4294967295 = rw (append_assoc s p (join_all ps)) h in
    rw (one, ← append_assoc s p (join_all ps)) (all_accepted ps (s ++ p) all)

pub accepted_whole : (ps : List (List ℕ)) → length (join_all ps) ≤ 4294967295 → accepted_of ps ≡ join_all ps
accepted_whole ps h = all_accepted ps [] h

-- ---- no two answers meet one promise, whatever the state

pub answers_once : (st : State) (a b : Read Record) → Answers st a → Answers st b → a ≡ b
answers_once st a b h g =
    let all = begun ((rule_of st.kind).reads (text_of st) 0) in
    let v = (begins_once (bound st.kind) (rule_of st.kind) (text_of st) all all a.verdict b.verdict (record { answer = refl; verdict = h.verdict }) (record { answer = refl; verdict = g.verdict })).1 in
    ap₂ (λ (t : Answer) (w : Verdict). record { answer = t; verdict = w }) (told_once a.answer b.answer (h.answer ∙ sym g.answer)) v

pub ends_once : (st : State) (a b : Answer) → Ends st a → Ends st b → a ≡ b
ends_once st a b h g = told_once a b (h ∙ sym g)
