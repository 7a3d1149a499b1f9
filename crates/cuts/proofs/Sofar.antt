-- What holds after some pieces: the state stands for their bytes, and with what is said of the others behind what was put, all is said.
use Prim.Native.Nat.{ℕ, ◌+◌, ◌≤◌, ◌<◌}
use mathlib.Core.List.{List, [], ◌∷◌, ◌++◌, append_assoc}
use mathlib.Core.Path.{◌≡◌, refl, ap, ◌∙◌}
use native.Mathlib.Omega.{arith}
use native.Mathlib.Numerals.{add-one}
use lib.ListN.{length, drop, get_or, length-append, drop_of_length-le}
use lib.Seq.{drop-cons}
use borrow.Author.Tests.{le-leb}
use Rattle.parser.specs.Told.{told}
use Rattle.parser.specs.declared.answer.Read.{Read}
use Rattle.kinds.specs.declared.answer.Kind.{Kind}
use Rattle.kinds.specs.declared.answer.Record.{Record}
use Rattle.text.specs.Text.{Puts}
use Rattle.text.proofs.Laws.{puts_nothing, then_puts}
use Rattle.reply.specs.Line.{Gives}
use Rattle.arriving.specs.declared.State.{State}
use Rattle.arriving.specs.Keeping.{started, stepped}
use Rattle.arriving.specs.Pieces.{accept}
use Rattle.arriving.proofs.Stands.{Stands, start_stands}
use Rattle.arriving.proofs.Laws.{step_stands, step_kind, answers_reads, ends_parses}
use Rattle.cuts.specs.Cuts.{pieces, end_of, After, SaysOf}
use Rattle.cuts.specs.Said.{SaysAnswer, SaysEnd}
use Rattle.cuts.proofs.Cutting.{parts, pieces_parts, bytes_in, parts_within}

module _ (kind : Kind) (s out₀ : List ℕ) (at₀ : ℕ) where
  -- all bytes so far, and all that was put; and the pieces that are left
  pub record Sofar (out : List ℕ) (state : State) (next : ℕ) (left : List (List ℕ)) : Type 0 where
    all : List ℕ
    put : List ℕ
    stands : Stands state all
    same : state.kind ≡ kind
    few : length all + bytes_in left ≤ 4294967295
    puts : Puts put out₀ at₀ out next
    goes : (t : List ℕ) → SaysOf kind all left t → SaysOf kind [] (pieces s) (put ++ t)

  pub begins : {state : State} → length s ≤ 200 → state ≡ started kind → Sofar out₀ state at₀ (parts s)
  begins short e = rw e record {
    all = [];
    put = [];
    stands = start_stands kind;
    same = refl;
    few = omega (arith, parts_within s);
    puts = puts_nothing out₀ at₀;
    goes = λ (t : List ℕ) (h : SaysOf kind [] (parts s) t). rw (pieces_parts s) h;
  }

  -- one piece more, and what is said behind it
  one_piece : {out out' piece : List ℕ} {next next' : ℕ} {state : State} {left : List (List ℕ)} → Sofar out state next (piece ∷ left)
      → Gives (SaysAnswer (stepped state piece).state) out next out' next' → Sofar out' (stepped state piece).state next' left
  one_piece {out} {out'} {piece} {next} {next'} {state} {left} a g = record {
    all = all;
    put = a.put ++ g.text;
    stands = stands;
    same = same;
    few = omega (arith, a.few, size);
    puts = then_puts a.puts g.puts;
    goes = λ (t : List ℕ) (h : SaysOf kind all left t).
        let said : After kind all (SaysOf kind all left) (g.text ++ t) = record {
          told = told read.answer;
          verdict = read.verdict;
          begins = rw same at (answers_reads (stepped state piece).state all stands read g.answer.answers);
          next = t;
          behind = h;
          says = ap (λ (x : List ℕ). x ++ t) g.answer.says;
        } in
        rw (append_assoc a.put g.text t) (a.goes (g.text ++ t) said);
  }
    where
      all : List ℕ
      all = a.all ++ piece

      size : length all ≡ length a.all + length piece
      size = length-append a.all piece

      whole : accept a.all piece ≡ all
      whole = rw (le-leb (length a.all + length piece) 4294967295 (omega (arith, a.few)))

      stands : Stands (stepped state piece).state all
      stands = rw whole at (step_stands state a.all piece a.stands)

      same : (stepped state piece).state.kind ≡ kind
      same = step_kind state piece ∙ a.same

      read : Read Record
      read = g.answer.read

  -- the piece is the next of them
  pub goes_on : {out out' piece : List ℕ} {n m next next' : ℕ} {state state' : State} (ps : List (List ℕ)) → Sofar out state next (drop n ps) → m ≡ n + 1
      → (n < length ps) × (piece ≡ get_or ps n piece) → state' ≡ (stepped state piece).state → Gives (SaysAnswer state') out next out' next' → Sofar out' state' next' (drop m ps)
  goes_on {out} {out'} {piece} {n} {m} {next} {next'} {state} {state'} ps a one turn step g =
      let left : drop n ps ≡ piece ∷ drop m ps = rw (one, add-one n) (drop-cons ps n piece turn.0 ∙ rw (← turn.1) refl) in
      rw step (one_piece (rw left at a) (rw step at g))

  pub ends : {out out' : List ℕ} {n next next' : ℕ} {state : State} (ps : List (List ℕ)) → Sofar out state next (drop n ps) → n ≡ length ps
      → Gives (SaysEnd state) out next out' next' → Gives (SaysOf kind [] (pieces s)) out₀ at₀ out' next'
  ends {out} {out'} {n} {next} {next'} {state} ps a done g =
      let x = g.answer in
      let whole = ends_parses state a.all a.stands x.whole x.ends in
      let last = (answers_reads state a.all a.stands x.last x.answers).answer in
      let said : g.text ≡ end_of kind a.all = rw (← a.same) (x.says ∙ rw (whole, last)) in
      record { text = a.put ++ g.text; answer = a.goes g.text (rw (drop_of_length-le ps {i = n} (omega arith)) said); puts = then_puts a.puts g.puts }
