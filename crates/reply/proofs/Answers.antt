-- The answer to a text: what its kind's two readers tell, put as the number, the head and the record.
use Prim.Native.Nat.{ℕ}
use mathlib.Core.Bool.{Bool}
use mathlib.Core.List.{List, ◌++◌}
use mathlib.Core.Path.{◌≡◌}
use Rattle.types.specs.declared.Verdict.{Verdict}
use Rattle.parser.specs.Answer.{Begins, Ended}
use Rattle.kinds.specs.declared.answer.Kind.{Kind}
use Rattle.kinds.specs.declared.answer.Record.{Record}
use Rattle.kinds.specs.Kinds.{rule_of, bound}
use Rattle.parser.specs.Told.{told}
use Rattle.parser.specs.declared.answer.Counted.{Counted}
use Rattle.parser.specs.declared.answer.Refused.{Refused}
use Rattle.std.specs.declared.result.Result.{Result}
use Rattle.text.specs.Text.{Puts, decimal}
use Rattle.words.specs.Words.{text_of}
use Rattle.words.specs.Records.{head_words}
use Rattle.reply.specs.Line.{record_or_dash, Answered, Gives}
use Rattle.text.proofs.Laws.{then_puts}

module _ (shown : Bool) (k : Kind) (s : List ℕ) (begun whole : Result (Counted Record) Refused) (v : Verdict) where
  pub answered : Begins (bound k) (rule_of k) s (told begun) v → Ended (rule_of k) s (told whole)
      → {b n w m : ℕ} → b ≡ (told begun).number → n ≡ (told begun).count → w ≡ (told whole).number → m ≡ (told whole).count
      → {h r : List ℕ} → h ≡ text_of (head_words n shown v w m) → r ≡ text_of (record_or_dash shown (told begun).value)
      → {old mid end new : List ℕ} {at i j next : ℕ} → Puts (decimal b) old at mid i → Puts h mid i end j → Puts r end j new next
      → Gives (Answered shown k s) old at new next
  answered begins ends {b} {n} {w} {m} eb en ew em {h} {r} eh er first second third = record {
    text = decimal b ++ (h ++ r);
    answer = record { begun = told begun; verdict = v; whole = told whole; begins = begins; ends = ends; says = rw (eb, eh, er, en, ew, em) };
    puts = then_puts first (then_puts second third);
  }
