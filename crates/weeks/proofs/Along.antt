-- After some blocks what was handed over and what is left make the log, however it is cut.
use Prim.Native.Nat.{ℕ}
use mathlib.Core.List.{List, [], ◌++◌, append_assoc, append-nil}
use mathlib.Core.Path.{◌≡◌, sym, ap, subst, ◌∙◌}
use native.Mathlib.Omega.{arith}
use lib.ListN.{length}
use Rattle.std.proofs.lemmas.List.{nil_from_length}
use Rattle.text.specs.Text.{Puts}
use Rattle.lines.specs.Lines.{lines}
use Rattle.counts.specs.Counts.{table_of}
use Rattle.logs.specs.declared.Week.{Week}
use Rattle.logs.specs.Table.{log_text}
use Rattle.logs.specs.Log.{input, After, started, Steps, Finishes}
use Rattle.logs.proofs.Steps.{starts}

module _ (log : List ℕ) where
  pub record Along (kept : List ℕ) (table : List (List ℕ)) (week : Week) (rest : List ℕ) : Type 0 where
    pub handed : List ℕ
    pub after : After 256 handed table week kept
    pub size : length kept ≡ 256
    pub all : log ≡ handed ++ rest

  pub begins : {kept rest : List ℕ} {table : List (List ℕ)} {week : Week} → length kept ≡ 256 → table ≡ table_of [] → week ≡ started → rest ≡ log → Along kept table week rest
  begins {kept} size t w r = record { handed = []; after = rw (t, w) (starts 256 kept); size = size; all = sym r }

  pub goes_on : {kept kept' : List ℕ} {table table' : List (List ℕ)} {week r : Week} {rest block next : List ℕ} → Along kept table week rest → rest ≡ block ++ next
      → Steps week block table kept table' kept' r → Along kept' table' r next
  goes_on {block = block} {next} a cut s = record {
    handed = a.handed ++ block;
    after = (rw a.size at s.goes) (omega arith) a.handed a.after;
    size = s.size ∙ a.size;
    all = a.all ∙ rw (cut, append_assoc a.handed block next);
  }

  pub ends : {kept out out' rest : List ℕ} {table : List (List ℕ)} {week : Week} {n : ℕ} → Along kept table week rest → length rest ≡ 0 → Finishes week table kept out out' n → Puts (log_text (lines (input log))) out 0 out' n
  ends {out = out} {out'} {rest} {n = n} a none f =
      let whole : a.handed ≡ log = sym (a.all ∙ rw (nil_from_length rest none, append-nil a.handed)) in
      let says = rw a.size at f.says in
      let text = says (omega arith) a.handed a.after ∙ ap (λ (handed : List ℕ). log_text (lines (input handed))) whole in
      subst (λ (t : List ℕ). Puts t out 0 out' n) text f.puts
