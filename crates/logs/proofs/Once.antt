-- For bytes so far that agree with the state, what a step leaves is fixed, and what `finish` puts is fixed for every state. And the numbers that
-- are printed, but for the sum, make up the lines.
use Prim.Native.Nat.{ℕ, ◌≤◌}
use mathlib.Core.List.{List}
use mathlib.Core.Path.{◌≡◌, sym, ap, ◌∙◌}
use lib.ListN.{length, take}
use Rattle.text.specs.Text.{Output, output}
use Rattle.lines.specs.Lines.{lines}
use Rattle.counts.specs.Counts.{MakeUp}
use Rattle.counts.proofs.Together.{together}
use Rattle.logs.specs.declared.Week.{Week}
use Rattle.logs.specs.Log.{input, After, Steps, Finishes}

-- the same but for what stands in the buffer behind what is held
pub record Same (table table' : List (List ℕ)) (r q : Week) (kept kept' : List ℕ) : Type 0 where
  pub counts : table ≡ table'
  pub bad : r.bad ≡ q.bad
  pub sum : r.tally.sum ≡ q.tally.sum
  pub taken : r.taken ≡ q.taken
  pub held : take r.held kept ≡ take q.held kept'

pub step_once : {w : Week} {block kept : List ℕ} {table : List (List ℕ)} (handed : List ℕ) → 205 ≤ length kept → After (length kept) handed table w kept
    → {t t' : List (List ℕ)} {k k' : List ℕ} {r q : Week} → Steps w block table kept t k r → Steps w block table kept t' k' q → Same t t' r q k k'
step_once handed long a s p =
    let x = s.goes long handed a in
    let y = p.goes long handed a in
    record {
      counts = x.sofar.comes.counts ∙ sym y.sofar.comes.counts;
      bad = x.sofar.comes.bad ∙ sym y.sofar.comes.bad;
      sum = x.sofar.comes.sum ∙ sym y.sofar.comes.sum;
      taken = x.taken ∙ sym y.taken;
      held = x.sofar.holds ∙ sym y.sofar.holds;
    }

pub finish_once : {w : Week} {table : List (List ℕ)} {kept out out₁ out₂ : List ℕ} {n m : ℕ} → Finishes w table kept out out₁ n → Finishes w table kept out out₂ m → (out₁ ≡ out₂) × (n ≡ m)
finish_once {out₁ = out₁} {out₂ = out₂} {n = n} {m = m} f g =
    let same : output out₁ n ≡ output out₂ m = f.puts.put ∙ sym g.puts.put in
    (ap Output.bytes same, ap Output.next same)

-- "The twenty counts and the bad lines together equal the lines in the input, as defined from its bytes."
pub all_lines : (handed : List ℕ) → MakeUp (lines (input handed))
all_lines handed = together (lines (input handed))
