-- A block more is handed over behind the others; more than the input came where it did before, or does with this block.
use Prim.Native.Nat.{ℕ, ◌+◌, ◌-◌, ◌≤◌, min}
use mathlib.Core.Bool.{Bool, true, false}
use mathlib.Core.List.{List, [], ◌++◌}
use mathlib.Core.Path.{◌≡◌, refl, sym, ◌∙◌}
use native.Mathlib.Omega.{arith}
use lib.Dec.{ltb}
use lib.ListN.{length, take, length-append, length-take}
use borrow.Author.Tests.{lt-ltb, le-ltb, ltb-true, ltb-false}
use Rattle.parser.specs.Reading.{or}
use Rattle.counts.specs.Counts.{table_of}
use Rattle.logs.specs.declared.Week.{Week}
use Rattle.logs.specs.Log.{longest, started}
use Rattle.logs.proofs.Steps.{starts}
use Rattle.week.specs.declared.Progress.{Progress}
use Rattle.week.specs.Turns.{Took, Handed}

past_more : (m taken : ℕ) (handed block : List ℕ) → taken ≡ length (take m handed) → or (ltb m (length handed)) (ltb (m - min taken m) (length block)) ≡ ltb m (length (handed ++ block))
past_more m taken handed block here = go (ltb m (length handed)) refl
  where
    all : length (handed ++ block) ≡ length handed + length block
    all = length-append handed block

    go : (t : Bool) → ltb m (length handed) ≡ t → or t (ltb (m - min taken m) (length block)) ≡ ltb m (length (handed ++ block))
    go true e = sym (lt-ltb m (length (handed ++ block)) (omega (arith, all, ltb-true m (length handed) e)))
    go false e = more (ltb m (length (handed ++ block))) refl
      where
        left : m - min taken m ≡ m - length handed
        left = omega (arith, length-take m handed, here, ltb-false m (length handed) e)

        more : (t : Bool) → ltb m (length (handed ++ block)) ≡ t → ltb (m - min taken m) (length block) ≡ t
        more true f = lt-ltb (m - min taken m) (length block) (omega (arith, all, left, ltb-true m (length (handed ++ block)) f, ltb-false m (length handed) e))
        more false f = le-ltb (m - min taken m) (length block) (omega (arith, all, left, ltb-false m (length (handed ++ block)) f, ltb-false m (length handed) e))

pub begins : {kept : List ℕ} {table : List (List ℕ)} {w : Week} → table ≡ table_of [] → w ≡ started → Handed table kept (record { week = w; past = false })
begins {kept} t w = record { handed = []; after = rw (t, w) (starts (length kept) kept); passed = refl }

pub goes_on : {kept kept' : List ℕ} {table table' : List (List ℕ)} {p r : Progress} → 205 ≤ length kept → Handed table kept p → Took p table kept table' kept' r → Handed table' kept' r
goes_on long h t = record {
  handed = h.handed ++ t.block;
  after = rw t.steps.size (t.steps.goes long h.handed h.after);
  passed = t.passed ∙ rw h.passed (past_more longest _ h.handed t.block h.after.taken);
}
