-- No two answers meet one promise: the rule fixes number, record and count, and the continuations the verdict.
use Prim.Native.Nat.{ℕ}
use mathlib.Core.List.{List}
use mathlib.Core.Path.{◌≡◌, sym, ap, ap₂, ◌∙◌}
use Rattle.std.specs.Prelude.{Result}
use Rattle.std.specs.declared.result.Result.TheVariants.{Ok, Err}
use Rattle.types.specs.declared.Verdict.{Verdict}
use Rattle.types.specs.declared.Refusal.{Refusal}
use Rattle.types.proofs.Laws.{number_once}
use Rattle.parser.specs.Reading.{Reader}
use Rattle.parser.specs.Answer.{Begins, Ended}
use Rattle.parser.specs.Told.{told}
use Rattle.parser.specs.declared.answer.Counted.{Counted}
use Rattle.parser.specs.declared.answer.Refused.{Refused}
use Rattle.parser.specs.declared.answer.Read.{Read}
use Rattle.parser.proofs.Verdict.{begins_once, recorded_once, refused_once, recorded_or_refused}

pub told_once : {A : Type 0} (a b : Result (Counted A) Refused) → told a ≡ told b → a ≡ b
told_once (Ok r) (Ok q) e = let x = recorded_once e in ap Ok (ap₂ (λ v n. record { value = v; count = n }) x.0 x.1)
told_once (Ok r) (Err q) e = absurd (recorded_or_refused e)
told_once (Err r) (Ok q) e = absurd (recorded_or_refused (sym e))
told_once (Err r) (Err q) e =
    let x = refused_once _ _ r.count q.count e in
    ap Err (ap₂ (λ (why : Refusal) (n : ℕ). record { why = why; count = n }) (number_once r.why q.why x.0) x.1)

module _ {A : Type 0} (p : Reader A) (s : List ℕ) where
  pub read_once : (k : ℕ) (a b : Read A) → Begins k p s (told a.answer) a.verdict → Begins k p s (told b.answer) b.verdict → a ≡ b
  read_once k a b h g =
      let x = begins_once k p s _ _ _ _ h g in
      ap₂ (λ (t : Result (Counted A) Refused) (v : Verdict). record { answer = t; verdict = v }) (told_once a.answer b.answer x.0) x.1

  pub parsed_once : (a b : Result (Counted A) Refused) → Ended p s (told a) → Ended p s (told b) → a ≡ b
  parsed_once a b h g = told_once a b (h ∙ sym g)
