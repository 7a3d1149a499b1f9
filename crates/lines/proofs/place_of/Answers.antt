-- `lines::place_of` meets its contract: the search runs over what stands from `at` on.
use Rattle.std.proofs.Common.{◌∙◌, refl, rules, tests, arith, eqb}
use Rattle.std.proofs.lemmas.Iterator.{YieldsList-from_slice}
use Rattle.std.proofs.lemmas.Iterator.Search.{position_from_yields_List}
use Rattle.lines.proofs.Ends.{place_found}
use Rattle.lines.proofs.place_of.Goals as goal

pub returns-in_err-place : goal.returns-in_err-place
returns-in_err-place c =
    let by_call = position_from_yields_List (λ b. eqb b c.args.byte) _ _ c.position.result c.position.ensures.ran (YieldsList-from_slice _ refl) (λ x b q k. search (rules, tests)) in
    let found = place_found _ _ c.args.at _ _ _ _ (omega arith) c.in_ok-get.ensures.lookup.0.2 c.iter.ensures.rest by_call in
    c.from_residual-in_err-place.ensures ∙ rw c.in_err-place.was at found

pub returns : goal.returns
returns c =
    let by_call = position_from_yields_List (λ b. eqb b c.args.byte) _ _ c.position.result c.position.ensures.ran (YieldsList-from_slice _ refl) (λ x b q k. search (rules, tests)) in
    rw c.in_ok-place.was at (place_found _ _ c.args.at _ _ _ _ (omega arith) c.in_ok-get.ensures.lookup.0.2 c.iter.ensures.rest by_call)
