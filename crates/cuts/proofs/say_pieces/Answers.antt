-- Each turn gives the state a piece and puts what is said of it, and behind the last piece stands what is said at the end.
use borrow.Author.Rules.{rules}
use borrow.Author.Tests.{tests}
use Rattle.std.proofs.lemmas.Iterator.Consumers.{YieldsList-turn, YieldsList-end}
use Rattle.std.proofs.lemmas.Iterator.Splits.{YieldsList-from_slice_split}
use Rattle.std.proofs.lemmas.List.{length_push}
use Rattle.cuts.proofs.Cutting.{is_bar, parts}
use Rattle.cuts.proofs.Sofar.{begins, goes_on, ends}
use Rattle.cuts.proofs.say_pieces.Goals as goal

pub loop-piece-init : goal.loop-piece-init
loop-piece-init c = begins _ _ _ _ c.requires c.start-state.ensures

pub loop-piece-preserved : goal.loop-piece-preserved
loop-piece-preserved c =
    let s = c.args.s.now in
    let road = YieldsList-from_slice_split _ is_bar s (cc) (cc) (cc) (λ x b q k. search (rules, tests)) in
    let turn = YieldsList-turn road c.loop-piece.yielded _ c.loop-piece.yielded_by _ _ c.in-Some.piece c.in-Some.is c.next.ensures.steps in
    goes_on _ _ _ _ (parts s) c.loop-piece.invariant (length_push c.loop-piece.yielded c.in-Some.piece) turn c.step.ensures.state c.put_answer-next.ensures

pub returns : goal.returns
returns c =
    let s = c.args.s.now in
    let road = YieldsList-from_slice_split _ is_bar s (cc) (cc) (cc) (λ x b q k. search (rules, tests)) in
    let last = YieldsList-end road c.loop-piece.yielded _ c.loop-piece.yielded_by _ _ c.in-None.is c.next.ensures.steps in
    ends _ _ _ _ (parts s) c.loop-piece.invariant last.1 c.put_end.ensures
