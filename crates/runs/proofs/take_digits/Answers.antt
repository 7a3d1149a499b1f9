-- The loop goes along the run. A number past the limit ends it early, since no digit brings it back.
use Rattle.std.proofs.Common.{◌≡◌, ℕ, ◌+◌, ◌-◌, ◌*◌, ◌<◌, ◌≤◌, Bool, true, false, ltb, List, length, get_or, drop, ap, refl, arith, rules, le-ltb, ltb-true, ltb-false}
use Rattle.std.specs.declared.result.Result.TheVariants.{Err}
use Rattle.std.proofs.lemmas.List.{get_or-drop, length-drop}
use Rattle.std.proofs.lemmas.Option.{MatchOption-at_none, MatchOption-at_some}
use Rattle.types.specs.declared.Refusal.TheVariants.{TooBig}
use Rattle.parser.specs.declared.Miss.TheVariants as miss
use Rattle.parser.specs.Digits.{number, limit}
use Rattle.parser.proofs.Runs.{run_other, run_end, end_is, end_is_not}
use Rattle.parser.specs.Read.{further}
use Rattle.runs.proofs.Along.{along_step, along_number, along_end, digit_byte, other_byte, ended, past}
use Rattle.runs.proofs.take_digits.Goals as goal

-- the byte that stands so far behind a place
record Ahead (s : List ℕ) (at taken b : ℕ) : Type 0 where
  pub inside : at + taken < length s
  pub is : b ≡ get_or s (at + taken) 0

ahead : (s xs : List ℕ) (at taken : ℕ) → xs ≡ drop at s → taken < length xs → Ahead s at taken (get_or xs taken 0)
ahead s xs at taken e h = record { inside = omega (arith, ap length e, length-drop at s); is = rw e (get_or-drop at s taken 0) }

-- a run that goes on to the end of the input ends there
to_the_end : {A : Type 0} (s xs : List ℕ) (at taken : ℕ) (v : A) → xs ≡ drop at s → length xs ≤ taken → taken ≤ length xs → further (ltb at (length s)) true v (length s) ≡ further (ltb at (at + taken)) true v (at + taken)
to_the_end s xs at taken v e h k = go (ltb at (length s)) refl
  where
    all : taken ≡ length s - at
    all = omega (arith, ap length e, length-drop at s)

    go : (t : Bool) → ltb at (length s) ≡ t → further t true v (length s) ≡ further (ltb at (at + taken)) true v (at + taken)
    go true i = let here : at + taken ≡ length s = omega (arith, all, ltb-true at (length s) i) in rw (here, i)
    go false i = let here : at + taken ≡ at = omega (arith, all, ltb-false at (length s) i) in rw (here, le-ltb at at (omega arith))

pub returns-then-not-is_ascii_digit : goal.returns-then-not-is_ascii_digit
returns-then-not-is_ascii_digit c =
    let s = c.args.s.now in
    let at = c.args.at in
    let l = c.loop-taken in
    let next = at + l.taken in
    let byte = ahead s c.leftover-b-items.result.now at l.taken c.leftover-b-items.ensures c.loop-taken-test.true in
    let e = run_other s next (other_byte s next _ byte.inside byte.is c.if-not-is_ascii_digit.ensures.cases) in
    rw c.further.ensures.is (ended number limit 2 s at l.value next l.invariant.0 l.value false l.invariant.1 e (end_is_not s at next (along_end s at l.value next l.invariant.0 e) byte.inside) (along_number s at l.value next l.invariant.0 e))

pub returns-in_err-value : goal.returns-in_err-value
returns-in_err-value c =
    let s = c.args.s.now in
    let at = c.args.at in
    let l = c.loop-taken in
    let next = at + l.taken in
    let byte = ahead s c.leftover-b-items.result.now at l.taken c.leftover-b-items.ensures c.loop-taken-test.true in
    let digit = digit_byte s next _ byte.inside byte.is c.if-not-is_ascii_digit.ensures.cases in
    let too_big : limit < l.value * 10 + c.from.result = MatchOption-at_none _ _ c.in_err-value.ensures.ok_part c.with_digit.ensures in
    let told : c.from_residual.result ≡ Err (miss.Stopped TooBig) = search rules in
    rw told (past number limit 2 s at l.value next l.invariant.0 digit (omega (arith, c.from.ensures, byte.is)))

pub loop-taken-preserved : goal.loop-taken-preserved
loop-taken-preserved c =
    let s = c.args.s.now in
    let at = c.args.at in
    let l = c.loop-taken in
    let next = at + l.taken in
    let byte = ahead s c.leftover-b-items.result.now at l.taken c.leftover-b-items.ensures c.loop-taken-test.true in
    let digit = digit_byte s next _ byte.inside byte.is c.if-not-is_ascii_digit.ensures.cases in
    let longer = MatchOption-at_some _ _ _ c.in_ok-value.ensures.ok_part c.with_digit.ensures in
    let value : c.in_ok-value.value ≡ l.value * 10 + (get_or s next 0 - 48) = omega (arith, longer.0, c.from.ensures, byte.is) in
    let then : at + (l.taken + 1) ≡ next + 1 = omega arith in
    (rw (then, value) (along_step s at l.value next l.invariant.0 digit), longer.1)

pub returns : goal.returns
returns c =
    let s = c.args.s.now in
    let at = c.args.at in
    let l = c.loop-taken in
    let next = at + l.taken in
    let left = c.leftover-b-items in
    let out : length s ≤ next = omega (arith, ap length left.ensures, length-drop at s) in
    let e = run_end s next out in
    rw (c.further-2.ensures.is, to_the_end s left.result.now at l.taken l.value left.ensures (omega arith) (omega arith)) (ended number limit 2 s at l.value next l.invariant.0 l.value true l.invariant.1 e (end_is s at next (along_end s at l.value next l.invariant.0 e) out) (along_number s at l.value next l.invariant.0 e))
