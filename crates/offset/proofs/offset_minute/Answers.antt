-- The optional minute's verdict stays, whether minus zero is refused or not.
use Prim.Native.Nat.{ℕ, ◌≤◌}
use mathlib.Core.List.{List}
use mathlib.Core.Bool.{Bool, true, false}
use mathlib.Core.Option.{Option, some, none}
use mathlib.Core.Path.{◌≡◌, refl, sym, ◌∙◌}
use native.Mathlib.Omega.{arith}
use Rattle.std.specs.declared.result.Result.{Result}
use Rattle.types.specs.declared.Offset.{Offset}
use Rattle.types.specs.Sums.{signed_offset}
use Rattle.parser.specs.Reading.{Found, Says, got, no, stop, pick, opt, lack, verify, map_found}
use Rattle.parser.specs.Fields.{minute, preceded_by, or_zero}
use Rattle.parser.specs.Read.{got_found, got_more, or_value}
use Rattle.parser.specs.declared.Miss.{Miss}
use Rattle.parser.specs.declared.Got.{Got}
use Rattle.parser.proofs.Leaves.{preceded_within}
use Rattle.parser.proofs.Places.{stop≢got}
use Rattle.parser.proofs.Says.{says_map, says_verify}
use Rattle.offset.specs.Rules.{offset_minute, allowed}
use Rattle.parser.proofs.Passed.{passed_got, says_map_missed, says_verify_missed, says_opt_missed, says_opt_got}
use Rattle.offset.proofs.offset_minute.Goals as goal

-- a number or 0 is in the number's range
or_zero_within : (hi at : ℕ) (f : Found ℕ) → ((v n : ℕ) → f ≡ got v n → v ≤ hi) → (a n : ℕ) → got a n ≡ map_found (or_value 0) (lack at f) → a ≤ hi
or_zero_within hi at no h a n e = let i : 0 ≡ a = cc in omega (arith, i)
or_zero_within hi at (stop r) h a n e = absurd (stop≢got (sym e))
or_zero_within hi at (got v k) h a n e = let i : v ≡ a = cc in omega (arith, i, h v k refl)

or_zero_is : (o : Option ℕ) → or_value 0 o ≡ or_zero o
or_zero_is none = refl
or_zero_is (some n) = refl

module _ (minus : Bool) (h : ℕ) (s : List ℕ) (at : ℕ) where
  abbrev value : Option ℕ → Offset
  value o = signed_offset minus h (or_zero o)

  abbrev test : Option ℕ → Bool
  test o = allowed minus h (or_zero o)

  map_pick : (t : Bool) (o : Option ℕ) (n : ℕ) → map_found value (pick t (got o n) no) ≡ pick t (got (value o) n) no
  map_pick true o n = refl
  map_pick false o n = refl

  made : (o : Option ℕ) (n : ℕ) (m : Bool) (r : Result (Got Offset) Miss) → Says (opt (preceded_by 58 minute)) s at (got o n) m → got_found r ≡ pick (test o) (got (value o) n) no → got_more r ≡ m → Says (offset_minute minus h) s at (got_found r) (got_more r)
  unfolding offset_minute
  made o n m r k ef em =
      let kept = says_verify (opt (preceded_by 58 minute)) s at test (got o n) m k in
      let all = says_map (verify test (opt (preceded_by 58 minute))) s at value (pick (test o) (got o n) no) m kept in
      record { found = ef ∙ (sym (map_pick (test o) o n) ∙ all.found); more = em ∙ all.more }

pub returns-in_err-minute : goal.returns-in_err-minute
unfolding offset_minute
returns-in_err-minute c =
    let a = c.args in
    let e = c.in_err-minute.ensures in
    let p = preceded_by 58 minute in
    let missed = says_opt_missed p a.s.now a.at 0 _ _ c.after_colon.ensures _ e.found e.more in
    passed_got _ _ c.from_residual.ensures.1
    (says_map_missed (verify (test a.minus a.hour a.s.now a.at) (opt p)) a.s.now a.at (value a.minus a.hour a.s.now a.at) _
    (says_verify_missed (opt p) a.s.now a.at (test a.minus a.hour a.s.now a.at) _ missed))

pub signed_offset-requires : goal.signed_offset-requires
signed_offset-requires c =
    let x = c.after_colon.ensures in
    (c.requires, or_zero_within 59 _ _ (λ v n e. (preceded_within 58 2 0 59 _ _ v n (sym (sym e ∙ x.found))).1) _ _ c.in_ok-minute.ensures.found)

pub returns : goal.returns
returns c =
    let a = c.args in
    let e = c.in_ok-minute.ensures in
    let part = says_opt_got (preceded_by 58 minute) a.s.now a.at 0 _ _ c.after_colon.ensures _ _ _ e.found e.more in
    let same = sym (or_zero_is part.item) ∙ part.value in
    made a.minus a.hour a.s.now a.at part.item _ _ c.signed_offset.result part.says (rw same c.signed_offset.ensures.found) c.signed_offset.ensures.more
