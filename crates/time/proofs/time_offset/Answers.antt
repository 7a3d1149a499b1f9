-- The offset is there or left out.
use Prim.Native.Nat.{ℕ}
use mathlib.Core.List.{List}
use mathlib.Core.Bool.{Bool}
use mathlib.Core.Option.{Option, some, none}
use mathlib.Core.Path.{sym}
use Rattle.types.specs.Numbers.{number_of}
use Rattle.types.specs.declared.Offset.{Offset}
use Rattle.parser.specs.Reading.{Says, SaysOn, got, opt, or}
use Rattle.parser.specs.Read.{missed, cut}
use Rattle.parser.specs.declared.Miss.{Miss}
use Rattle.parser.specs.declared.Miss.TheVariants as miss
use Rattle.parser.proofs.Says.{says_opt, says_on, says_map}
use Rattle.offset.specs.Rules.{offset}
use Rattle.offset.proofs.Laws.{offset_unstopped}
use Rattle.time.specs.declared.Clock.{Clock}
use Rattle.time.specs.Rules.{time_of, time_offset}
use Rattle.time.proofs.time_offset.Goals.{in-Ok, in-Err}
use Rattle.time.proofs.time_offset.Goals as goal

module _ (s : List ℕ) (at : ℕ) where
  made : (h : ℕ) (k : Clock) (b : Bool) (o : Option Offset) (n : ℕ) (l : Bool) → Says (opt offset) s at (got o n) l → SaysOn b (time_offset h k) s at (got (time_of h k o) n) (or b l)
  unfolding time_offset
  made h k b o n l x = says_on (time_offset h k) s at _ b l (says_map (opt offset) s at (time_of h k) (got o n) l x)

  -- no offset stops the reading
  left_out : (m : Miss) → Says offset s at (missed m) (cut m) → Says (opt offset) s at (got none at) (cut m)
  left_out miss.Wrong h = says_opt offset s at _ _ h
  left_out miss.Cut h = says_opt offset s at _ _ h
  left_out (miss.Stopped why) h = absurd (offset_unstopped.by s at (number_of why) (sym h.found))

pub returns : goal.returns
returns c =
    let a = c.args in
    let k = a.clock in
    elim c.match-offset_at.branch [
      | in-Ok w ↦ rw (c.time_of.ensures, c.either_open.ensures, w.offset-is) (made a.s.now k.next a.hour k.value k.more (some w.in-Ok.offset.value) _ _ (says_opt offset a.s.now k.next _ _ w.in-Ok.ensures))
      | in-Err w ↦ rw (c.time_of.ensures, c.either_open.ensures, w.offset-is, w.is_cut.ensures) (made a.s.now k.next a.hour k.value k.more none _ _ (left_out a.s.now k.next _ w.in-Err.ensures))
    ]
