-- No two answers are told of one pair of texts, and a text is refused by 1 or 3 alone.
use Prim.Native.Nat.{ℕ}
use mathlib.Core.Bool.{Bool, true, false}
use mathlib.Core.List.{List}
use mathlib.Core.Logic.{◌⊎◌, inl, inr}
use mathlib.Core.Option.{Option, some, none}
use mathlib.Core.Path.{◌≡◌, refl, sym, ap, ◌∙◌}
use native.Mathlib.Omega.{arith}
use lib.Dec.{ltb}
use lib.ListN.{length}
use Rattle.std.specs.declared.result.Result.{Result}
use Rattle.std.specs.declared.result.Result.TheVariants.{Ok, Err}
use Rattle.types.specs.declared.Choices.{Choices}
use Rattle.types.specs.declared.DateTime.{DateTime}
use Rattle.types.specs.declared.Refusal.{Refusal}
use Rattle.types.proofs.Laws.{number_once}
use Rattle.parser.specs.Reading.{Found, no, got, stop, pick}
use Rattle.parser.specs.Answer.{recorded, refused, ended}
use Rattle.datetime.specs.Rules.{date_time}
use Rattle.datetime.proofs.Laws.{datetime_stops}
use Rattle.moments.specs.declared.Apart.{Apart}
use Rattle.moments.specs.declared.Fault.{Fault}
use Rattle.moments.specs.declared.Faulty.{Faulty}
use Rattle.moments.specs.declared.Fault.TheVariants.{Text}
use Rattle.moments.specs.Moments.{Moment, no_day, no_offset, at, moment_of, Between, apart_number}
use Rattle.moments.proofs.Once.{between_once}
use Rattle.gaps.specs.Gaps.{wholly, Refuses, OfTexts, Tells}

refuses_once : {n : ℕ} {which : Fault → Faulty} {q r : Result Apart Faulty} → Refuses n which q → Refuses n which r → q ≡ r
refuses_once {which} h k = h.is ∙ ap (λ (w : Refusal). Err (which (Text w))) (number_once h.why k.why (h.number ∙ sym k.number)) ∙ sym k.is

pub apart_once : (c : Choices) (s t : List ℕ) (q r : Result Apart Faulty) → Tells c s t q → Tells c s t r → q ≡ r
apart_once c s t q r h k = go (wholly c s).value (wholly c t).value h k
  where
    go : (x y : Option DateTime) → OfTexts x (wholly c s).number y (wholly c t).number q → OfTexts x (wholly c s).number y (wholly c t).number r → q ≡ r
    go none y h k = refuses_once h k
    go (some x) none h k = refuses_once h k
    go (some x) (some y) h k = between_once (moment_of x) (moment_of y) q r h k

-- "1 or 3": what the whole reader says of a text that is no date-time
pub one_or_three : (c : Choices) (s : List ℕ) → (wholly c s).value ≡ none → ((wholly c s).number ≡ 1) ⊎ ((wholly c s).number ≡ 3)
one_or_three c s e = go ((date_time c).reads s 0) refl e
  where
    left : (t : Bool) (x : DateTime) (n : ℕ) → (pick t (refused 3 n) (recorded x n)).value ≡ none → ((pick t (refused {A = DateTime} 3 n) (recorded x n)).number ≡ 1) ⊎ ((pick t (refused {A = DateTime} 3 n) (recorded x n)).number ≡ 3)
    left true x n e = inr refl
    left false x n e = let z : ◌≡◌ {A = ℕ} 0 1 = cc in absurd (omega arith)

    go : (f : Found DateTime) → (date_time c).reads s 0 ≡ f → (ended (length s) f).value ≡ none → ((ended (length s) f).number ≡ 1) ⊎ ((ended (length s) f).number ≡ 3)
    go no h e = inl refl
    go (stop r) h e = inl ((datetime_stops c).by s 0 r h)
    go (got x n) h e = left (ltb n (length s)) x n e

-- so an answer's number is 0, the text's 1 or 3, 8 or 9
pub data Number : ℕ → Type 0 where
  difference : Number 0
  no_form_lem : Number 1
  left_over : Number 3
  no_day_lem : Number 8
  no_offset_lem : Number 9

of_text : {n : ℕ} → (n ≡ 1) ⊎ (n ≡ 3) → Number n
of_text (inl e) = rw e no_form_lem
of_text (inr e) = rw e left_over

of_moments : (x y : Moment) (r : Result Apart Faulty) → Between x y r → Number (apart_number r)
of_moments no_day y r e = rw e no_day_lem
of_moments no_offset y r e = rw e no_offset_lem
of_moments (at s m) no_day r e = rw e no_day_lem
of_moments (at s m) no_offset r e = rw e no_offset_lem
of_moments (at s m) (at t n) (Ok d) e = difference
of_moments (at s m) (at t n) (Err f) e = absurd e

pub numbers : (c : Choices) (s t : List ℕ) (r : Result Apart Faulty) → Tells c s t r → Number (apart_number r)
numbers c s t r h = go (wholly c s).value (wholly c t).value refl refl h
  where
    go : (x y : Option DateTime) → (wholly c s).value ≡ x → (wholly c t).value ≡ y → OfTexts x (wholly c s).number y (wholly c t).number r → Number (apart_number r)
    go none y e f h = rw (h.is, h.number) (of_text (one_or_three c s e))
    go (some x) none e f h = rw (h.is, h.number) (of_text (one_or_three c t f))
    go (some x) (some y) e f h = of_moments (moment_of x) (moment_of y) r h
