-- A plain date, `T` and a plain time are what the rule reads.
use Prim.Native.Nat.{ℕ}
use mathlib.Core.List.{List}
use mathlib.Core.Bool.{false}
use mathlib.Core.Path.{◌≡◌, refl}
use native.Mathlib.Omega.{arith}
use lib.ListN.{length, get_or}
use lib.Dec.{ltb, eqb}
use borrow.Author.Tests.{ltb-false}
use Rattle.std.specs.declared.option.Option.{Option}
use Rattle.std.specs.declared.option.Option.TheVariants.{None, Some}
use Rattle.std.proofs.lemmas.Option.{none-some}
use Rattle.types.specs.declared.Choices.{Choices}
use Rattle.types.specs.declared.Date.{Date}
use Rattle.types.specs.declared.Time.{Time}
use Rattle.types.specs.declared.DateTime.{DateTime}
use Rattle.parser.specs.Reading.{got, lit, Says}
use Rattle.parser.specs.declared.Got.{Got}
use Rattle.parser.proofs.Says.{says_map, says_seq_got}
use Rattle.looks.proofs.Choices.{picked_first, picked_second}
use Rattle.looks.proofs.Two.{byte_says}
use Rattle.date.specs.Rules.{date}
use Rattle.date.proofs.plain.Laws.{plain_says}
use Rattle.time.specs.Rules.{base_time}
use Rattle.time.specs.Plain.{plain_at}
use Rattle.time.proofs.plain.Laws.{plain_base}
use Rattle.datetime.specs.Rules.{stamp, time_of, after_date, date_time}
use Rattle.datetime.specs.Plain.{date_of_stamp, stamp_of, plain_stamp}

module _ (c : Choices) (s : List ℕ) where
  both : (d : Date) (t : Got Time) → date_of_stamp s ≡ Some d → plain_at s 11 ≡ Some t → Says (date_time c) s 0 (got (stamp d t.value) t.next) t.more
  unfolding date_of_stamp date_time after_date time_of
  both d t e f =
      let a = picked_second (ltb (length s) 19) (none-some _) e in
      let b = picked_first (eqb (get_or s 10 0) 84) (none-some _) a.1 in
      says_seq_got date s 0 (after_date c) d 10 false _ t.more (plain_says s d b.1)
      (says_seq_got (lit 84) s 10 (λ _. time_of c d) tt 11 false _ t.more (byte_says s 10 84 (omega (arith, ltb-false (length s) 19 a.0)) b.0)
      (says_map (base_time c) s 11 (stamp d) _ t.more (plain_base c s 11 t f).says))

  pub stamp_says : (x : Got DateTime) → plain_stamp s ≡ Some x → Says (date_time c) s 0 (got x.value x.next) x.more
  stamp_says x e = go (plain_at s 11) (date_of_stamp s) refl refl e
    where
      go : (t : Option (Got Time)) (d : Option Date) → plain_at s 11 ≡ t → date_of_stamp s ≡ d → stamp_of t d ≡ Some x → Says (date_time c) s 0 (got x.value x.next) x.more
      go (Some t) (Some d) i j e = let y : record { value = stamp d t.value; next = t.next; more = t.more } ≡ x = cc in rw (← y) (both d t j i)
      go (Some t) None i j e = absurd (none-some _ e)
      go None d i j e = absurd (none-some _ e)
