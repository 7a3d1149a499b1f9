-- Writing a date-time that was read gives back the text's own fraction, as writing its time does.
use Prim.Native.Nat.{ℕ}
use mathlib.Core.List.{List}
use mathlib.Core.Path.{◌≡◌}
use Rattle.types.specs.declared.Choices.{Choices}
use Rattle.types.specs.declared.DateTime.{DateTime}
use Rattle.parser.specs.Reading.{got, lit}
use Rattle.date.specs.Rules.{date}
use Rattle.time.specs.Rules.{base_time}
use Rattle.datetime.specs.Rules.{stamp, time_of, after_date, date_time}
use Rattle.writing.proofs.Yields.{seq_found, map_found_lem}
use Rattle.time_writer.proofs.Kept.{TextsOwn, base_own}

pub datetime_own : (c : Choices) (s : List ℕ) (at : ℕ) (x : DateTime) (n : ℕ) → (date_time c).reads s at ≡ got x n → TextsOwn c.reading s x.time
unfolding date_time after_date time_of
datetime_own c s at x n e =
    let d = seq_found date (after_date c) s at x n e in
    let t = seq_found (lit 84) (λ _. time_of c d.value) s d.place x n d.rest in
    let m = map_found_lem (stamp d.value) (base_time c) s t.place x n t.rest in
    rw (← m.is) (base_own c s t.place m.value n m.reads)
