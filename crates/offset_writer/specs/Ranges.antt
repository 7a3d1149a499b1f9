-- The offsets that the code writes. `proofs/Laws.antt` shows that they are those that some reader gives, no more and no fewer.
use Rattle.std.specs.Prelude.{Bool, leb, nat_abs}
use Rattle.types.specs.declared.Offset.{Offset}
use Rattle.types.specs.Sums.{same_sign}
use Rattle.parser.specs.Reading.{and}

unfoldable pub offset_given : Offset → Bool
offset_given o = and (leb (nat_abs o.hours) 23) (and (leb (nat_abs o.minutes) 59) (same_sign o))
