-- The durations that some reader gives. `proofs/Laws.antt` shows that they are those, no more and no fewer.
use Rattle.std.specs.Prelude.{Bool, leb, eqb}
use Rattle.types.specs.declared.Duration.{Duration}
use Rattle.parser.specs.Reading.{and}
use Rattle.parser.specs.Digits.{limit}

unfoldable pub duration_given : Duration → Bool
duration_given d =
    and (leb d.years limit)
    (and (leb d.months limit) (and (leb d.weeks limit) (and (leb d.days limit) (and (leb d.hours limit) (and (leb d.minutes limit) (leb d.seconds limit))))))

-- no time part is there, and so no `T`
abbrev pub timeless : Duration → Bool
timeless d = and (eqb d.hours 0) (and (eqb d.minutes 0) (eqb d.seconds 0))
