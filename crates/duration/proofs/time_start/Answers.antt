-- By the byte that stands there.
use Rattle.std.proofs.Common.{refl}
use Rattle.duration.proofs.Looks.{starts_at_end, starts_here, starts_behind}
use Rattle.duration.proofs.time_start.Goals as goal
use Rattle.duration.proofs.time_start.Goals.{else-at-s-via-then-at-s+else-s-at-eq84, else-at-s-via-else-at-s}

pub returns-then-s-at-eq84 : goal.returns-then-s-at-eq84
returns-then-s-at-eq84 c =
    starts_behind c.args.s.now c.args.at _ _ c.if-at-s.true c.if-s-at-eq84.true c.requires refl c.first_look.ensures

pub returns : goal.returns
returns c = elim c.else-at-s.branch [ else-at-s-via-then-at-s+else-s-at-eq84 w ↦ starts_here c.args.s.now c.args.at _ _ w.if-at-s.true w.if-s-at-eq84.false c.requires refl refl | else-at-s-via-else-at-s w ↦ starts_at_end c.args.s.now c.args.at _ _ w.if-at-s.false c.requires refl refl ]
