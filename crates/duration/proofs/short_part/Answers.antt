-- One digit or two, by the letter behind them; else the part is not there.
use Rattle.std.proofs.Common.{refl, arith}
use Rattle.parser.proofs.Fields.{digit_at, other_at}
use Rattle.duration.proofs.Looks.{look_one, look_two, digit_bytes, short_one, short_two, short_absent}
use Rattle.duration.proofs.short_part.Goals as goal

pub returns-then-digit-le9 : goal.returns-then-digit-le9
returns-then-digit-le9 c =
    let a = c.args in
    let o = look_one a.s.now a.at a.look a.letter (omega arith) c.requires (omega arith) in
    let byte = c.type_inv.s a.at in
    short_one a.s.now a.at _ _ _ o (omega arith) (digit_at a.s.now a.at (omega (arith, o.room)) (omega (arith, byte)) (omega (arith, byte))) _ (omega (arith, byte)) refl c.look_at.ensures

pub returns-then-look-letter-2 : goal.returns-then-look-letter-2
returns-then-look-letter-2 c =
    let a = c.args in
    let t = look_two a.s.now a.at a.look a.letter (omega arith) c.requires (omega arith) in
    short_two a.s.now a.at _ _ _ t (omega arith) _ (omega (arith, (digit_bytes _ _ t.first).0, (digit_bytes _ _ t.second).0)) refl c.look_at-then-look-letter-2.ensures

pub returns-else-digit-le9 : goal.returns-else-digit-le9
returns-else-digit-le9 c =
    let a = c.args in
    let o = look_one a.s.now a.at a.look a.letter (omega arith) c.requires (omega arith) in
    let byte = c.type_inv.s a.at in
    short_absent a.s.now a.at _ _ _ c.requires (λ _. other_at a.s.now a.at (omega (arith, o.room)) (λ p q. omega (arith, byte))) (λ e. omega arith) (refl, refl)

pub returns-else-look-letter-2 : goal.returns-else-look-letter-2
returns-else-look-letter-2 c =
    short_absent c.args.s.now c.args.at _ _ _ c.requires (λ e. absurd (omega arith)) (λ e. omega arith) (refl, refl)
