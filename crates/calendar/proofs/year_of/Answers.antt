-- The years from the first are the calendar's.
use mathlib.Core.Path.{sym, ap, ◌∙◌}
use native.Mathlib.Omega.{arith}
use mir.Facts.{to_z-of_z}
use Rattle.calendar.specs.Calendar.{leap, new_year}
use Rattle.calendar.proofs.Integers.{◌⊖◌}
use Rattle.calendar.proofs.Lifted.{let_down}
use Rattle.calendar.proofs.Shifted.{leap_shifted, new_year_shifted}
use Rattle.calendar.proofs.Years.{by_quotients}
use Rattle.calendar.proofs.year_of.Goals as goal

pub returns : goal.returns
returns c =
    let y = c.args.year in
    let far = rw (to_z-of_z c.ranges.year) at c.from_the_first-years.ensures in
    let k = c.from_the_first-years.result in
    let days = c.days_of_years.ensures in
    let is = let_down y 2147484000 k (sym far.0) in
    record {
      first = ap new_year is ∙ new_year_shifted 5368710 k ∙ ap (λ n. n ⊖ 784352424870) (sym days);
      leaps = ap leap is ∙ leap_shifted 5368710 k ∙ sym c.is_leap.ensures;
      above = omega (arith, by_quotients k);
      below = omega (arith, by_quotients k);
    }
