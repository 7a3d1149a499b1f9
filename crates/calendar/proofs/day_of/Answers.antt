-- By the form of the date.
use borrow.Author.Rules.{rules}
use mir.Syntax.{w32}
use mir.Val.{SFits}
use mir.Facts.{to_z-of_z}
use Rattle.calendar.proofs.day_of.Goals as goal

pub returns-in-YMD : goal.returns-in-YMD
returns-in-YMD c =
    let fits : SFits w32 c.in-YMD.year = search rules in
    rw c.in-YMD.is (rw (to_z-of_z fits) at c.calendar_day.ensures)
