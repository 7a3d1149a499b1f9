-- The code's answers as the paper's: its number, the record if there is one, and the count.
use Rattle.std.specs.Prelude.{Result}
use Rattle.std.specs.declared.result.Result.TheVariants.{Ok, Err}
use Rattle.types.specs.Numbers.{number_of}
use Rattle.types.specs.declared.Refusal.{Refusal}
use Rattle.types.specs.declared.Refusal.TheVariants.{NoForm}
use Rattle.parser.specs.Answer.{Told, recorded, refused}
use Rattle.parser.specs.declared.Miss.{Miss}
use Rattle.parser.specs.declared.Miss.TheVariants as miss
use Rattle.parser.specs.declared.answer.Counted.{Counted}
use Rattle.parser.specs.declared.answer.Refused.{Refused}

abbrev pub told : {A : Type 0} → Result (Counted A) Refused → Told A
told (Ok r) = recorded r.value r.count
told (Err e) = refused (number_of e.why) e.count

-- why bytes at whose beginning nothing was read are no record
abbrev pub refusal_of : Miss → Refusal
refusal_of (miss.Stopped why) = why
refusal_of miss.Wrong = NoForm
refusal_of miss.Cut = NoForm
