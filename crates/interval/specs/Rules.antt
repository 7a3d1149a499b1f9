-- Request W12's rule of intervals, sentence by sentence. `R` is byte 82, `/` byte 47.
use Rattle.std.specs.Prelude.{ℕ, eqb}
use Rattle.std.proofs.Math.Option.{Option, some, none}
use Rattle.types.specs.declared.Choices.{Choices}
use Rattle.types.specs.declared.DateTime.{DateTime}
use Rattle.types.specs.declared.Interval.{Interval}
use Rattle.types.specs.declared.IntervalRange.{IntervalRange}
use Rattle.types.specs.declared.IntervalRange.TheVariants as range
use Rattle.types.specs.declared.Repetitions.{Repetitions}
use Rattle.types.specs.declared.Repetitions.TheVariants.{Once, Unlimited, Times}
use Rattle.parser.specs.Reading.{Found, no, got, stop, Reader, lit, seq, opt, alt, map, pick}
use Rattle.parser.specs.Digits.{number, at_most, run_as}
use Rattle.datetime.specs.Rules.{date_time}
use Rattle.duration.specs.Rules.{duration}

-- "The digit run after that `R` keeps the limit 4,294,967,295, beyond it refusal 2 whatever follows"
abbrev pub repeat_limit : ℕ
repeat_limit = 4294967295

unfoldable pub repeat_run : Reader ℕ
repeat_run = run_as number (at_most repeat_limit) 2

-- "`R/` gives another record than no `R`": no `R`; `R` and no digits; `R` and digits
abbrev pub times_of : Option ℕ → Repetitions
times_of none = Unlimited
times_of (some n) = Times n

abbrev pub or_once : Option Repetitions → Repetitions
or_once none = Once
or_once (some r) = r

-- "{`R`, optional digits, `/`}"
abbrev pub slashed : Option ℕ → Reader Repetitions
slashed n = map (λ _. times_of n) (lit 47)

abbrev pub digits_and_slash : Reader Repetitions
digits_and_slash = seq (opt repeat_run) slashed

unfoldable pub repeated : Reader Repetitions
repeated = seq (lit 82) (λ _. digits_and_slash)

-- "with optionally {..} in front"
unfoldable pub repetitions : Reader Repetitions
repetitions = map or_once (opt repeated)

-- "any 2 ends the reading", and nothing else does. W5's no form behind hour 24 ends the reading of a date-time, with 1; here it fails, as every
-- no form does, and the next alternative is tried.
abbrev pub no_form_fails : {A : Type 0} → Found A → Found A
no_form_fails no = no
no_form_fails (stop r) = pick (eqb r 1) no (stop r)
no_form_fails (got a n) = got a n

unfoldable pub tried : {A : Type 0} → Reader A → Reader A
tried p = record { reads = λ s at. no_form_fails (p.reads s at); more = p.more }

-- "Full date-times on either side are our rule"
unfoldable pub stamp : Choices → Reader DateTime
stamp c = tried (date_time c)

-- two sides, and `/` between them
abbrev pub sides : {A B C : Type 0} → (A → B → C) → Reader A → Reader B → Reader C
sides f p q = seq p (λ a. seq (lit 47) (λ _. map (f a) q))

-- "Read a full date-time, `/`, another; or a duration, `/`, a date-time; or a date-time, `/`, a duration; or a duration alone; tried in that
-- order"
unfoldable pub closed : Choices → Reader IntervalRange
closed c = sides range.Closed (stamp c) (stamp c)

unfoldable pub closed_end : Choices → Reader IntervalRange
closed_end c = sides range.ClosedEnd duration (stamp c)

unfoldable pub closed_start : Choices → Reader IntervalRange
closed_start c = sides range.ClosedStart (stamp c) duration

unfoldable pub range_of : Choices → Reader IntervalRange
range_of c = alt (closed c) (alt (closed_end c) (alt (closed_start c) (map range.Open duration)))

abbrev pub interval_of : Repetitions → IntervalRange → Interval
interval_of r x = record { repetitions = r; range = x }

unfoldable pub interval_rule : Choices → Reader Interval
interval_rule c = seq repetitions (λ r. map (interval_of r) (range_of c))
