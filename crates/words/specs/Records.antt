-- The words of each record, and those in front of it.
use Rattle.std.specs.Prelude.{ℕ, Bool, true, false, List, [], ◌∷◌, ◌++◌}
use Rattle.types.specs.declared.Verdict.{Verdict}
use Rattle.types.specs.declared.Verdict.TheVariants.{Settled, Open}
use Rattle.types.specs.declared.Offset.{Offset}
use Rattle.std.specs.declared.option.Option.{Option}
use Rattle.std.specs.declared.option.Option.TheVariants.{None, Some}
use Rattle.types.specs.declared.Time.{Time}
use Rattle.types.specs.declared.Date.{Date}
use Rattle.types.specs.declared.Date.TheVariants.{YMD, Week, Ordinal}
use Rattle.types.specs.declared.Duration.{Duration}
use Rattle.types.specs.declared.Repetitions.{Repetitions}
use Rattle.types.specs.declared.Repetitions.TheVariants.{Once, Unlimited, Times}
use Rattle.types.specs.declared.IntervalRange.{IntervalRange}
use Rattle.types.specs.declared.IntervalRange.TheVariants as range
use Rattle.types.specs.declared.Interval.{Interval}
use Rattle.types.specs.Sums.{minutes_in_all, in_seconds}
use Rattle.words.specs.Words.{signed_word}
use Rattle.words.specs.declared.word.Name.TheVariants as name
use Rattle.words.specs.declared.word.Word.{Word}
use Rattle.words.specs.declared.word.Word.TheVariants.{Name as Named, Number, Joined, Digits, Nothing}

-- `settled`, `open`
abbrev pub verdict_word : Verdict → Word
verdict_word Settled = Named name.Settled
verdict_word Open = Named name.Open

-- a word that not every library has, where it is shown
abbrev pub shown_word : Bool → Word → Word
shown_word true w = w
shown_word false w = Nothing

-- `COUNT VERDICT W WCOUNT`
abbrev pub head_words : ℕ → Bool → Verdict → ℕ → ℕ → List Word
head_words n shown v w m = Number n ∷ shown_word shown (verdict_word v) ∷ Number w ∷ Number m ∷ []

-- `offset HOURS MINUTES TOTAL`
abbrev pub offset_words : Offset → List Word
offset_words o = Named name.Offset ∷ signed_word o.hours ∷ signed_word o.minutes ∷ signed_word (minutes_in_all o) ∷ []

-- `none`, or the signed minutes in all
abbrev pub time_offset_word : Option Offset → Word
time_offset_word None = Named name.None
time_offset_word (Some o) = signed_word (minutes_in_all o)

-- `time HOUR MINUTE SECOND NANO OFFSET DIGITS`
abbrev pub time_words : Bool → Time → List Word
time_words shown t =
    Named name.Time ∷ Number t.hour ∷ Number t.minute ∷ Number t.second ∷ Number t.nanosecond ∷ time_offset_word t.offset
    ∷ shown_word shown (Number t.digits) ∷ []

-- `ymd YEAR MONTH DAY`, `week YEAR WEEK DAY` or `ordinal YEAR DAY`
abbrev pub date_words : Date → List Word
date_words (YMD y m d) = Named name.Ymd ∷ signed_word y ∷ Number m ∷ Number d ∷ []
date_words (Week y w d) = Named name.Week ∷ signed_word y ∷ Number w ∷ Number d ∷ []
date_words (Ordinal y d) = Named name.Ordinal ∷ signed_word y ∷ Number d ∷ []

-- "`over` for SECONDS where the sum is refused"
abbrev pub seconds_word : Option ℕ → Word
seconds_word (Some n) = Number n
seconds_word None = Named name.Over

-- `duration Y MO W D H MI S SECONDS`
abbrev pub duration_words : Duration → List Word
duration_words v =
    Named name.Duration ∷ Number v.years ∷ Number v.months ∷ Number v.weeks ∷ Number v.days ∷ Number v.hours
    ∷ Number v.minutes ∷ Number v.seconds ∷ seconds_word (in_seconds v) ∷ []

-- `once`, `R` or `R5`
abbrev pub repeat_words : Repetitions → List Word
repeat_words Once = Named name.Once ∷ []
repeat_words Unlimited = Named name.Repeat ∷ []
repeat_words (Times n) = Named name.Repeat ∷ Digits n ∷ []

-- `stamp/stamp`, `duration/stamp`, `stamp/duration` or `duration`
abbrev pub shape_words : IntervalRange → List Word
shape_words (range.Closed a b) = Named name.Stamp ∷ Joined name.Slash ∷ Joined name.Stamp ∷ []
shape_words (range.ClosedEnd d b) = Named name.Duration ∷ Joined name.Slash ∷ Joined name.Stamp ∷ []
shape_words (range.ClosedStart a d) = Named name.Stamp ∷ Joined name.Slash ∷ Joined name.Duration ∷ []
shape_words (range.Open d) = Named name.Duration ∷ []

-- `interval REPEAT SHAPE`
abbrev pub interval_words : Interval → List Word
interval_words v = Named name.Interval ∷ repeat_words v.repetitions ++ shape_words v.range
