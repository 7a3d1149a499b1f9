-- Durations are read back from their spelling, part by part: a part that isn't spelled is 0, and a zero duration has its zero seconds.
use Prim.Native.Nat.{ℕ}
use mathlib.Core.List.{List, [], ◌∷◌, ◌++◌, append_assoc, append-nil}
use mathlib.Core.Bool.{Bool, true, false}
use mathlib.Core.Option.{some, none}
use mathlib.Core.Path.{◌≡◌, refl}
use native.Mathlib.Omega.{arith}
use borrow.Author.Tests.{eqb-true}
use lib.Dec.{eqb}
use lib.ListN.{length}
use Rattle.std.specs.Prelude.{Some}
use Rattle.types.specs.declared.Duration.{Duration}
use Rattle.types.specs.Sums.{is_zero}
use Rattle.parser.specs.Reading.{Reader, lit, seq, opt, verify, give, and, or, pick}
use Rattle.parser.proofs.Fields.{and_first, and_second}
use Rattle.duration.specs.declared.DurationTimeParts.{DurationTimeParts}
use Rattle.duration.specs.Rules.{part, present, TimeParts, some_time, time_of, duration_base_time, duration_time, Parts, parts_rule, some_part, time_or_zero, duration_of, duration}
use Rattle.text.specs.Text.{decimal_of}
use Rattle.writing.specs.Spelling.{part_spelling, behind_t, date_parts, time_parts, duration_spelling}
use Rattle.writing.proofs.Texts.{ReadAs, Refuses, lit_reads, lit_refuses_end, seq_reads, seq_refuses_behind, map_reads, map_refuses, verify_reads, opt_reads, opt_lacks, give_reads, whole}
use Rattle.writing.proofs.Digits.{begins}
use Rattle.writing.specs.Writing.{Measures}
use Rattle.writing.proofs.Laws.{Spells, some_measures}
use Rattle.duration_writer.specs.Ranges.{duration_given, timeless}
use Rattle.duration_writer.proofs.Sizes.{behind_t_lem}
use Rattle.duration_writer.proofs.Within.{Within, given_within, within_given, duration_yields}
use Rattle.duration_writer.proofs.Parts.{kept, kept_is, none_here, spelled_reads, other_refuses, past, then_reads}

-- ---- what is there of the parts

-- one of two is there: the first where it isn't 0
one_there : {A : Type 0} (zero : Bool) (v : A) {none-else else : Bool} → (none-else ≡ false → else ≡ true) → and zero none-else ≡ false → or (present (pick zero none (some v))) else ≡ true
one_there true v f e = f e
one_there false v f e = refl

there : {A : Type 0} (zero : Bool) (v : A) → zero ≡ false → present (pick zero none (some v)) ≡ true
there zero v e = rw e

-- ---- the time

abbrev time_kept : Duration → TimeParts
time_kept d = record { hours = kept d.hours; minutes = kept d.minutes; seconds = kept d.seconds }

abbrev time_is : Duration → DurationTimeParts
time_is d = record { hours = d.hours; minutes = d.minutes; seconds = d.seconds }

abbrev time_rule : Reader TimeParts
time_rule = seq (opt (part 72)) (λ h. seq (opt (part 77)) (λ m. seq (opt (part 83)) (λ s. give (record { hours = h; minutes = m; seconds = s }))))

times_read : (d : Duration) → Within d → ReadAs time_rule (time_parts d) [] (time_kept d)
unfolding time_parts
times_read d w =
    let text : time_parts d ≡ part_spelling d.hours 72 ++ (part_spelling d.minutes 77 ++ (part_spelling d.seconds 83 ++ [])) = simp (append_assoc, append-nil) in
    rw text
    (then_reads 72 _ d.hours refl w.hours (past 72 77 d.minutes refl refl w.minutes (past 72 83 d.seconds refl refl w.seconds (none_here 72 refl)))
    (then_reads 77 _ d.minutes refl w.minutes (past 77 83 d.seconds refl refl w.seconds (none_here 77 refl))
    (then_reads 83 _ d.seconds refl w.seconds (none_here 83 refl) (give_reads _ []))))

base_reads : (d : Duration) → Within d → timeless d ≡ false → ReadAs duration_base_time (time_parts d) [] (time_is d)
unfolding duration_base_time
base_reads d w e =
    let some = one_there (eqb d.hours 0) d.hours (one_there (eqb d.minutes 0) d.minutes (there (eqb d.seconds 0) d.seconds)) e in
    rw (kept_is d.hours, kept_is d.minutes, kept_is d.seconds) at (map_reads time_of (verify_reads some_time some (times_read d w)))

-- what does not pass the test
verify_fails : {A : Type 0} {p : Reader A} (f : A → Bool) {t x : List ℕ} {v : A} → f v ≡ false → ReadAs p t x v → Refuses (verify f p) (t ++ x)
unfolding verify
verify_fails f e h = record { finds = λ a. rw (h.reads a, e) }

nothing_reads : ReadAs time_rule [] [] (record { hours = none; minutes = none; seconds = none })
nothing_reads = seq_reads _ (opt_lacks (none_here 72 refl)) (seq_reads _ (opt_lacks (none_here 77 refl)) (seq_reads _ (opt_lacks (none_here 83 refl)) (give_reads _ [])))

no_time : Refuses duration_time []
unfolding duration_time duration_base_time
no_time = seq_refuses_behind _ (opt_lacks (lit_refuses_end 84)) (map_refuses _ (verify_fails some_time refl nothing_reads))

time_reads_lem : (d : Duration) → Within d → ReadAs (opt duration_time) (behind_t (time_parts d)) [] (pick (timeless d) none (some (time_is d)))
unfolding duration_time
time_reads_lem d w = rw (behind_t_lem d) (go (timeless d) refl)
  where
    go : (t : Bool) → timeless d ≡ t → ReadAs (opt duration_time) (pick t [] (84 ∷ time_parts d)) [] (pick t none (some (time_is d)))
    go true e = opt_lacks no_time
    go false e = opt_reads (seq_reads _ (opt_reads (lit_reads 84 _)) (base_reads d w e))

-- ---- all of it

abbrev parts_kept : Duration → Parts
parts_kept d = record { years = kept d.years; months = kept d.months; weeks = kept d.weeks; days = kept d.days; time = pick (timeless d) none (some (time_is d)) }

no_digit : (t : List ℕ) → begins (behind_t t ++ []) ≡ false
no_digit [] = refl
no_digit (b ∷ t) = refl

parts_read : (d : Duration) → Within d → ReadAs parts_rule (date_parts d ++ behind_t (time_parts d)) [] (parts_kept d)
unfolding parts_rule date_parts
parts_read d w =
    let time = behind_t (time_parts d) ++ [] in
    let o : begins time ≡ false = no_digit (time_parts d) in
    let text : date_parts d ++ behind_t (time_parts d) ≡ part_spelling d.years 89 ++ (part_spelling d.months 77 ++ (part_spelling d.weeks 87 ++ (part_spelling d.days 68 ++ time))) = simp (append_assoc, append-nil) in
    rw text
    (then_reads 89 _ d.years refl w.years (past 89 77 d.months refl refl w.months (past 89 87 d.weeks refl refl w.weeks (past 89 68 d.days refl refl w.days (none_here 89 o))))
    (then_reads 77 _ d.months refl w.months (past 77 87 d.weeks refl refl w.weeks (past 77 68 d.days refl refl w.days (none_here 77 o)))
    (then_reads 87 _ d.weeks refl w.weeks (past 87 68 d.days refl refl w.days (none_here 87 o))
    (then_reads 68 _ d.days refl w.days (none_here 68 o)
    (seq_reads _ (time_reads_lem d w) (give_reads _ []))))))

first_zero : (n : ℕ) (b : Bool) → and (eqb n 0) b ≡ true → n ≡ 0
first_zero n b e = eqb-true n 0 (and_first (eqb n 0) b e)

-- where no time is read, it is 0
time_back : (h m s : ℕ) (t : Bool) → and (eqb h 0) (and (eqb m 0) (eqb s 0)) ≡ t
    → time_or_zero (pick t none (some (record { hours = h; minutes = m; seconds = s }))) ≡ record { hours = h; minutes = m; seconds = s }
time_back h m s true e =
    let f = and_second (eqb h 0) e in
    rw (first_zero h _ e, first_zero m _ f, eqb-true s 0 (and_second (eqb m 0) f))
time_back h m s false e = refl

kept_back : (d : Duration) → duration_of (parts_kept d) ≡ d
kept_back d = rw (kept_is d.years, kept_is d.months, kept_is d.weeks, kept_is d.days, time_back d.hours d.minutes d.seconds (timeless d) refl)

some_reads : (d : Duration) → Within d → is_zero d ≡ false → ReadAs duration (80 ∷ date_parts d ++ behind_t (time_parts d)) [] d
unfolding duration is_zero
some_reads d w e =
    let some =
    one_there (eqb d.years 0) d.years
    (one_there (eqb d.months 0) d.months (one_there (eqb d.weeks 0) d.weeks (one_there (eqb d.days 0) d.days (there (timeless d) (time_is d))))) e in
    let all : ReadAs (seq (lit 80) (λ _. parts_rule)) (80 ∷ date_parts d ++ behind_t (time_parts d)) [] (parts_kept d) = seq_reads _ (lit_reads 80 _) (parts_read d w) in
    rw (kept_back d) at (map_reads duration_of (verify_reads some_part some all))

-- ---- where all parts are 0

abbrev zeros : Duration
zeros = record { years = 0; months = 0; weeks = 0; days = 0; hours = 0; minutes = 0; seconds = 0 }

zero_time_reads : ReadAs duration_base_time (48 ∷ 83 ∷ []) [] (time_is zeros)
unfolding duration_base_time decimal_of
zero_time_reads =
    map_reads time_of
    (verify_reads some_time refl
    (seq_reads _ (opt_lacks (other_refuses 72 83 0 [] refl refl (omega arith)))
    (seq_reads _ (opt_lacks (other_refuses 77 83 0 [] refl refl (omega arith)))
    (seq_reads _ (opt_reads (spelled_reads 83 0 [] refl (omega arith))) (give_reads _ [])))))

zero_reads : ReadAs duration (80 ∷ 84 ∷ 48 ∷ 83 ∷ []) [] zeros
unfolding duration parts_rule duration_time
zero_reads =
    map_reads duration_of
    (verify_reads some_part refl
    (seq_reads _ (lit_reads 80 _)
    (seq_reads _ (opt_lacks (none_here 89 refl)) (seq_reads _ (opt_lacks (none_here 77 refl)) (seq_reads _ (opt_lacks (none_here 87 refl)) (seq_reads _ (opt_lacks (none_here 68 refl))
    (seq_reads _ (opt_reads (seq_reads _ (opt_reads (lit_reads 84 _)) zero_time_reads)) (give_reads _ []))))))))

zeros_only : (y mo w d h m s : ℕ) → is_zero (record { years = y; months = mo; weeks = w; days = d; hours = h; minutes = m; seconds = s }) ≡ true
    → zeros ≡ record { years = y; months = mo; weeks = w; days = d; hours = h; minutes = m; seconds = s }
unfolding is_zero
zeros_only y mo w d h m s e =
    let f = and_second (eqb y 0) e in
    let g = and_second (eqb mo 0) f in
    let i = and_second (eqb w 0) g in
    let j = and_second (eqb d 0) i in
    let k = and_second (eqb h 0) j in
    rw (first_zero y _ e, first_zero mo _ f, first_zero w _ g, first_zero d _ i, first_zero h _ j, first_zero m _ k, eqb-true s 0 (and_second (eqb m 0) k))

-- ---- so a duration is read back, wherever it stands

pub duration_reads_lem : (d : Duration) → duration_given d ≡ true → ReadAs duration (duration_spelling d) [] d
unfolding duration_spelling
duration_reads_lem d g = go (is_zero d) refl
  where
    go : (t : Bool) → is_zero d ≡ t → ReadAs duration (pick t (80 ∷ 84 ∷ 48 ∷ 83 ∷ []) (80 ∷ date_parts d ++ behind_t (time_parts d))) [] d
    go true e = rw (zeros_only d.years d.months d.weeks d.days d.hours d.minutes d.seconds e) at zero_reads
    go false e = some_reads d (given_within d g) e

pub duration_spells : Spells duration duration_spelling duration_given
duration_spells = record { back = λ d g. whole (duration_reads_lem d g); ranges = λ d r. duration_yields.fact r.bytes 0 d r.count r.reads }

-- a number of 64 bits is within the limit, so that some reader gives every record
pub duration_measures : (d : Duration) {n : ℕ} → Within d → n ≡ length (duration_spelling d) → Measures duration d (duration_spelling d) (Some n)
duration_measures d w e = some_measures duration_spells d (within_given d w) e
