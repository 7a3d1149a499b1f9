-- The state of a record that arrives in pieces: what each function makes of any state.
use Rattle.std.specs.Prelude.{ℕ, zero, suc, ◌+◌, ◌-◌, List, [], ◌∷◌, Bool, Result, ◌≡◌, length, get_or, take, set, replicate, ltb, leb, eqb}
use Rattle.std.specs.declared.result.Result.TheVariants.{Ok, Err}
use Rattle.parser.specs.Reading.{Found, no, got, stop, pick, or, and, within}
use Rattle.parser.specs.Digits.{is_digit}
use Rattle.parser.specs.Answer.{begun, ended, Judged}
use Rattle.parser.specs.Told.{told}
use Rattle.parser.specs.declared.answer.Read.{Read}
use Rattle.shortening.specs.Points.{is_point}
use Rattle.shortening.specs.Sides.{starts_zeros, has_sides}
use Rattle.kinds.specs.declared.answer.Kind.{Kind}
use Rattle.kinds.specs.declared.answer.Kind.TheVariants as kind
use Rattle.kinds.specs.declared.answer.Record.{Record}
use Rattle.kinds.specs.Kinds.{Answer, rule_of, bound}
use Rattle.arriving.specs.declared.State.{State}
use Rattle.arriving.specs.declared.TooLong.{TooLong}

-- What is dropped: the leading zeros of a duration's runs; elsewhere the fraction's digits past the tenth; of an interval, in each side what
-- its first byte says. The mark tells which, and what the kept bytes end in. Where zeros are dropped: 17, no digit (or nothing at all); 27, a 0
-- behind no digit; 16, any other digit. Where fraction digits are: 1 and as many as there are digits behind a comma or point, up to ten; 0,
-- none of these. Where a side of an interval begins: 32.
abbrev pub first_mark : Kind → ℕ
first_mark kind.Date = 0
first_mark (kind.Time c) = 0
first_mark kind.Offset = 0
first_mark (kind.Stamp c) = 0
first_mark kind.Duration = 17
first_mark (kind.Interval c) = 32

abbrev pub drops_zeros : ℕ → ℕ → Bool
drops_zeros m b = pick (eqb m 32) (starts_zeros b) (leb 16 m)

abbrev pub zero_mark : ℕ → ℕ → ℕ
zero_mark m b = pick (is_digit b) (pick (or (eqb m 17) (eqb m 27)) (pick (eqb b 48) 27 16) 16) 17

abbrev pub point_mark : ℕ → ℕ → ℕ
point_mark m b = pick (is_digit b) (pick (within 1 11 m) (pick (ltb m 11) (m + 1) 11) 0) (pick (is_point b) 1 0)

unfoldable pub next_mark : Bool → ℕ → ℕ → ℕ
next_mark sides m b = pick (and sides (eqb b 47)) 32 (pick (drops_zeros m b) (zero_mark m b) (point_mark m b))

-- the marks of a digit that the next digit is joined to
abbrev pub joinable : ℕ → Bool
joinable m = or (eqb m 11) (eqb m 27)

-- one digit for two, 0 where both are
abbrev pub joined : ℕ → ℕ → ℕ
joined last b = pick (eqb last 48) b last

-- The next byte: it is joined to the last kept one, or kept behind it, or, where 200 are kept, only counted.
abbrev pub joins_to : ℕ → ℕ → ℕ → Bool
joins_to mark n b = and (joinable mark) (and (ltb 0 n) (is_digit b))

abbrev pub joins : State → ℕ → Bool
joins st b = joins_to st.mark st.len b

abbrev pub counted : State → State
counted st = record { kind = st.kind; kept = st.kept; places = st.places; len = st.len; mark = st.mark; accepted = st.accepted + 1 }

abbrev pub kept_at : State → ℕ → ℕ → ℕ → ℕ → State
kept_at st at byte n m = record {
  kind = st.kind;
  kept = set st.kept at byte;
  places = set st.places at st.accepted;
  len = n;
  mark = m;
  accepted = st.accepted + 1;
}

unfoldable pub push_one : State → ℕ → State
push_one st b =
    let m = next_mark (has_sides st.kind) st.mark b in
    pick (ltb st.len 200)
    (pick (joins st b) (kept_at st (st.len - 1) (joined (get_or st.kept (st.len - 1) 0) b) st.len m) (kept_at st st.len b (st.len + 1) m))
    (counted st)

unfoldable pub pushes : State → List ℕ → State
pushes st [] = st
pushes st (b ∷ p) = pushes (push_one st b) p

-- how many zeros a list begins with
unfoldable pub zero_run : List ℕ → ℕ
zero_run [] = 0
zero_run (b ∷ p) = pick (eqb b 48) (suc (zero_run p)) 0

abbrev pub started : Kind → State
started k = record { kind = k; kept = replicate 200 0; places = replicate 200 0; len = 0; mark = first_mark k; accepted = 0 }

-- the next state and 0; or the same state and 6
pub record Stepped : Type 0 where
  pub state : State
  pub number : ℕ

abbrev pub step_number : Result Unit TooLong → ℕ
step_number (Ok u) = 0
step_number (Err e) = 6

-- "6, exactly when the accepted bytes would pass 4,294,967,295 in all; the state is unchanged"
abbrev pub stepped : State → List ℕ → Stepped
stepped st p = pick (leb (st.accepted + length p) 4294967295) (record { state = pushes st p; number = 0 }) (record { state = st; number = 6 })

-- the kept bytes
abbrev pub text_of : State → List ℕ
text_of st = take st.len st.kept

-- a place behind a kept byte, as a place in the input
abbrev pub carry : State → ℕ → ℕ
carry st zero = 0
carry st (suc n) = get_or st.places n 0 + 1

-- what is found, with its place moved
abbrev pub moved : {A : Type 0} → (ℕ → ℕ) → Found A → Found A
moved c no = no
moved c (stop r) = stop r
moved c (got a n) = got a (c n)

abbrev pub found_in : State → Found Record
found_in st = moved (carry st) ((rule_of st.kind).reads (text_of st) 0)

-- what is said of any state: the kept bytes' answer, its count carried over, and their verdict
pub record Answers (st : State) (r : Read Record) : Type 0 where
  pub answer : told r.answer ≡ begun (found_in st)
  pub verdict : Judged (bound st.kind) (rule_of st.kind) (text_of st) r.verdict

abbrev pub Ends : State → Answer → Type 0
Ends st a = told a ≡ ended st.accepted (found_in st)
