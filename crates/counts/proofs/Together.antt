-- The twenty counts and the bad lines together are the lines: each line is counted at one place, or bad.
use Prim.Native.Nat.{ℕ, zero, suc, ◌+◌, ◌≤◌, ◌<◌}
use mathlib.Core.Bool.{Bool, true, false}
use mathlib.Core.List.{List, [], ◌∷◌}
use mathlib.Core.Option.{Option, some, none}
use mathlib.Core.Path.{◌≡◌, refl, ◌∙◌}
use native.Mathlib.Omega.{arith}
use Rattle.parser.specs.Reading.{pick}
use Rattle.kinds.specs.declared.answer.Kind.{Kind}
use Rattle.kinds.specs.declared.answer.Kind.TheVariants as kind
use Rattle.std.specs.declared.option.Option as std_option
use Rattle.std.specs.declared.option.Option.TheVariants.{None, Some}
use Rattle.kinds.specs.Far.{OfFive}
use Rattle.kinds.proofs.Laws.{four_answers}
use Rattle.kinds.proofs.Letters.{FiveOr, among_five_lem}
use Rattle.reply.specs.Line.{plain_head, question_in, plain_question, plain_text}
use Rattle.counts.specs.Counts.{row_of, Line, line_in, line_of, how_many, is_at, is_bad, list_of, row_in, table_of, total, in_all, MakeUp}
use Rattle.counts.proofs.Laws.{own_place, other_row, other_answer}

-- a line that is not bad has its place in the table
record Placed (x : Line) : Type 0 where
  row : x.row ≤ 4
  answer : x.told.number ≤ 3

PlacedOr : Option Line → Type 0
PlacedOr (some x) = Placed x
PlacedOr none = Unit {0}

row_small : (k : Kind) → OfFive k → row_of k ≤ 4
row_small kind.Date five = omega arith
row_small (kind.Time c) five = omega arith
row_small kind.Offset five = omega arith
row_small (kind.Stamp c) five = omega arith
row_small kind.Duration five = omega arith
row_small (kind.Interval c) five = absurd five

placed_in : (q : std_option.Option Kind) (s : List ℕ) → FiveOr q → PlacedOr (line_in q s)
unfolding PlacedOr
placed_in (Some k) s five = record { row = row_small k five; answer = four_answers k s }
placed_in None s five = tt

placed : (l : List ℕ) → PlacedOr (line_of l)
unfolding line_of
placed l = placed_in (plain_question l) (plain_text l) (among_five_lem (question_in plain_head l))

-- ---- a sum over places

abbrev one : Bool → ℕ
one true = 1
one false = 0

sum_none : (n : ℕ) (f : ℕ → ℕ) → ((i : ℕ) → i < n → f i ≡ 0) → total (list_of n f) ≡ 0
sum_none zero f h = refl
sum_none (suc n) f h = omega (arith, h 0 (omega arith), sum_none n (λ i. f (suc i)) (λ i e. h (suc i) (omega arith)))

-- one at one place, and nothing at the others
sum_one : (n k : ℕ) (f : ℕ → ℕ) → k < n → f k ≡ 1 → ((i : ℕ) → i < n → (i ≡ k → ⊥) → f i ≡ 0) → total (list_of n f) ≡ 1
sum_one zero k f h own other = absurd (omega arith)
sum_one (suc n) zero f h own other = omega (arith, own, sum_none n (λ i. f (suc i)) (λ i e. other (suc i) (omega arith) (λ c. omega arith)))
sum_one (suc n) (suc k) f h own other =
    omega (arith, other 0 (omega arith) (λ c. omega arith), sum_one n k (λ i. f (suc i)) (omega arith) own (λ i e d. other (suc i) (omega arith) (λ c. d (omega arith))))

sum_both : (n : ℕ) (f g h : ℕ → ℕ) → ((i : ℕ) → h i ≡ f i + g i) → total (list_of n h) ≡ total (list_of n f) + total (list_of n g)
sum_both zero f g h e = refl
sum_both (suc n) f g h e = omega (arith, e 0, sum_both n (λ i. f (suc i)) (λ i. g (suc i)) (λ i. h (suc i)) (λ i. e (suc i)))

rows_sum : (n : ℕ) (f : ℕ → List ℕ) → in_all (list_of n f) ≡ total (list_of n (λ i. total (f i)))
rows_sum zero f = refl
rows_sum (suc n) f = omega (arith, rows_sum n (λ i. f (suc i)))

-- ---- a line is counted once

-- how often a row counts a line, and all rows
abbrev times : ℕ → Option Line → ℕ
times i x = total (list_of 4 (λ j. one (is_at i j x)))

abbrev times_in_all : Option Line → ℕ
times_in_all x = total (list_of 5 (λ i. times i x)) + one (is_bad x)

own_times : (x : Line) → Placed x → times x.row (some x) ≡ 1
own_times x p = sum_one 4 x.told.number (λ j. one (is_at x.row j (some x))) (omega (arith, p.answer)) (rw (own_place x)) (λ j _ e. rw (other_answer x x.row j e))

other_times : (x : Line) (i : ℕ) → (i ≡ x.row → ⊥) → times i (some x) ≡ 0
other_times x i e = sum_none 4 (λ j. one (is_at i j (some x))) (λ j _. rw (other_row x i j e))

once : (x : Option Line) → PlacedOr x → times_in_all x ≡ 1
unfolding PlacedOr
once (some x) p = omega (arith, sum_one 5 x.row (λ i. times i (some x)) (omega (arith, p.row)) (own_times x p) (λ i _ e. other_times x i e))
once none p = refl

-- ---- and so each of some lines

many_cons : (f : Option Line → Bool) (l : List ℕ) (ls : List (List ℕ)) → how_many f (l ∷ ls) ≡ one (f (line_of l)) + how_many f ls
unfolding how_many
many_cons f l ls = go (f (line_of l))
  where
    go : (t : Bool) → pick t (1 + how_many f ls) (how_many f ls) ≡ one t + how_many f ls
    go true = refl
    go false = omega arith

row_cons : (i : ℕ) (l : List ℕ) (ls : List (List ℕ)) → total (row_in (l ∷ ls) i) ≡ times i (line_of l) + total (row_in ls i)
row_cons i l ls = sum_both 4 (λ j. one (is_at i j (line_of l))) (λ j. how_many (is_at i j) ls) (λ j. how_many (is_at i j) (l ∷ ls)) (λ j. many_cons (is_at i j) l ls)

rows_cons : (l : List ℕ) (ls : List (List ℕ)) → in_all (table_of (l ∷ ls)) ≡ total (list_of 5 (λ i. times i (line_of l))) + in_all (table_of ls)
rows_cons l ls = rows_sum 5 (row_in (l ∷ ls)) ∙ sum_both 5 (λ i. times i (line_of l)) (λ i. total (row_in ls i)) (λ i. total (row_in (l ∷ ls) i)) (λ i. row_cons i l ls) ∙ rw (rows_sum 5 (row_in ls))

pub together : (ls : List (List ℕ)) → MakeUp ls
unfolding how_many
together [] = refl
together (l ∷ ls) = step (together ls)
  where
    step : MakeUp ls → MakeUp (l ∷ ls)
    step h = omega (arith, rows_cons l ls, many_cons is_bad l ls, once (line_of l) (placed l))
