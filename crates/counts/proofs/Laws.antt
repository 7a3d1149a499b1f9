-- A line more raises its count and no other, and adds its seconds.
use Prim.Native.Nat.{ℕ, zero, suc, ◌+◌, ◌-◌, ◌≤◌, ◌<◌}
use mathlib.Core.Bool.{Bool, true, false}
use mathlib.Core.List.{List, [], ◌∷◌, ◌++◌}
use mathlib.Core.Option.{Option, some, none}
use mathlib.Core.Path.{◌≡◌, refl, sym, ap, ap₂, ◌∙◌}
use native.Mathlib.Omega.{arith}
use lib.Dec.{leb, eqb, ltb}
use lib.ListN.{length, get_or, set, take, drop, length-drop}
use lib.Seq.{take_all}
use borrow.Author.Tests.{ltb-true, ltb-false, leb-true, leb-false, lt-ltb, eq-eqb, ne_eqb}
use Rattle.types.specs.Sums.{largest, sum_or_over}
use Rattle.std.specs.declared.option.Option.TheVariants.{None, Some}
use Rattle.parser.specs.Reading.{pick}
use Rattle.parser.proofs.Fields.{and_right}
use Rattle.kinds.specs.declared.answer.Kind.{Kind}
use Rattle.kinds.specs.Kinds.{among_five}
use Rattle.reply.specs.Line.{plain_head, plain_question}
use Rattle.reply.proofs.Asked.{said_clip}
use Rattle.counts.specs.Counts.{Line, line_in, line_of, how_many, is_at, is_bad, list_of, row_in, table_of, bad_of, adds, seconds_in_all, Passes}
use Rattle.counts.specs.Seen.{seen, more, raised_in, raised, counted, bad_counted}

-- what the first 205 bytes of a line are, or more of them, the line is
pub line_clip : (limit : ℕ) (l : List ℕ) → 205 ≤ limit → line_of (take limit l) ≡ line_of l
unfolding line_of
line_clip limit l h = sym (said_clip (λ m. plain_head) (λ m. omega arith) (λ q s. line_in (among_five q) s ≡ line_of (take limit l)) (λ s u e. e) limit l h refl)

-- what a line that names a kind counts as, by its text; and a line that names none
pub seen_some : (l : List ℕ) (k : Kind) → plain_question l ≡ Some k → seen (line_of l) ≡ seen (line_in (Some k) (take (length l - 2) (drop 2 l)))
unfolding line_of
seen_some l k e = rw (e, take_all (length l - 2) (drop 2 l) (simp length-drop (omega arith)))

pub seen_none : (l : List ℕ) → plain_question l ≡ None → seen (line_of l) ≡ None
unfolding line_of
seen_none l e = rw e

-- ---- lists by their places

list_same : {A : Type 0} (n : ℕ) (f g : ℕ → A) → ((i : ℕ) → i < n → f i ≡ g i) → list_of n f ≡ list_of n g
list_same zero f g h = refl
list_same (suc n) f g h = ap₂ (λ a l. a ∷ l) (h 0 (omega arith)) (list_same n (λ i. f (suc i)) (λ i. g (suc i)) (λ i e. h (suc i) (omega arith)))

list_get : {A : Type 0} (n : ℕ) (f : ℕ → A) (i : ℕ) (d : A) → i < n → get_or (list_of n f) i d ≡ f i
list_get zero f i d h = absurd (omega arith)
list_get (suc n) f zero d h = refl
list_get (suc n) f (suc i) d h = list_get n (λ j. f (suc j)) i d (omega arith)

list_set : {A : Type 0} (n : ℕ) (f g : ℕ → A) (i : ℕ) (a : A) → (i < n → a ≡ g i) → ((j : ℕ) → j < n → (j ≡ i → ⊥) → f j ≡ g j) → set (list_of n f) i a ≡ list_of n g
list_set zero f g i a own other = refl
list_set (suc n) f g zero a own other = ap₂ (λ b l. b ∷ l) (own (omega arith)) (list_same n (λ j. f (suc j)) (λ j. g (suc j)) (λ j h. other (suc j) (omega arith) (λ e. omega arith)))
list_set (suc n) f g (suc i) a own other =
    ap₂ (λ b l. b ∷ l) (other 0 (omega arith) (λ e. omega arith))
    (list_set n (λ j. f (suc j)) (λ j. g (suc j)) i a (λ h. own (omega arith)) (λ j h e. other (suc j) (omega arith) (λ c. e (omega arith))))

-- ---- a line is at its own place, and at no other

pub own_place : (x : Line) → is_at x.row x.told.number (some x) ≡ true
own_place x = rw (eq-eqb x.row x.row refl, eq-eqb x.told.number x.told.number refl)

pub other_row : (x : Line) (i j : ℕ) → (i ≡ x.row → ⊥) → is_at i j (some x) ≡ false
other_row x i j h = rw (ne_eqb x.row i (λ e. h (sym e)))

pub other_answer : (x : Line) (i j : ℕ) → (j ≡ x.told.number → ⊥) → is_at i j (some x) ≡ false
other_answer x i j h = rw (ne_eqb x.told.number j (λ e. h (sym e))) (and_right (eqb x.row i) refl)

-- ---- how many

many_few : (f : Option Line → Bool) (ls : List (List ℕ)) → how_many f ls ≤ length ls
unfolding how_many
many_few f [] = omega arith
many_few f (l ∷ ls) = go (f (line_of l)) (many_few f ls)
  where
    go : (t : Bool) → how_many f ls ≤ length ls → pick t (1 + how_many f ls) (how_many f ls) ≤ suc (length ls)
    go true h = omega arith
    go false h = omega arith

many_then : (f : Option Line → Bool) (ls : List (List ℕ)) (l : List ℕ) → how_many f (ls ++ l ∷ []) ≡ pick (f (line_of l)) (how_many f ls + 1) (how_many f ls)
unfolding how_many
many_then f [] l = refl
many_then f (k ∷ ls) l = go (f (line_of k)) (f (line_of l)) (many_then f ls l)
  where
    go : (t u : Bool) → how_many f (ls ++ l ∷ []) ≡ pick u (how_many f ls + 1) (how_many f ls)
        → pick t (1 + how_many f (ls ++ l ∷ [])) (how_many f (ls ++ l ∷ [])) ≡ pick u (pick t (1 + how_many f ls) (how_many f ls) + 1) (pick t (1 + how_many f ls) (how_many f ls))
    go true true h = omega arith
    go true false h = omega arith
    go false true h = h
    go false false h = h

module _ (ls : List (List ℕ)) (l : List ℕ) (few : length ls < largest) where
  -- a count of so few lines is exact
  more_one : (f : Option Line → Bool) → more (how_many f ls) ≡ how_many f ls + 1
  more_one f = rw (lt-ltb (how_many f ls) largest (omega (arith, many_few f ls)))

  -- the count at a line's place is raised, and any other stays
  raises : (i j : ℕ) → is_at i j (line_of l) ≡ true → how_many (is_at i j) (ls ++ l ∷ []) ≡ more (how_many (is_at i j) ls)
  raises i j e = rw e at (many_then (is_at i j) ls l) ∙ sym (more_one (is_at i j))

  stays : (i j : ℕ) → is_at i j (line_of l) ≡ false → how_many (is_at i j) (ls ++ l ∷ []) ≡ how_many (is_at i j) ls
  stays i j e = rw e at (many_then (is_at i j) ls l)

  row_stays : (i : ℕ) → ((j : ℕ) → j < 4 → is_at i j (line_of l) ≡ false) → row_in (ls ++ l ∷ []) i ≡ row_in ls i
  row_stays i apart = list_same 4 _ _ (λ j h. stays i j (apart j h))

  rows_stay : ((i j : ℕ) → i < 5 → j < 4 → is_at i j (line_of l) ≡ false) → table_of (ls ++ l ∷ []) ≡ table_of ls
  rows_stay apart = list_same 5 _ _ (λ i h. row_stays i (λ j g. apart i j h g))

  module _ (x : Line) (is : line_of l ≡ some x) where
    row_raised : x.told.number < 4 → raised_in x.told.number (row_in ls x.row) ≡ row_in (ls ++ l ∷ []) x.row
    row_raised h =
        list_set 4 (λ j. how_many (is_at x.row j) ls) (λ j. how_many (is_at x.row j) (ls ++ l ∷ [])) x.told.number _
        (λ _. ap more (list_get 4 (λ j. how_many (is_at x.row j) ls) x.told.number 0 h) ∙ sym (raises x.row x.told.number (rw is (own_place x))))
        (λ j _ e. sym (stays x.row j (rw is (other_answer x x.row j e))))

    -- the row that is raised is the line's, and every other stays
    rows_then : raised x.row x.told.number (table_of ls) ≡ table_of (ls ++ l ∷ [])
    unfolding raised
    rows_then = go (ltb x.row 5) (ltb x.told.number 4) refl refl
      where
        go : (t u : Bool) → ltb x.row 5 ≡ t → ltb x.told.number 4 ≡ u → pick t (pick u (set (table_of ls) x.row (raised_in x.told.number (get_or (table_of ls) x.row []))) (table_of ls)) (table_of ls) ≡ table_of (ls ++ l ∷ [])
        go true true a b =
            list_set 5 (row_in ls) (row_in (ls ++ l ∷ [])) x.row _
            (λ h. ap (raised_in x.told.number) (list_get 5 (row_in ls) x.row [] h) ∙ row_raised (ltb-true x.told.number 4 b))
            (λ i _ e. sym (row_stays i (λ j _. rw is (other_row x i j e))))
        go true false a b = sym (rows_stay (λ i j _ h. rw is (other_answer x i j (λ e. omega (arith, ltb-false x.told.number 4 b)))))
        go false u a b = sym (rows_stay (λ i j h _. rw is (other_row x i j (λ e. omega (arith, ltb-false x.row 5 a)))))

  bad_stays : (x : Line) → line_of l ≡ some x → bad_of (ls ++ l ∷ []) ≡ bad_of ls
  bad_stays x is = rw is at (many_then is_bad ls l)

  -- one line more
  pub table_then : counted (seen (line_of l)) (table_of ls) ≡ table_of (ls ++ l ∷ [])
  table_then = go (line_of l) refl
    where
      go : (x : Option Line) → line_of l ≡ x → counted (seen x) (table_of ls) ≡ table_of (ls ++ l ∷ [])
      go (some x) is = rows_then x is
      go none is = sym (rows_stay (λ i j h g. rw is))

  pub bad_then : bad_counted (seen (line_of l)) (bad_of ls) ≡ bad_of (ls ++ l ∷ [])
  bad_then = go (line_of l) refl
    where
      go : (x : Option Line) → line_of l ≡ x → bad_counted (seen x) (bad_of ls) ≡ bad_of (ls ++ l ∷ [])
      go (some x) is = sym (bad_stays x is)
      go none is = more_one is_bad ∙ sym (rw is at (many_then is_bad ls l))

seconds_both : (ls more : List (List ℕ)) → seconds_in_all (ls ++ more) ≡ seconds_in_all ls + seconds_in_all more
unfolding seconds_in_all
seconds_both [] more = omega arith
seconds_both (k ∷ ls) more = omega (arith, seconds_both ls more)

pub seconds_then : (ls : List (List ℕ)) (l : List ℕ) → seconds_in_all (ls ++ l ∷ []) ≡ seconds_in_all ls + adds (line_of l)
unfolding seconds_in_all
seconds_then ls l = omega (arith, seconds_both ls (l ∷ []))

-- what ever passed the limit is over, whatever follows
passes_more : (m n : ℕ) → m ≤ n → Passes m → Passes n
passes_more m n h e = go (leb m largest) (leb n largest) refl refl e
  where
    go : (t u : Bool) → leb m largest ≡ t → leb n largest ≡ u → sum_or_over t m ≡ None → sum_or_over u n ≡ None
    go t false et eu e = refl
    go true true et eu e = absurd (let z : ◌≡◌ {A = ℕ} 0 1 = cc in omega arith)
    go false true et eu e = absurd (omega (arith, leb-false m largest et, leb-true n largest eu))

pub running_sum_passed : (ls more : List (List ℕ)) → Passes (seconds_in_all ls) → Passes (seconds_in_all (ls ++ more))
running_sum_passed ls more = passes_more (seconds_in_all ls) (seconds_in_all (ls ++ more)) (omega (arith, seconds_both ls more))

pub duration_passed : (ls : List (List ℕ)) (l : List ℕ) (more : List (List ℕ)) → Passes (adds (line_of l)) → Passes (seconds_in_all (ls ++ l ∷ more))
unfolding seconds_in_all
duration_passed ls l more = passes_more (adds (line_of l)) (seconds_in_all (ls ++ l ∷ more)) (omega (arith, seconds_both ls (l ∷ more)))
