-- Digits that are written are read back: a field of any width, a run, a fraction. One law each, over the digits.
use Prim.Native.Nat.{ℕ, zero, suc, ◌+◌, ◌*◌, ◌-◌, ◌/◌, ◌%◌, ◌^◌, ◌≤◌, ◌<◌}
use mathlib.Core.List.{List, [], ◌∷◌, ◌++◌, append_assoc, append-nil}
use mathlib.Core.Bool.{Bool, true, false}
use mathlib.Core.Path.{◌≡◌, refl, sym, ap, ◌∙◌}
use native.Mathlib.Omega.{arith}
use native.Mathlib.Numerals.{add-one}
use native.Mathlib.Nat.{add-zero, add-suc, one-le-pow, pow-suc, pow-succ', div-one, div-div-eq-div-mul}
use borrow.Author.Tests.{lt-ltb, le-ltb, le-leb, ltb-true}
use lib.Dec.{ltb}
use lib.IntN.{nat_abs}
use lib.ListN.{length, get_or, set, length-append}
use lib.Seq.{get_or-append_seam, drop-append_seam}
use Rattle.types.specs.Sums.{with_sign}
use Rattle.parser.specs.Reading.{no, got, lit, pick, within}
use Rattle.parser.specs.Digits.{is_digit, digits_from, field, digits, number_from, number, run_at, at_most, limit, run_as, run}
use Rattle.parser.proofs.Fields.{DigitAt, digits_from_suc, digits_from_other, digits_from_end}
use Rattle.parser.proofs.Runs.{AllDigits, none, also, number_append}
use Rattle.parser.proofs.Leaves.{digit_is_not}
use Rattle.text.specs.Text.{Puts, decimal, decimal_of}
use Rattle.text.proofs.Laws.{sets_puts}
use Rattle.writing.specs.Spelling.{padded}
use Rattle.writing.proofs.Texts.{ReadAs, Refuses, lit_refuses}

-- whether a digit stands in front
abbrev pub begins : List ℕ → Bool
begins [] = false
begins (b ∷ x) = is_digit b

pub all_append : {d e : List ℕ} → AllDigits d → AllDigits e → AllDigits (d ++ e)
all_append none h = h
all_append (also b g) h = also b (all_append g h)

last_is_digit : (v : ℕ) → is_digit (48 + v % 10) ≡ true
last_is_digit v = rw (le-leb 48 (48 + v % 10) (omega arith), le-leb (48 + v % 10) 57 (omega arith))

last : (v : ℕ) → AllDigits ((48 + v % 10) ∷ [])
last v = also (last_is_digit v) none

-- a number behind its sign
pub nat_abs_signed : (minus : Bool) (n : ℕ) → nat_abs (with_sign minus n) ≡ n
nat_abs_signed false n = refl
nat_abs_signed true zero = refl
nat_abs_signed true (suc n) = refl

-- ---- a number's digits, in a fixed width and as they come

pub padded_digits : (n v : ℕ) → AllDigits (padded n v)
unfolding padded
padded_digits zero v = none
padded_digits (suc n) v = all_append (padded_digits n (v / 10)) (last v)

pub length_padded : (n v : ℕ) → length (padded n v) ≡ n
unfolding padded
length_padded zero v = refl
length_padded (suc n) v = length-append (padded n (v / 10)) ((48 + v % 10) ∷ []) ∙ omega (arith, length_padded n (v / 10))

pub number_padded : (n v : ℕ) → v < 10 ^ n → number (padded n v) ≡ v
unfolding padded number_from
number_padded zero v h = omega arith
number_padded (suc n) v h =
    let small : v / 10 < 10 ^ n = omega (arith, pow-suc 10 n) in
    let back : 48 + v % 10 - 48 ≡ v % 10 = omega arith in
    number_append (padded n (v / 10)) ((48 + v % 10) ∷ []) 0 ∙ rw (number_padded n (v / 10) small, back) (omega arith)

-- the first digits and the last ones, in any two widths
pub padded_split : (m n v : ℕ) → padded (m + n) v ≡ padded m (v / 10 ^ n) ++ padded n v
unfolding padded
padded_split m zero v = rw (add-zero m, div-one v) (sym (append-nil (padded m v)))
padded_split m (suc n) v =
    let over : v / 10 / 10 ^ n ≡ v / 10 ^ suc n = div-div-eq-div-mul v 10 (10 ^ n) ∙ rw (← pow-succ' 10 n) in
    rw (add-suc m n, padded_split m n (v / 10), over) (append_assoc (padded m (v / 10 ^ suc n)) (padded n (v / 10)) ((48 + v % 10) ∷ []))

-- the last two are those of what is left of hundreds
pub padded_hundred : (v : ℕ) → padded 2 (v % 100) ≡ padded 2 v
unfolding padded
padded_hundred v =
    let tens : v % 100 / 10 % 10 ≡ v / 10 % 10 = omega arith in
    let ones : v % 100 % 10 ≡ v % 10 = omega arith in
    rw (tens, ones)

pub padded_three : (v : ℕ) → padded 3 v ≡ (48 + v / 100 % 10) ∷ padded 2 (v % 100)
unfolding padded
padded_three v = padded_split 1 2 v ∙ ap (λ (l : List ℕ). (48 + v / 100 % 10) ∷ l) (sym (padded_hundred v))

pub padded_four : (v : ℕ) → padded 4 v ≡ padded 2 (v / 100) ++ padded 2 (v % 100)
padded_four v = padded_split 2 2 v ∙ ap (λ (l : List ℕ). padded 2 (v / 100) ++ l) (sym (padded_hundred v))

-- both digits of a number below 100, stored at one go
pub two_at_one_go : (n at : ℕ) (l : List ℕ) → n < 100 → at + 2 ≤ length l → Puts (padded 2 n) l at (set (set l at (48 + n / 10)) (at + 1) (48 + (n - n / 10 * 10))) (at + 2)
unfolding padded
two_at_one_go n at l small room =
    let tens : n / 10 % 10 ≡ n / 10 = omega arith in
    let ones : n % 10 ≡ n - n / 10 * 10 = omega arith in
    rw (tens, ones, add-one at) (sets_puts _ l at room)

-- in front of digits no other byte is read
pub padded_refuses : (c n v : ℕ) (x : List ℕ) → is_digit c ≡ false → Refuses (lit c) (padded (suc n) v ++ x)
padded_refuses c n v x e = go (padded (suc n) v) (padded_digits (suc n) v) (length_padded (suc n) v)
  where
    go : (d : List ℕ) → AllDigits d → length d ≡ suc n → Refuses (lit c) (d ++ x)
    go [] h k = absurd (omega arith)
    go (b ∷ d) (also hb h) k = lit_refuses c (digit_is_not c e b hb)

-- ---- a field

digits_read : (lo hi w : ℕ) (d x : List ℕ) → AllDigits d → (a : List ℕ) → digits_from lo hi (length d) w (a ++ (d ++ x)) (length a) ≡ pick (within lo hi (number_from w d)) (got (number_from w d) (length a + length d)) no
unfolding digits_from number_from
digits_read lo hi w [] x h a = rw (add-zero (length a))
digits_read lo hi w (b ∷ d) x (also hb h) a =
    let s = a ++ b ∷ (d ++ x) in
    let seam : get_or s (length a) 0 ≡ b = get_or-append_seam a b (d ++ x) 0 in
    let here : DigitAt s (length a) = record { inside = lt-ltb (length a) (length s) (omega (arith, length-append a (b ∷ (d ++ x)))); is = rw seam hb } in
    let place : length (a ++ b ∷ []) ≡ length a + 1 = length-append a (b ∷ []) in
    let same : (a ++ b ∷ []) ++ (d ++ x) ≡ s = append_assoc a (b ∷ []) (d ++ x) in
    let ends : length a + 1 + length d ≡ length a + suc (length d) = omega arith in
    digits_from_suc lo hi (length d) w s (length a) here ∙ rw seam (rw (place, same, ends) at (digits_read lo hi (w * 10 + (b - 48)) d x h (a ++ b ∷ [])))

pub field_reads : (n lo hi v : ℕ) (x : List ℕ) → lo ≤ v → v ≤ hi → v < 10 ^ n → ReadAs (field n lo hi) (padded n v) x v
unfolding field
field_reads n lo hi v x l h p = record {
  reads = λ a.
      let e = digits_read lo hi 0 (padded n v) x (padded_digits n v) a in
      rw (length_padded n v) (rw (length_padded n v, number_padded n v p, le-leb lo v l, le-leb v hi h) at e);
}

-- too few digits for it

pub digits_missing : (lo hi n w : ℕ) (d x : List ℕ) → AllDigits d → length d < n → begins x ≡ false → (a : List ℕ) → digits_from lo hi n w (a ++ (d ++ x)) (length a) ≡ no
digits_missing lo hi n w [] [] h k o a = rw (append-nil a) (digits_from_end lo hi n w a (length a) k (le-ltb (length a) (length a) (omega arith)))
digits_missing lo hi n w [] (b ∷ x) h k o a =
    let s = a ++ b ∷ x in
    digits_from_other lo hi n w s (length a) k
    (record { inside = lt-ltb (length a) (length s) (omega (arith, length-append a (b ∷ x))); is = rw (get_or-append_seam a b x 0) o })
digits_missing lo hi zero w (b ∷ d) x h k o a = absurd (omega arith)
digits_missing lo hi (suc n) w (b ∷ d) x (also hb h) k o a =
    let s = a ++ b ∷ (d ++ x) in
    let seam : get_or s (length a) 0 ≡ b = get_or-append_seam a b (d ++ x) 0 in
    let here : DigitAt s (length a) = record { inside = lt-ltb (length a) (length s) (omega (arith, length-append a (b ∷ (d ++ x)))); is = rw seam hb } in
    let place : length (a ++ b ∷ []) ≡ length a + 1 = length-append a (b ∷ []) in
    let same : (a ++ b ∷ []) ++ (d ++ x) ≡ s = append_assoc a (b ∷ []) (d ++ x) in
    digits_from_suc lo hi n w s (length a) here ∙ rw seam (rw (place, same) at (digits_missing lo hi n (w * 10 + (b - 48)) d x h (omega arith) o (a ++ b ∷ [])))

pub field_refuses : (n lo hi : ℕ) {d : List ℕ} (x : List ℕ) → AllDigits d → length d < n → begins x ≡ false → Refuses (field n lo hi) (d ++ x)
unfolding field
field_refuses n lo hi {d} x h k o = record { finds = digits_missing lo hi n 0 d x h k o }

-- ---- a run and a fraction

run_here : {d : List ℕ} (x : List ℕ) → AllDigits d → begins x ≡ false → digits (d ++ x) ≡ d
unfolding digits
run_here [] none o = refl
run_here (b ∷ x) none o = rw o
run_here x (also {b} {d} hb h) o = rw hb (ap (λ (l : List ℕ). b ∷ l) (run_here x h o))

run_at_lem : {d : List ℕ} (x : List ℕ) → AllDigits d → begins x ≡ false → (a : List ℕ) → run_at (a ++ (d ++ x)) (length a) ≡ d
run_at_lem {d} x h o a = ap digits (drop-append_seam a (d ++ x)) ∙ run_here x h o

pub run_reads : {A : Type 0} (f : List ℕ → A) (may : ℕ → Bool) (r : ℕ) {d x : List ℕ} → AllDigits d → 0 < length d → begins x ≡ false → may (number d) ≡ true → ReadAs (run_as f may r) d x (f d)
unfolding run_as
run_reads f may r none k o l = absurd (omega arith)
run_reads f may r (also {b} {d} hb h) k o l = record { reads = λ a. rw (run_at_lem _ (also {b = b} {d = d} hb h) o a, l) }

pub run_refuses : {A : Type 0} (f : List ℕ → A) (may : ℕ → Bool) (r : ℕ) {x : List ℕ} → begins x ≡ false → Refuses (run_as f may r) x
unfolding run_as
run_refuses f may r o = record { finds = λ a. rw (run_at_lem _ none o a) }

-- ---- a number as it comes

pub decimal_digits : (k n : ℕ) → AllDigits (decimal_of k n)
unfolding decimal_of
decimal_digits zero n = none
decimal_digits (suc k) n = go (ltb n 10) refl (decimal_digits k (n / 10))
  where
    go : (t : Bool) → ltb n 10 ≡ t → AllDigits (decimal_of k (n / 10)) → AllDigits (pick t ((48 + n) ∷ []) (decimal_of k (n / 10) ++ (48 + n % 10) ∷ []))
    go true e ih = let small = ltb-true n 10 e in also {b = 48 + n} (rw (le-leb 48 (48 + n) (omega arith), le-leb (48 + n) 57 (omega arith))) none
    go false e ih = all_append ih (last n)

pub number_decimal : (k n : ℕ) → n < 10 ^ k → number (decimal_of k n) ≡ n
unfolding decimal_of number_from
number_decimal zero n h = omega arith
number_decimal (suc k) n h = go (ltb n 10) refl (number_decimal k (n / 10) (omega (arith, pow-suc 10 k)))
  where
    go : (t : Bool) → ltb n 10 ≡ t → number (decimal_of k (n / 10)) ≡ n / 10 → number (pick t ((48 + n) ∷ []) (decimal_of k (n / 10) ++ (48 + n % 10) ∷ [])) ≡ n
    go true e ih = omega arith
    go false e ih =
        let back : 48 + n % 10 - 48 ≡ n % 10 = omega arith in
        number_append (decimal_of k (n / 10)) ((48 + n % 10) ∷ []) 0 ∙ rw (ih, back) (omega arith)

some_digit : (k n : ℕ) → 0 < length (decimal_of (suc k) n)
unfolding decimal_of
some_digit k n = go (ltb n 10)
  where
    go : (t : Bool) → 0 < length (pick t ((48 + n) ∷ []) (decimal_of k (n / 10) ++ (48 + n % 10) ∷ []))
    go true = omega arith
    go false = omega (arith, length-append (decimal_of k (n / 10)) ((48 + n % 10) ∷ []))

-- read in a run that may be so great
pub decimal_within : (most r n : ℕ) (x : List ℕ) → n ≤ most → n < 10 ^ 20 → begins x ≡ false → ReadAs (run_as number (at_most most) r) (decimal n) x n
decimal_within most r n x l h o =
    let e = number_decimal 20 n h in
    rw e at (run_reads number (at_most most) r {x = x} (decimal_digits 20 n) (some_digit 19 n) o (rw e (le-leb n most l)))

pub decimal_reads : (n : ℕ) (x : List ℕ) → n ≤ limit → begins x ≡ false → ReadAs run (decimal n) x n
decimal_reads n x l o = decimal_within limit 2 n x l (omega arith) o

-- ---- how many digits it has

pub one_digit : (k n : ℕ) → n < 10 → decimal_of (suc k) n ≡ (48 + n) ∷ []
unfolding decimal_of
one_digit k n h = rw (lt-ltb n 10 h)

-- between a power of ten and the next
digits_between : (k m n : ℕ) → k < m → 10 ^ k ≤ n → n < 10 ^ suc k → length (decimal_of m n) ≡ suc k
unfolding decimal_of
digits_between zero (suc m) n h l g = rw (lt-ltb n 10 (omega (arith, pow-suc 10 0)))
digits_between (suc k) (suc m) n h l g =
    let up = pow-suc 10 k in
    let least : 1 ≤ 10 ^ k = one-le-pow k 10 (omega arith) in
    let rest = digits_between k m (n / 10) (omega arith) (omega arith) (omega (arith, pow-suc 10 (suc k))) in
    rw (le-ltb n 10 (omega arith)) (length-append (decimal_of m (n / 10)) ((48 + n % 10) ∷ []) ∙ omega arith)
digits_between k zero n h l g = absurd (omega arith)

pub decimal_between : (k n : ℕ) → 10 ^ k ≤ n → n < 10 * 10 ^ k → k < 20 → length (decimal n) ≡ k + 1
decimal_between k n l g h = digits_between k 20 n h l (omega (arith, pow-suc 10 k)) ∙ omega arith

pub decimal_zero : length (decimal 0) ≡ 1
decimal_zero = rw (one_digit 19 0 (omega arith))

-- below ten to the power of so many, at most so many
pub digits_few : (k m n : ℕ) → n < 10 ^ suc k → length (decimal_of m n) ≤ suc k
unfolding decimal_of
digits_few k zero n h = omega arith
digits_few zero (suc m) n h = rw (lt-ltb n 10 (omega (arith, pow-suc 10 0))) (omega arith)
digits_few (suc k) (suc m) n h = go (ltb n 10) (digits_few k m (n / 10) (omega (arith, pow-suc 10 (suc k))))
  where
    go : (t : Bool) → length (decimal_of m (n / 10)) ≤ suc k → length (pick t ((48 + n) ∷ []) (decimal_of m (n / 10) ++ (48 + n % 10) ∷ [])) ≤ suc (suc k)
    go true ih = omega arith
    go false ih = omega (arith, length-append (decimal_of m (n / 10)) ((48 + n % 10) ∷ []))
