-- A fraction by its places: that the sum by places is the paper's number, padded with zeros.
use Rattle.std.proofs.Common.{◌≡◌, ℕ, zero, suc, ◌+◌, ◌-◌, ◌*◌, ◌^◌, ◌≤◌, List, [], ◌∷◌, ◌++◌, length, take, replicate, sym, refl, ap, ◌∙◌, add-zero, add-mul, mul-one, arith}
use Rattle.parser.specs.Digits.{number_from, number, nanoseconds}
use Rattle.parser.proofs.Runs.{number_grows}
use Rattle.runs.proofs.Nanoseconds.{times_ten}

-- the digits of d in k places, each worth ten to the power of the places behind it; where there is none it adds nothing
unfoldable pub by_places : ℕ → List ℕ → ℕ
by_places zero d = 0
by_places (suc k) [] = 0
by_places (suc k) (b ∷ d) = (b - 48) * 10 ^ k + by_places k d

pub no_digit : (k : ℕ) → by_places k [] ≡ 0
unfolding by_places
no_digit zero = refl
no_digit (suc k) = refl

zeros_number : (k m v : ℕ) → k ≤ m → number_from v (take k (replicate m 48)) ≡ v * 10 ^ k
unfolding number_from
zeros_number zero m v h = sym (mul-one v)
zeros_number (suc k) zero v h = absurd (omega arith)
zeros_number (suc k) (suc m) v h = zeros_number k m (v * 10 + 0) (omega arith) ∙ ap (λ (x : ℕ). x * 10 ^ k) (add-zero (v * 10)) ∙ times_ten v k

places_number : (k : ℕ) (d : List ℕ) (v : ℕ) → k ≤ 9 → number_from v (take k (d ++ replicate 9 48)) ≡ v * 10 ^ k + by_places k d
unfolding number_from by_places
places_number zero d v h = omega (arith, mul-one v)
places_number (suc k) [] v h = omega (arith, zeros_number (suc k) 9 v h)
places_number (suc k) (b ∷ d) v h =
    let e = add-mul (v * 10) (b - 48) (10 ^ k) in
    omega (arith, places_number k d (v * 10 + (b - 48)) (omega arith), e, times_ten v k)

-- "the first nine digits, padded with zeros on the right"
pub nanoseconds_by_places : (d : List ℕ) → by_places 9 d ≡ nanoseconds d
nanoseconds_by_places d = omega (arith, places_number 9 d 0 (omega arith))

-- nine digits or fewer are their number, by the places that are missing
short_number : (d : List ℕ) (k v : ℕ) → length d ≤ k → k ≤ 9 → number_from v (take k (d ++ replicate 9 48)) ≡ number_from v d * 10 ^ (k - length d)
unfolding number_from
short_number [] k v h n = let all : k ≡ k - 0 = omega arith in zeros_number k 9 v n ∙ ap (λ (e : ℕ). v * 10 ^ e) all
short_number (b ∷ d) zero v h n = absurd (omega arith)
short_number (b ∷ d) (suc k) v h n =
    let left : k - length d ≡ suc k - suc (length d) = omega arith in
    short_number d k (v * 10 + (b - 48)) (omega arith) (omega arith) ∙ ap (λ (e : ℕ). number_from (v * 10 + (b - 48)) d * 10 ^ e) left

pub nanoseconds_short : (d : List ℕ) → length d ≤ 9 → nanoseconds d ≡ number d * 10 ^ (9 - length d)
nanoseconds_short d h = short_number d 9 0 h (omega arith)

-- zeros are no nanoseconds
zeros_cut : (d : List ℕ) (k : ℕ) → k ≤ 9 → number d ≡ 0 → number (take k (d ++ replicate 9 48)) ≡ 0
unfolding number_from
zeros_cut [] k h e = omega (arith, zeros_number k 9 0 h)
zeros_cut (b ∷ d) zero h e = refl
zeros_cut (b ∷ d) (suc k) h e =
    let first : b - 48 ≡ 0 = omega (arith, number_grows d (0 * 10 + (b - 48)), e) in
    rw first (zeros_cut d k (omega arith) (rw first at e))

pub nanoseconds_zero : (d : List ℕ) → number d ≡ 0 → nanoseconds d ≡ 0
nanoseconds_zero d e = zeros_cut d 9 (omega arith) e
