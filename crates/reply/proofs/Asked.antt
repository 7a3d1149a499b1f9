-- A line that names a kind has a head and at most 200 bytes more, and a line that is too long names none.
use Prim.Native.Nat.{ℕ, ◌+◌, ◌≤◌, ◌<◌}
use mathlib.Core.List.{List}
use mathlib.Core.Bool.{Bool, true, false}
use mathlib.Core.Path.{◌≡◌, refl}
use native.Mathlib.Omega.{arith}
use lib.Dec.{leb}
use lib.ListN.{length, take, drop, length-drop}
use lib.Seq.{take_all, length-take-le}
use borrow.Author.Tests.{leb-true, leb-false, le-leb, lt-leb}
use Rattle.types.specs.Editions.{edition2004, standard, standard2004}
use Rattle.parser.specs.Reading.{pick}
use Rattle.kinds.specs.declared.answer.Kind.{Kind}
use Rattle.std.specs.declared.option.Option.{Option}
use Rattle.std.specs.declared.option.Option.TheVariants.{None, Some}
use Rattle.kinds.proofs.Letters.{among_named}
use Rattle.reply.specs.declared.Head.{Head}
use Rattle.reply.specs.Line.{plain_head, has, head_of, head_from, question_in, question_of, text_in, plain_question, plain_text, AnswersTo, Answers}

-- a head is two bytes, three or four
pub head_size : (l : List ℕ) → (2 ≤ (head_of l).from) × ((head_of l).from ≤ 4)
unfolding head_of head_from
head_size l = go (has l 1 52) (has l 2 115) (has l 1 115)
  where
    go : (t u v : Bool) → let h : Head = pick t (pick u (record { from = 4; choices = standard2004 }) (record { from = 3; choices = edition2004 })) (pick v (record { from = 3; choices = standard }) plain_head) in (2 ≤ h.from) × (h.from ≤ 4)
    go true true v = (omega arith, omega arith)
    go true false v = (omega arith, omega arith)
    go false u true = (omega arith, omega arith)
    go false u false = (omega arith, omega arith)

module _ (h : Head) (l : List ℕ) where
  names_long_in : (k : Kind) → question_in h l ≡ Some k → h.from ≤ length l
  unfolding question_in
  names_long_in k e = go _ (leb h.from (length l)) refl e
    where
      go : (x : Option Kind) (t : Bool) → leb h.from (length l) ≡ t → pick t x None ≡ Some k → h.from ≤ length l
      go x true i e = leb-true h.from (length l) i
      go x false i e = let z : ◌≡◌ {A = ℕ} 0 1 = cc in absurd (omega arith)

  -- the text is too long
  past_unknown : h.from + 200 < length l → question_in h l ≡ None
  unfolding question_in
  past_unknown i = rw (le-leb h.from (length l) (omega arith), lt-leb (length l) (h.from + 200) i)

  names_short_in : (k : Kind) → question_in h l ≡ Some k → length (drop h.from l) ≤ 200
  names_short_in k e = go (leb (length l) (h.from + 200)) refl
    where
      go : (t : Bool) → leb (length l) (h.from + 200) ≡ t → length (drop h.from l) ≤ 200
      go true i = omega (arith, length-drop h.from l, leb-true (length l) (h.from + 200) i)
      go false i = let u = past_unknown (leb-false (length l) (h.from + 200) i) in let z : ◌≡◌ {A = ℕ} 0 1 = cc in absurd (omega arith)

pub names_long : (l : List ℕ) (k : Kind) → question_of l ≡ Some k → (head_of l).from ≤ length l
names_long l = names_long_in (head_of l) l

pub names_short : (l : List ℕ) (k : Kind) → question_of l ≡ Some k → length (text_in l) ≤ 200
names_short l = names_short_in (head_of l) l

-- the same where intervals have no letter
module _ (l : List ℕ) (k : Kind) (e : plain_question l ≡ Some k) where
  pub plain_long : 2 ≤ length l
  plain_long = names_long_in plain_head l k (among_named _ k e)

  pub plain_short : length (plain_text l) ≤ 200
  plain_short = names_short_in plain_head l k (among_named _ k e)

-- What holds of the first bytes of a line, more than n of them, holds of the line, where lines of more than n bytes are all alike.
pub clip_alike : (P : List ℕ → Type 0) (n limit : ℕ) → n < limit → ((l m : List ℕ) → n < length l → n < length m → P l → P m) → (l : List ℕ) → P (take limit l) → P l
clip_alike P n limit h alike l p = step (leb (length l) limit) refl
  where
    step : (b : Bool) → leb (length l) limit ≡ b → P l
    step true e = rw (take_all limit l (leb-true (length l) limit e)) at p
    step false e =
        let long : limit < length l = omega (arith, leb-false (length l) limit e) in
        alike (take limit l) l (rw (length-take-le limit l (omega arith)) h) (omega arith) p

-- So what is said of the first 205 bytes of a line, or more of them, is said of the line, by whatever head a program takes: no line that long names
-- a kind, and what is said of an unknown one does not depend on its text.
module _ (H : List ℕ → Head) (few : (l : List ℕ) → (H l).from ≤ 4) (P : Option Kind → List ℕ → Type 0) (unknown : (s u : List ℕ) → P None s → P None u) where
  pub said_clip : (limit : ℕ) (l : List ℕ) → 205 ≤ limit → P (question_in (H (take limit l)) (take limit l)) (drop (H (take limit l)).from (take limit l)) → P (question_in (H l) l) (drop (H l).from l)
  said_clip limit l h = clip_alike (λ m. P (question_in (H m) m) (drop (H m).from m)) 204 limit h alike l
    where
      long_unknown : (m : List ℕ) → 204 < length m → question_in (H m) m ≡ None
      long_unknown m i = past_unknown (H m) m (omega (arith, few m))

      alike : (m u : List ℕ) → 204 < length m → 204 < length u → P (question_in (H m) m) (drop (H m).from m) → P (question_in (H u) u) (drop (H u).from u)
      alike m u i j p = rw (long_unknown u j) (unknown _ _ (rw (long_unknown m i) at p))

pub answers_clip : (shown : Bool) (limit : ℕ) (l t : List ℕ) → 205 ≤ limit → Answers shown (take limit l) t → Answers shown l t
answers_clip shown limit l t = said_clip head_of (λ l. (head_size l).1) (λ q s. AnswersTo shown q s t) (λ s u e. e) limit l
