-- What is put one behind the other is put as one text, and where there is room, all of the text is there.
use Prim.Native.Nat.{ℕ, ◌+◌, ◌-◌, ◌≤◌, ◌<◌}
use mathlib.Core.List.{List, [], ◌∷◌, ◌++◌, append-nil, append_assoc}
use mathlib.Core.Bool.{Bool, true, false}
use mathlib.Core.Path.{◌≡◌, refl, sym, ap, ◌∙◌}
use native.Mathlib.Numerals.{add-one}
use native.Mathlib.Nat.{add-zero, suc-add, add-suc}
use native.Mathlib.Omega.{arith}
use borrow.Author.Tests.{lt-ltb, le-ltb, ltb-true, ltb-false}
use lib.Dec.{ltb}
use lib.ListN.{length, set, length-set, length-append, take, drop, get_or}
use lib.Seq.{length-take-le, take_all, take-suc, take-suc-set, take-length, take-append_seam, sets, sets-eq}
use Rattle.std.proofs.lemmas.List.{set-append_right, take-append-drop}
use Rattle.parser.proofs.Lent.{all_lent, none_behind}
use Rattle.text.specs.Text.{Output, output, puts, puts_one, Puts}

pub puts_append : (a b : List ℕ) (o : Output) → puts (a ++ b) o ≡ puts b (puts a o)
unfolding puts
puts_append [] b o = refl
puts_append (x ∷ a) b o = puts_append a b (puts_one x o)

module _ {a b : List ℕ} {old mid new : List ℕ} {at n next : ℕ} where
  pub then_puts : Puts a old at mid n → Puts b mid n new next → Puts (a ++ b) old at new next
  then_puts e f = record { put = rw (e.put, ← puts_append a b (output old at)) at f.put }

-- Nothing, and one byte.

pub puts_nothing : (l : List ℕ) (at : ℕ) → Puts [] l at l at
unfolding puts
puts_nothing l at = record { put = refl }

pub puts_byte : (b : ℕ) (l : List ℕ) (at : ℕ) → at < length l → Puts (b ∷ []) l at (set l at b) (at + 1)
unfolding puts puts_one
puts_byte b l at h = record { put = rw (lt-ltb at (length l) h) }

pub puts_no_byte : (b : ℕ) (l : List ℕ) (at : ℕ) → length l ≤ at → Puts (b ∷ []) l at l at
unfolding puts puts_one
puts_no_byte b l at h = record { put = rw (le-ltb at (length l) h) }

-- A word, byte by byte.

pub puts_turn : (word : List ℕ) (i : ℕ) (o : Output) → i < length word → puts (take (i + 1) word) o ≡ puts (get_or word i 0 ∷ []) (puts (take i word) o)
puts_turn word i o h = rw (add-one i, take-suc word i 0 h) (puts_append (take i word) (get_or word i 0 ∷ []) o)

module _ (word : List ℕ) (i : ℕ) {old mid new : List ℕ} {at n next : ℕ} where
  pub puts_more : i < length word → Puts (take i word) old at mid n → Puts (get_or word i 0 ∷ []) mid n new next → Puts (take (i + 1) word) old at new next
  puts_more h e f = rw (add-one i, take-suc word i 0 h) (then_puts e f)

pub puts_all : (word : List ℕ) (i : ℕ) {old new : List ℕ} {at next : ℕ} → i ≡ length word → Puts (take i word) old at new next → Puts word old at new next
puts_all word i e p = rw (e, take-length word) at p

-- With room for all of the text, nothing is left out, and the bytes around it stay.

puts_sets : (t l : List ℕ) (at : ℕ) → at + length t ≤ length l → puts t (output l at) ≡ output (sets l at t) (at + length t)
unfolding puts puts_one
puts_sets [] l at h = rw (add-zero at)
puts_sets (b ∷ t) l at h =
    let room : at < length l = omega arith in
    let rest : at + 1 + length t ≤ length (set l at b) = simp length-set (omega arith) in
    rw (lt-ltb at (length l) room, puts_sets t (set l at b) (at + 1) rest) (simp (add-one, suc-add, add-suc))

-- so what is stored byte by byte is put
pub sets_puts : (t l : List ℕ) (at : ℕ) → at + length t ≤ length l → Puts t l at (sets l at t) (at + length t)
sets_puts t l at h = record { put = sym (puts_sets t l at h) }

pub puts_fits : {t old new : List ℕ} {at next : ℕ} → Puts t old at new next → at + length t ≤ length old
    → (next ≡ at + length t) × (new ≡ take at old ++ t ++ drop (at + length t) old)
puts_fits {t} {old} {new} {at} {next} e h =
    let all = e.put ∙ puts_sets t old at h in
    (ap Output.next all, ap Output.bytes all ∙ sets-eq t old at h)

-- With any room, what stands up to the next place is what stood there and the text behind it, as far as the output goes.

pub record Clips (t l : List ℕ) (at : ℕ) (o : Output) : Type 0 where
  pub front : take o.next o.bytes ≡ take (length l) (take at l ++ t)
  pub place : o.next ≤ length l
  pub size : length o.bytes ≡ length l

clips : (t l : List ℕ) (at : ℕ) → at ≤ length l → Clips t l at (puts t (output l at))
unfolding puts puts_one
clips [] l at h =
    let short : length (take at l) ≤ length l = rw (length-take-le at l h) h in
    record { front = sym (rw (append-nil (take at l)) (take_all (length l) (take at l) short)); place = h; size = refl }
clips (b ∷ t) l at h = step (ltb at (length l)) refl (λ (m : List ℕ) (n : ℕ) (k : n ≤ length m). clips t m n k)
  where
    step : (c : Bool) → ltb at (length l) ≡ c → ((m : List ℕ) (n : ℕ) → n ≤ length m → Clips t m n (puts t (output m n)))
        → Clips (b ∷ t) l at (puts t (puts_one b (output l at)))
    step true e ih =
        let room : at < length l = ltb-true at (length l) e in
        let o = ih (set l at b) (at + 1) (simp length-set (omega arith)) in
        let next : take (at + 1) (set l at b) ≡ take at l ++ (b ∷ []) = rw (add-one at) (take-suc-set l at b room) in
        rw e record {
          front = rw (length-set l at b, next, append_assoc (take at l) (b ∷ []) t) at o.front;
          place = rw (length-set l at b) at o.place;
          size = rw (length-set l at b) at o.size;
        }
    step false e ih =
        let full : at ≡ length l = omega (arith, ltb-false at (length l) e) in
        let o = ih l at h in
        rw e record {
          front = o.front ∙ rw (full, take-length l) (take-append_seam l t ∙ sym (take-append_seam l (b ∷ t)));
          place = o.place;
          size = o.size;
        }

pub puts_clips : {t old new : List ℕ} {at next : ℕ} → Puts t old at new next → at ≤ length old → Clips t old at (output new next)
puts_clips {t} {old} {new} {at} {next} e h = rw e.put (clips t old at h)

-- what is put from the front on ends within the output
pub puts_within : {t old new : List ℕ} {next : ℕ} → Puts t old 0 new next → next ≤ length new
puts_within e = let c = puts_clips e (omega arith) in omega (arith, c.place, c.size)

-- What is put into the part of an output that begins at a place is put from that place on.

-- the output o, where p stands in front of it
abbrev behind : List ℕ → Output → Output
behind p o = output (p ++ o.bytes) (length p + o.next)

one_behind : (p : List ℕ) (b : ℕ) (o : Output) → puts_one b (behind p o) ≡ behind p (puts_one b o)
unfolding puts_one
one_behind p b o = step (ltb o.next (length o.bytes)) refl
  where
    step : (c : Bool) → ltb o.next (length o.bytes) ≡ c → puts_one b (behind p o) ≡ behind p (puts_one b o)
    step true e =
        let room : length p + o.next < length (p ++ o.bytes) = omega (arith, length-append p o.bytes, ltb-true o.next (length o.bytes) e) in
        let at : length p + o.next - length p ≡ o.next = omega arith in
        let stored : set (p ++ o.bytes) (length p + o.next) b ≡ p ++ set o.bytes o.next b = set-append_right p o.bytes (length p) (length p + o.next) b refl (omega arith) ∙ ap (λ (i : ℕ). p ++ set o.bytes i b) at in
        rw (e, lt-ltb (length p + o.next) (length (p ++ o.bytes)) room, stored) (ap (output (p ++ set o.bytes o.next b)) (omega arith))
    step false e =
        let full : length (p ++ o.bytes) ≤ length p + o.next = omega (arith, length-append p o.bytes, ltb-false o.next (length o.bytes) e) in
        rw (e, le-ltb (length p + o.next) (length (p ++ o.bytes)) full)

puts_behind : (t p : List ℕ) (o : Output) → puts t (behind p o) ≡ behind p (puts t o)
unfolding puts
puts_behind [] p o = refl
puts_behind (b ∷ t) p o = rw (one_behind p b o) (puts_behind t p (puts_one b o))

puts_from : (t p l whole : List ℕ) (at : ℕ) → p ++ l ≡ whole → length p ≡ at → puts t (output whole at) ≡ output (p ++ (puts t (output l 0)).bytes) (at + (puts t (output l 0)).next)
puts_from t p l whole at e f = rw (← e, ← f) (rw (add-zero (length p)) at (puts_behind t p (output l 0)))

pub puts_lent : {t new : List ℕ} (l : List ℕ) (at : ℕ) {n : ℕ} → at ≤ length l → Puts t (take (length l - at) (drop at l)) 0 new n → Puts t l at (take at l ++ (new ++ drop (length l - at) (drop at l))) (at + n)
puts_lent {t} {new} l at {n} h q =
    let put : output new n ≡ puts t (output (drop at l) 0) = rw (all_lent at l) at q.put in
    let all = puts_from t (take at l) (drop at l) l at (take-append-drop at l) (length-take-le at l h) in
    record { put = rw (none_behind at l, append-nil new) (sym (rw (← put) at all)) }
