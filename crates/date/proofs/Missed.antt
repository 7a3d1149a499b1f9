-- What the code says of a whole, where a part of it was missed or left open, and where two parts make it up.
use Prim.Native.Nat.{ℕ}
use mathlib.Core.List.{List}
use mathlib.Core.Bool.{Bool, true, false}
use mathlib.Core.Option.{Option, none}
use mathlib.Core.Path.{◌≡◌, refl, sym, ◌∙◌}
use Rattle.std.specs.declared.result.Result.{Result}
use Rattle.std.specs.declared.result.Result.TheVariants.{Ok, Err}
use Rattle.parser.specs.declared.Miss.{Miss}
use Rattle.parser.specs.declared.Miss.TheVariants as miss
use Rattle.parser.specs.declared.Got.{Got}
use Rattle.parser.specs.Read.{missed, cut, got_found, got_more}
use Rattle.parser.specs.Reading.{Found, got, stop, Reader, seq, opt, alt, map, map_found, Says}
use Rattle.parser.proofs.Places.{Fails}
use Rattle.parser.proofs.Hopeful.{AtEnd}
use Rattle.parser.proofs.Unstopped.{Unstopped}
use Rattle.parser.proofs.Passed.{says_map_missed}
use Rattle.parser.proofs.Says.{says_map, says_opt, says_seq_got, says_seq_stop, says_cut, says_alt_got, says_alt_first}

-- ---- a miss

module _ {A : Type 0} (p : Reader A) (s : List ℕ) (at : ℕ) where
  -- an optional item before what fails at the end: where it is wrong, reading goes on without it
  pub says_cut_missed : {B : Type 0} (q : Option A → Reader B) (m : Miss) → (m ≡ miss.Wrong → ⊥) → AtEnd p → Fails (q none) → Says p s at (missed m) (cut m) → Says (seq (opt p) q) s at (missed m) (cut m)
  says_cut_missed q (miss.Stopped r) w ep fq h = says_seq_stop (opt p) s at q _ _ (says_opt p s at _ _ h)
  says_cut_missed q miss.Wrong w ep fq h = absurd (w refl)
  says_cut_missed q miss.Cut w ep fq h = says_cut p q s at ep fq h

-- ---- a part, and another behind it, with what both are made into

module _ {A B C : Type 0} (p : Reader A) (q : Reader B) (make : A → B → C) (s : List ℕ) (at n : ℕ) (a : A) (first : Says p s at (got a n) false) where
  pub says_both : (f : Found B) (l : Bool) → Says q s n f l → Says (seq p (λ a. map (make a) q)) s at (map_found (make a) f) l
  says_both f l h = says_seq_got p s at (λ a. map (make a) q) a n false _ l first (says_map q s n (make a) f l h)

  pub says_both_missed : (m : Miss) → Says q s n (missed m) (cut m) → Says (seq p (λ a. map (make a) q)) s at (missed m) (cut m)
  says_both_missed m h = says_seq_got p s at (λ a. map (make a) q) a n false _ (cut m) first (says_map_missed q s n (make a) m h)

-- ---- alternatives

-- neither wrong nor cut, the first one is kept
pub says_alt_kept : {A : Type 0} (p q : Reader A) (s : List ℕ) (at : ℕ) (r : Result (Got A) Miss) → (r ≡ Err miss.Wrong → ⊥) → (r ≡ Err miss.Cut → ⊥) → Says p s at (got_found r) (got_more r) → Says (alt p q) s at (got_found r) (got_more r)
says_alt_kept p q s at (Ok g) w c h = says_alt_got p s at q _ _ _ h
says_alt_kept p q s at (Err (miss.Stopped r)) w c h = says_alt_first p s at q _ _ refl h
says_alt_kept p q s at (Err miss.Wrong) w c h = absurd (w refl)
says_alt_kept p q s at (Err miss.Cut) w c h = absurd (c refl)

-- after one that was cut, what the later one finds is open, as it stops nothing
pub says_opened : {A : Type 0} (p q : Reader A) (s : List ℕ) (at : ℕ) (f g : Found A) (l m : Bool) → Unstopped q → Says q s at f l → g ≡ f → (((r : ℕ) → f ≡ stop r → ⊥) → m ≡ true) → Says p s at f true → Says p s at g m
says_opened p q s at f g l m u k e o h = rw (e, o (λ r z. u.by s at r (sym k.found ∙ z))) h
