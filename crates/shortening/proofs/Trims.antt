-- The laws of shortened texts travel together: a part looks at nothing before its place, reads a text as the shorter one, also where what
-- stands behind a `/` is another, and is open only near its place where nothing more can be left out, up to the next `/`. One law for each
-- combinator and for single bytes; the other leaves are in Zeros, Fields and Fractions.
use Prim.Native.Nat.{ℕ, ◌+◌, ◌≤◌}
use mathlib.Core.List.{List, ◌++◌}
use mathlib.Core.Bool.{Bool, true, false}
use mathlib.Core.Logic.{inl, inr}
use mathlib.Core.Path.{◌≡◌, refl, sym, ◌∙◌}
use native.Mathlib.Numerals.{add-one}
use native.Mathlib.Omega.{arith}
use lib.ListN.{length, get_or}
use lib.Dec.{ltb, eqb}
use borrow.Author.Tests.{ltb-false, eqb-true, not-true}
use Rattle.parser.specs.Reading.{Found, no, got, stop, Reader, lit, seq, opt, alt, verify, must, map, give, pick, and}
use Rattle.parser.specs.Digits.{is_digit}
use Rattle.parser.specs.Fields.{preceded_by}
use Rattle.parser.proofs.Fields.{true≢false}
use Rattle.parser.proofs.Stable.{or_false}
use Rattle.parser.proofs.Places.{no≢got, got_place, Bounded, Foreign, lit_bounded, lit_foreign}
use Rattle.parser.proofs.Lawful.{most, told_apart}
use Rattle.duration.proofs.Laws.{or_true}
use Rattle.interval.specs.Rules.{tried}
use Rattle.shortening.specs.Points.{is_point}
use Rattle.shortening.proofs.Cuts.{Cut, whole, kept, before, behind, Carried, SameAt, Simulates, seq_simulates, opt_simulates, alt_simulates, verify_simulates, must_simulates, map_simulates, give_simulates, tried_simulates}
use Rattle.shortening.proofs.Local.{Local, local_behind, lit_local, seq_local, opt_local, alt_local, verify_local, must_local, map_local, give_local, tried_local}
use Rattle.shortening.proofs.Spans.{SpansAt, Within, seq_within, opt_within, alt_within, verify_within, must_within, map_within, give_within, tried_within}
use Rattle.shortening.proofs.Families.{Family, zeros, fractions, Own, own, behind_slash, CutOf, cut, mark, apart, Reaches, reaches_one, Normal, Proper, proper_reaches}

pub record Trims {A : Type 0} (f : Family) (w : ℕ) (p : Reader A) : Type 0 where
  pub local : Local p
  pub simulates : (z : CutOf f) → Simulates (cut f z) p
  pub within : (s : List ℕ) (from : ℕ) → Normal f s from → Within (Proper f s from) s w p

-- ---- a reader that does not take what stands first where a text is cut

pub same_before : {A : Type 0} (c : Cut) (p : Reader A) → Bounded p → (n : ℕ) → n ≤ length c.before → p.reads (whole c) n ≡ p.reads c.before n → p.reads (kept c) n ≡ p.reads c.before n → SameAt c n n p
same_before {A} c p bp n le e g = rw (e, g) (go (p.reads c.before n) refl)
  where
    go : (x : Found A) → p.reads c.before n ≡ x → Carried c x x
    go no ex = refl
    go (stop r) ex = refl
    go (got a k) ex = record { place = k; found = refl; same = before refl (bp c.before n le a k ex) }

-- before and at the cut by one argument, behind it by the law of places
pub simulates_by : {A : Type 0} (c : Cut) (p : Reader A) → Local p → ((n : ℕ) → n ≤ length c.before → SameAt c n n p) → Simulates c p
simulates_by c p hl h m n (before e le) = rw e (h n le)
simulates_by c p hl h m n (behind k e g) = rw (e, g) (local_behind c p hl k)

pub read_before : {A : Type 0} (c : Cut) (p : Reader A) → Bounded p → (n : ℕ) → n ≤ length c.before → ((y : List ℕ) → p.reads (c.before ++ y) n ≡ p.reads c.before n) → SameAt c n n p
read_before c p bp n le h = same_before c p bp n le (h (c.long ++ c.rest)) (h (c.short ++ c.rest))

-- by its family, and behind a `/`
pub foreign_own : {A : Type 0} (f : Family) (p : Reader A) → Local p → Bounded p → Foreign (λ b. mark f b ≡ true) p → (z : Own f) → Simulates (own f z) p
foreign_own zeros p hl bp hf z = simulates_by (own zeros z) p hl (λ n le. same_before (own zeros z) p bp n le (hf z.before 48 _ n refl le) (hf z.before z.digit _ n z.is le))
foreign_own fractions p hl bp hf z = simulates_by (own fractions z) p hl (λ n le. same_before (own fractions z) p bp n le (hf z.before z.point _ n z.points le) (hf z.before z.point _ n z.points le))

pub foreign_simulates : {A : Type 0} (f : Family) (p : Reader A) → Local p → Bounded p → Foreign (λ b. apart f b ≡ true) p → (z : CutOf f) → Simulates (cut f z) p
foreign_simulates f p hl bp hf (inl z) = foreign_own f p hl bp (λ s b y at h. hf s b y at (rw h (or_true (eqb b 47)))) z
foreign_simulates f p hl bp hf (inr z) = simulates_by (behind_slash z) p hl (λ n le. same_before (behind_slash z) p bp n le (hf z.before 47 _ n refl le) (hf z.before 47 _ n refl le))

-- ---- single bytes

pub lit_spans : (f : Family) (c : ℕ) → apart f c ≡ false → (s : List ℕ) (from at : ℕ) → Reaches s from at → SpansAt (Proper f s from) s 1 at (lit c)
unfolding lit
lit_spans f c other s from at r = record { opens = λ o. omega (arith, ltb-false at (length s) (not-true (ltb at (length s)) o)); ends = λ a n e. go tt a n (ltb at (length s)) (eqb (get_or s at 0) c) refl e }
  where
    proper : (g : Family) → apart g c ≡ false → get_or s at 0 ≡ c → Proper g s from (at + 1)
    proper zeros h e = let x = or_false (eqb c 47) (is_digit c) h in (reaches_one r (rw e x.0), rw (add-one at, e, x.1))
    proper fractions h e = reaches_one r (rw e (or_false (eqb c 47) (is_point c) h).0)

    go : {A : Type 0} (v a : A) (n : ℕ) (t u : Bool) → eqb (get_or s at 0) c ≡ u → pick (and t u) (got v (at + 1)) no ≡ got a n → (n ≤ at + 1) × Proper f s from n
    go v a n true true e eg = let here = got_place eg in (omega arith, rw (← here) (proper f other (eqb-true (get_or s at 0) c e)))
    go v a n true false e eg = absurd (no≢got eg)
    go v a n false u e eg = absurd (no≢got eg)

-- a `/` too is read the same where its text is cut by a family
pub lit_simulates : (f : Family) (c : ℕ) → mark f c ≡ false → (z : Own f) → Simulates (own f z) (lit c)
lit_simulates f c other = foreign_own f (lit c) (lit_local c) (lit_bounded c) (lit_foreign (λ b. mark f b ≡ true) c (λ b h. told_apart (mark f) b c (λ e. true≢false (sym h ∙ e ∙ other))))

pub lit_trims : (f : Family) (c : ℕ) → apart f c ≡ false → Trims f 1 (lit c)
lit_trims f c other = record {
  local = lit_local c;
  simulates = foreign_simulates f (lit c) (lit_local c) (lit_bounded c) (lit_foreign (λ b. apart f b ≡ true) c (λ b h. told_apart (apart f) b c (λ e. true≢false (sym h ∙ e ∙ other))));
  within = λ s from h at g. lit_spans f c other s from at (proper_reaches f g);
}

-- ---- combinators

module _ {f : Family} where
  pub seq_trims : {A B : Type 0} {v w : ℕ} {p : Reader A} {q : A → Reader B} → Trims f v p → ((a : A) → Trims f w (q a)) → Trims f (v + w) (seq p q)
  seq_trims {A} {B} {v} {w} {p} {q} hp hq = record { local = seq_local p q hp.local (λ a. (hq a).local); simulates = λ z. seq_simulates (cut f z) p q (hp.simulates z) (λ a. (hq a).simulates z); within = λ s from h. seq_within (Proper f s from) s v w p q (hp.within s from h) (λ a. (hq a).within s from h) }

  pub opt_trims : {A : Type 0} {w : ℕ} {p : Reader A} → Trims f w p → Trims f w (opt p)
  opt_trims {A} {w} {p} hp = record { local = opt_local p hp.local; simulates = λ z. opt_simulates (cut f z) p (hp.simulates z); within = λ s from h. opt_within (Proper f s from) s w p (hp.within s from h) }

  pub alt_trims : {A : Type 0} {v w : ℕ} {p q : Reader A} → Trims f v p → Trims f w q → Trims f (most v w) (alt p q)
  alt_trims {A} {v} {w} {p} {q} hp hq = record { local = alt_local p q hp.local hq.local; simulates = λ z. alt_simulates (cut f z) p q (hp.simulates z) (hq.simulates z); within = λ s from h. alt_within (Proper f s from) s v w p q (hp.within s from h) (hq.within s from h) }

  pub verify_trims : {A : Type 0} {w : ℕ} (t : A → Bool) {p : Reader A} → Trims f w p → Trims f w (verify t p)
  verify_trims {A} {w} t {p} hp = record { local = verify_local t p hp.local; simulates = λ z. verify_simulates (cut f z) t p (hp.simulates z); within = λ s from h. verify_within (Proper f s from) s w t p (hp.within s from h) }

  pub must_trims : {A : Type 0} {w : ℕ} (t : A → Bool) (r : ℕ) {p : Reader A} → Trims f w p → Trims f w (must t r p)
  must_trims {A} {w} t r {p} hp = record { local = must_local t r p hp.local; simulates = λ z. must_simulates (cut f z) t r p (hp.simulates z); within = λ s from h. must_within (Proper f s from) s w t r p (hp.within s from h) }

  pub map_trims : {A B : Type 0} {w : ℕ} (t : A → B) {p : Reader A} → Trims f w p → Trims f w (map t p)
  map_trims {A} {B} {w} t {p} hp = record { local = map_local t p hp.local; simulates = λ z. map_simulates (cut f z) t p (hp.simulates z); within = λ s from h. map_within (Proper f s from) s w t p (hp.within s from h) }

  pub give_trims : {A : Type 0} (a : A) → Trims f 0 (give a)
  give_trims a = record { local = give_local a; simulates = λ z. give_simulates (cut f z) a; within = λ s from h. give_within (Proper f s from) s a }

  pub tried_trims : {A : Type 0} {w : ℕ} {p : Reader A} → Trims f w p → Trims f w (tried p)
  tried_trims {A} {w} {p} hp = record { local = tried_local p hp.local; simulates = λ z. tried_simulates (cut f z) p (hp.simulates z); within = λ s from h. tried_within (Proper f s from) s w p (hp.within s from h) }

  pub preceded_trims : {A : Type 0} {w : ℕ} {p : Reader A} (c : ℕ) → apart f c ≡ false → Trims f w p → Trims f (1 + w) (preceded_by c p)
  preceded_trims c other hp = seq_trims (opt_trims (lit_trims f c other)) (λ _. hp)
