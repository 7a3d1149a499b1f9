-- What holds after some lines of a block: the texts that were put make one, for the bytes from the place up to what is used.
use Prim.Native.Nat.{ℕ, ◌+◌, ◌-◌, ◌≤◌, ◌<◌, min}
use mathlib.Core.List.{List, [], ◌++◌}
use mathlib.Core.Path.{◌≡◌, refl, ◌∙◌}
use native.Mathlib.Omega.{arith}
use lib.ListN.{length, take, length-append}
use Rattle.lines.specs.Lines.{between}
use Rattle.lines.proofs.Held.{between_then, take_lesser}
use Rattle.text.specs.Text.{Puts}
use Rattle.text.proofs.Laws.{puts_nothing, then_puts, puts_fits, puts_clips}
use Rattle.stream.specs.declared.Program.{Program}
use Rattle.stream.specs.declared.Reached.{Reached}
use Rattle.stream.specs.Stream.{Goes, One}
use Rattle.stream.proofs.Laws.{nothing_goes, goes_then}

module _ (p : Program) (held : ℕ) (block : List ℕ) (from : ℕ) (kept₀ out₀ : List ℕ) where
  pub record Sofar (kept out : List ℕ) (now used at : ℕ) : Type 0 where
    pub text : List ℕ
    pub goes : Goes p (length kept₀) (between from used block) text (take held kept₀) (take now kept)
    pub puts : Puts text out₀ 0 out at
    pub place : at ≡ length text
    pub fits : at ≤ length out
    pub room : now ≤ length kept
    pub kept_size : length kept ≡ length kept₀
    pub out_size : length out ≡ length out₀
    pub on : from ≤ used
    pub within : used ≤ from + (length block - from)
    pub fresh : used ≡ from → at ≡ 0

  pub starts : (n : ℕ) → n ≡ min held (length kept₀) → Sofar kept₀ out₀ n from 0
  starts n e =
      let none : from - from ≡ 0 = omega arith in
      record {
        text = [];
        goes = rw (none, e, take_lesser held kept₀) (nothing_goes p (length kept₀) (take held kept₀));
        puts = puts_nothing out₀ 0;
        place = refl;
        fits = omega arith;
        room = omega arith;
        kept_size = refl;
        out_size = refl;
        on = omega arith;
        within = omega arith;
        fresh = λ h. refl;
      }

  pub goes_on : {kept out kept' out' : List ℕ} {now used at : ℕ} {r : Reached} → Sofar kept out now used at → used < length block → at + 16384 ≤ length out
      → One p now block used kept out at kept' out' r → Sofar kept' out' r.held r.used r.at
  goes_on {kept} {out} {kept'} {out'} {now} {used} {at} {r} s more free o =
      let whole = puts_fits o.puts (omega (arith, o.short)) in
      let sizes = puts_clips o.puts s.fits in
      let m = o.moves in
      record {
        text = s.text ++ o.text;
        goes = rw (between_then from used r.used block s.on m.on) at (goes_then p (length kept₀) s.goes (rw s.kept_size at o.goes));
        puts = then_puts s.puts o.puts;
        place = rw (length-append s.text o.text) (omega (arith, whole.0, s.place));
        fits = omega (arith, sizes.place, sizes.size);
        room = omega (arith, o.room, o.size);
        kept_size = o.size ∙ s.kept_size;
        out_size = sizes.size ∙ s.out_size;
        on = omega (arith, s.on, m.on);
        within = omega (arith, s.on, s.within, m.within);
        fresh = λ h. absurd (omega (arith, m.some more, s.on));
      }
