-- What holds after some steps over a block: the texts that were handed over make one, for the bytes that are used.
use Prim.Native.Nat.{ℕ, ◌≤◌}
use mathlib.Core.List.{List, [], ◌++◌}
use mathlib.Core.Path.{◌≡◌, refl, ◌∙◌}
use native.Mathlib.Nat.{sub-zero}
use native.Mathlib.Omega.{arith}
use lib.ListN.{length, take}
use lib.Seq.{take_all}
use Rattle.lines.specs.Lines.{between}
use Rattle.lines.proofs.Held.{between_then}
use Rattle.text.proofs.Laws.{puts_clips}
use Rattle.stream.specs.declared.Program.{Program}
use Rattle.stream.specs.declared.Reached.{Reached}
use Rattle.stream.specs.Stream.{Goes, Steps}
use Rattle.stream.proofs.Laws.{nothing_goes, goes_then}
use Rattle.filter.specs.declared.Buffers.{Buffers}
use Rattle.filter.specs.Served.{Handed}

module _ (p : Program) (b₀ : Buffers) (block : List ℕ) where
  pub record Along (b : Buffers) (used : ℕ) : Type 0 where
    pub text : List ℕ
    pub goes : Goes p (length b₀.kept) (between 0 used block) text (take b₀.held b₀.kept) (take b.held b.kept)
    pub kept_size : length b.kept ≡ length b₀.kept
    pub out_size : length b.out ≡ length b₀.out
    pub within : used ≤ length block

  pub begins : Along b₀ 0
  begins = record { text = []; goes = nothing_goes p (length b₀.kept) (take b₀.held b₀.kept); kept_size = refl; out_size = refl; within = omega arith }

  pub goes_along : {b : Buffers} {used : ℕ} {kept out : List ℕ} {r : Reached} → Along b used → Steps p b.held block used b.kept b.out kept out r
      → Along (record { kept = kept; held = r.held; out = out }) r.used
  goes_along {b} {used} {kept} {out} {r} a s =
      record {
        text = a.text ++ s.text;
        goes = rw (between_then 0 used r.used block (omega arith) s.used) at (goes_then p (length b₀.kept) a.goes (rw a.kept_size at s.goes));
        kept_size = s.size ∙ a.kept_size;
        out_size = (puts_clips s.puts (omega arith)).size ∙ a.out_size;
        within = omega (arith, a.within, s.within);
      }

  pub ends : {b : Buffers} {used : ℕ} → 1024 ≤ length b₀.kept → Along b used → length block ≤ used → Handed p (length b₀.kept) block (take b₀.held b₀.kept) (take b.held b.kept)
  ends {b} {used} room a h =
      let all : between 0 used block ≡ block = rw (sub-zero used) (take_all used block h) in
      record { text = a.text; goes = (rw all at a.goes).goes room }
