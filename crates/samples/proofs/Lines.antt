-- A tab stands within its line; a line that is too long has none; and no response is longer than the room that is kept for one.
use Prim.Native.Nat.{ℕ, ◌≤◌, ◌<◌}
use mathlib.Core.List.{List}
use mathlib.Core.Bool.{Bool, true, false}
use mathlib.Core.Logic.{inl, inr}
use mathlib.Core.Path.{◌≡◌}
use native.Mathlib.Omega.{arith}
use lib.Dec.{leb}
use lib.ListN.{length, take, length-append}
use borrow.Author.Tests.{lt-leb}
use Rattle.parser.specs.Reading.{pick}
use Rattle.std.specs.declared.option.Option.{Option}
use Rattle.std.specs.declared.option.Option.TheVariants.{None, Some}
use Rattle.lines.specs.Lines.{place_of}
use Rattle.lines.proofs.Laws.{place_within}
use Rattle.reply.specs.Line.{question_of}
use Rattle.reply.proofs.Asked.{clip_alike}
use Rattle.reply.proofs.Short.{answer_short}
use Rattle.samples.specs.Samples.{question_in, theirs, Tells, tab_of, ComparedAt, ComparesLine}

pub tab_within : (l : List ℕ) (tab : ℕ) → tab_of l ≡ Some tab → tab < length l
unfolding tab_of
tab_within l tab e = go (leb (length l) 1023) e
  where
    go : (b : Bool) → pick b (place_of 9 l 0) None ≡ Some tab → tab < length l
    go true e = (place_within 9 l 0 tab e).1
    go false e = let z : ◌≡◌ {A = ℕ} 0 1 = cc in absurd (omega arith)

long_open : (l : List ℕ) → 1023 < length l → tab_of l ≡ None
unfolding tab_of
long_open l h = rw (lt-leb (length l) 1023 h)

-- a response to the first 1,024 bytes of a line, or more of them, is a response to the line
pub compares_clip : (limit : ℕ) (l t : List ℕ) → 1024 ≤ limit → ComparesLine (take limit l) t → ComparesLine l t
compares_clip limit l t h =
    clip_alike (λ m. ComparesLine m t) 1023 limit h
    (λ m u i j a. record { answer = a.answer; compares = rw (long_open u j) (rw (long_open m i) at a.compares); ends = a.ends })
    l

tells_short : (ours theirs t : List ℕ) → length ours ≤ 800 → Tells ours theirs t → length t ≤ 808
tells_short ours theirs t h (inl a) = rw a.1 (omega arith)
tells_short ours theirs t h (inr a) = rw a.1 (simp length-append (omega arith))

compared_short : (e : Option ℕ) (l t : List ℕ) → ComparedAt e l t → length t ≤ 808
compared_short (Some tab) l t a = tells_short a.ours (theirs tab l) t (answer_short false (question_of (question_in tab l)) _ a.ours a.told) a.tells
compared_short None l t a = rw a (omega arith)

pub line_short : (l t : List ℕ) → ComparesLine l t → length t ≤ 1024
line_short l t a = rw a.ends (simp length-append (omega (arith, compared_short (tab_of l) l a.answer a.compares)))
