-- What programs respond to lines, and what is put for all bytes so far.
use Rattle.std.specs.Prelude.{ℕ, ◌+◌, ◌-◌, ◌≤◌, ◌<◌, true, false, List, [], ◌∷◌, ◌++◌, ◌⊎◌, ◌≡◌, length, take}
use Rattle.lines.specs.Lines.{split, lines, between, Holds, Moves}
use Rattle.text.specs.Text.{Puts}
use Rattle.reply.specs.Line.{AnswersLine}
use Rattle.samples.specs.Samples.{ComparesLine}
use Rattle.spellings.specs.Said.{spelled_line}
use Rattle.cuts.specs.Cuts.{SaysLine}
use Rattle.faults.specs.Faults.{WhyLine}
use Rattle.distances.specs.Distances.{AwayLine}
use Rattle.stream.specs.declared.Program.{Program}
use Rattle.stream.specs.declared.Program.TheVariants.{Answers, Replay, Spell, Pieces, Why, WhyShow, Apart}
use Rattle.stream.specs.declared.Reached.{Reached}

-- t is the response of a program to the line l
abbrev pub Responds : Program → List ℕ → List ℕ → Type 0
Responds Answers l t = AnswersLine l t
Responds Replay l t = ComparesLine l t
Responds Spell l t = t ≡ spelled_line l
Responds Pieces l t = SaysLine l t
Responds Why l t = WhyLine false l t
Responds WhyShow l t = WhyLine true l t
Responds Apart l t = AwayLine l t

-- t is a response to the line l, and what others say of what stands behind it
pub record First (p : Program) (l : List ℕ) (others : List ℕ → Type 0) (t : List ℕ) : Type 0 where
  pub first : List ℕ
  pub next : List ℕ
  pub responds : Responds p l first
  pub behind : others next
  pub text : t ≡ first ++ next

-- t is the responses to some lines, in order, each once, one behind the other
abbrev pub Responses : Program → List (List ℕ) → List ℕ → Type 0
Responses p [] t = t ≡ []
Responses p (l ∷ ls) t = First p l (Responses p ls) t

-- All bytes so far: the responses to their finished lines were put, and of the rest the first bytes are held.
pub record After (p : Program) (limit : ℕ) (bytes put held : List ℕ) : Type 0 where
  pub responses : Responses p (split bytes).finished put
  pub holds : Holds limit bytes held

-- From all bytes so far to these and the bytes of a block from a place up to another: the text is what is put for them.
-- The buffer has room for as many bytes of a line as tell a program that it is too long.
pub record Goes (p : Program) (limit : ℕ) (more text old new : List ℕ) : Type 0 where
  pub goes : 1024 ≤ limit → (bytes put : List ℕ) → After p limit bytes put old → After p limit (bytes ++ more) (put ++ text) new

pub record One (p : Program) (held : ℕ) (block : List ℕ) (from : ℕ) (kept out : List ℕ) (at : ℕ) (kept' out' : List ℕ) (r : Reached) : Type 0 where
  pub text : List ℕ
  pub goes : Goes p (length kept) (between from r.used block) text (take held kept) (take r.held kept')
  pub puts : Puts text out at out' r.at
  pub short : length text ≤ 16384
  pub room : r.held ≤ length kept
  pub size : length kept' ≡ length kept
  pub moves : Moves from (length block) r.used

pub record Steps (p : Program) (held : ℕ) (block : List ℕ) (from : ℕ) (kept out kept' out' : List ℕ) (r : Reached) : Type 0 where
  pub text : List ℕ
  pub goes : Goes p (length kept) (between from r.used block) text (take held kept) (take r.held kept')
  pub size : length kept' ≡ length kept
  -- all of the text is put
  pub puts : Puts text out 0 out' r.at
  pub fits : length text ≤ length out
  -- all of the block is used, or there is no room for one response more
  pub used : from ≤ r.used
  pub within : r.used ≤ from + (length block - from)
  pub stops : (r.used ≡ from + (length block - from)) ⊎ (length out < r.at + 16384)
  -- with room for one response some of the block is used
  pub more : 16384 ≤ length out → from < length block → from < r.used

-- at the end of the input the last line counts where it is not empty
pub record Finishes (p : Program) (held : ℕ) (kept out out' : List ℕ) (r : ℕ) : Type 0 where
  pub text : List ℕ
  pub responses : 1024 ≤ length kept → (bytes put : List ℕ) → After p (length kept) bytes put (take held kept) → Responses p (lines bytes) (put ++ text)
  pub puts : Puts text out 0 out' r
