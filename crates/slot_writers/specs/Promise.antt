-- What a writer promises a C caller of the slots and the buffer.
use Rattle.std.specs.Prelude.{ℕ, ◌<◌, ◌≤◌, List, Result, ◌≡◌, ℤ, pos, length, take, drop, set}
use Rattle.parser.specs.Reading.{Reader}
use Rattle.slots.specs.Slots.{Untouched}
use Rattle.writing.specs.declared.Unwritten.{Unwritten}
use Rattle.writing.specs.Writing.{number_of, count_of, Readable, over}

-- the record a stands in the slots from 2 on, as a reader fills them
abbrev pub Holds : {A : Type 0} → (A → List ℤ) → A → List ℤ → Type 0
Holds slots a before = take (length (slots a)) (drop 2 before) ≡ slots a

-- the number is k, slot 0 has the count m and the others are as they were, and the buffer is l
pub record LeavesIn (k m : ℕ) (l : List ℕ) (before after : List ℤ) (new : List ℕ) (r : ℕ) : Type 0 where
  pub number : r ≡ k
  pub count : after ≡ set before 0 (pos m)
  pub buffer : new ≡ l

-- a writer's answer, told by its number and by the count in slot 0
pub record Tells (w : Result ℕ Unwritten) (before after : List ℤ) (r : ℕ) : Type 0 where
  pub number : r ≡ number_of w
  pub count : after ≡ set before 0 (pos (count_of w))

-- of a kind that takes n slots, by its rule, its slots and its spellings: whatever the slots hold, and whatever room the buffer has
pub record WritesFrom {A : Type 0} (n : ℕ) (p : Reader A) (slots : A → List ℤ) (spelling : A → List ℕ) (before after : List ℤ) (old new : List ℕ) (r : ℕ) : Type 0 where
  pub few : length before < n → Untouched before after r × (new ≡ old)
  pub unread : n ≤ length before → ((a : A) → Readable p a → Holds slots a before → ⊥) → LeavesIn 4 0 old before after new r
  pub short : n ≤ length before → (a : A) → Readable p a → Holds slots a before → length old < length (spelling a) → LeavesIn 5 0 old before after new r
  pub fits : n ≤ length before → (a : A) → Readable p a → Holds slots a before → length (spelling a) ≤ length old → LeavesIn 0 (length (spelling a)) (over (spelling a) old) before after new r
