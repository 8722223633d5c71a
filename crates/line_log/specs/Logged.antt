-- What a journal tells of itself, and what makes journals.
use Rattle.std.specs.Prelude.{◌≡◌, ◌⊎◌, ℕ, ◌+◌, ◌-◌, ◌^◌, max, min, List, [], ◌∷◌, ◌++◌, map}
use Rattle.std.specs.Prelude.{Option, Some, option_map, string_bytes}
use Rattle.line_log.specs.declared.journal.LineCounts.{LineCounts}
use Rattle.line_log.specs.declared.memory.MemJournal.{MemJournal}
use Rattle.line_log.specs.Lines.{texts}

-- the path that a journal is over, the lines that it holds, where it tells them, and how many it
-- was given that it wrote, and that it lost
pub record Logged : Type 0 where
  pub path : List ℕ
  pub lines : Option (List (List ℕ))
  pub written : ℕ
  pub lost : ℕ

abbrev pub counts_in : Logged → LineCounts
counts_in l = record { written = l.written; lost = l.lost }

-- one more: a count never falls, and stands still at the last value of a `u64`
abbrev pub one_more : ℕ → ℕ
one_more count = max count (min (count + 1) (2 ^ 64 - 1))

-- it was given no line
pub record HasNone (log : Logged) : Type 0 where
  pub lines : log.lines ≡ option_map (λ (ls : List (List ℕ)). []) log.lines
  pub written : log.written ≡ 0
  pub lost : log.lost ≡ 0

-- a line was written behind the others
pub record IsWritten (old : Logged) (line : List ℕ) (new : Logged) : Type 0 where
  pub path : new.path ≡ old.path
  pub lines : new.lines ≡ option_map (λ (ls : List (List ℕ)). ls ++ line ∷ []) old.lines
  pub written : new.written ≡ one_more old.written
  pub lost : new.lost ≡ old.lost

-- one was lost
pub record IsLost (old new : Logged) : Type 0 where
  pub path : new.path ≡ old.path
  pub lines : new.lines ≡ old.lines
  pub written : new.written ≡ old.written
  pub lost : new.lost ≡ one_more old.lost

abbrev pub IsAppended : Logged → List ℕ → Logged → Type 0
IsAppended old line new = IsWritten old line new ⊎ IsLost old new

-- what was logged by the journals that were given back, where it is told, with one more
abbrev pub with_log : Option (List Logged) → Logged → Option (List Logged)
with_log closed log = option_map (λ (logs : List Logged). logs ++ log ∷ []) closed

-- a journal in memory
abbrev pub held : MemJournal → Logged
held j = record {
  path = string_bytes j.path;
  lines = Some (texts j.lines.items);
  written = j.counts.written;
  lost = j.counts.lost;
}

abbrev pub all_held : List MemJournal → List Logged
all_held journals = map held journals
