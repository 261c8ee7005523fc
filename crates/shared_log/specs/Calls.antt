-- What the answers of a log mean.
--
-- A log keeps one list of lines. Line n is the n-th of it, from 0. Calls of other machines may come before, inside and
-- after each of ours, so the list only grows; an answer is about some instant of the call.
use Rattle.std.specs.Prelude.{◌≡◌, ℕ, ◌-◌, ◌<◌, List, [], ◌∷◌, ◌++◌, length, drop, slice_get, false, Some}
use Rattle.shared_log.specs.declared.answers.AppendAnswer.{AppendAnswer}
use Rattle.shared_log.specs.declared.answers.AppendAnswer.TheVariants.{Appended, Taken, Behind}
use Rattle.shared_log.specs.declared.answers.HeadAnswer.{HeadAnswer}
use Rattle.shared_log.specs.declared.answers.PageAnswer.{PageAnswer}
use Rattle.shared_log.specs.declared.log.Log.{Ghosts}

-- the lines of a log
abbrev pub LogLines : Type 0
LogLines = List (List ℕ)

-- the new list has all lines of the old one, under their numbers
abbrev pub Grows : LogLines → LogLines → Type 0
Grows old new = (more : LogLines) × (new ≡ old ++ more)

-- the list had this property at some instant between two states
pub record AtSomeInstant (old new : LogLines) (P : LogLines → Type 0) : Type 0 where
  pub instant : LogLines
  pub before : Grows old instant
  pub after : Grows instant new
  pub held : P instant

-- The line was put behind the others as line n, just after some instant.
pub record WasAppended (n : ℕ) (line : List ℕ) (old new : LogLines) : Type 0 where
  pub instant : LogLines
  pub before : Grows old instant
  pub next : length instant ≡ n
  pub after : Grows (instant ++ line ∷ []) new

-- what the answer to an append says of the lines before and after the call
abbrev pub AppendMeans : ℕ → List ℕ → AppendAnswer → LogLines → LogLines → Type 0
AppendMeans n line Appended old new = WasAppended n line old new
AppendMeans n line (Taken other) old new = AtSomeInstant old new (λ log. slice_get log n ≡ Some other)
AppendMeans n line Behind old new = AtSomeInstant old new (λ log. length log < n)

-- the lines from n on: all of them, or, if there are more, the first ones
abbrev pub IsLogPage : ℕ → PageAnswer → LogLines → Type 0
IsLogPage n page log = (rest : LogLines) × (drop n log ≡ page.lines ++ rest) × (page.more ≡ false → rest ≡ [])

-- the number of lines, and the last one
abbrev pub IsLogHead : HeadAnswer → LogLines → Type 0
IsLogHead head log = (length log ≡ head.count) × (head.last ≡ slice_get log (length log - 1))

-- What is trusted of a log: there are lines that it has at each state, and each answer means what it says of them. A call
-- without an answer leaves the lines, with others behind them, of which the line of an append may be one.
pub record KeepsLines {L : Type 0} (g : Ghosts L) (lines : L → LogLines) : Type 0 where
  pub appends : (old new : L) (n : ℕ) (line : List ℕ) (answer : AppendAnswer) → g.appends old new n line answer → AppendMeans n line answer (lines old) (lines new)
  pub reads : (old new : L) (n : ℕ) (page : PageAnswer) → g.reads old new n page → AtSomeInstant (lines old) (lines new) (IsLogPage n page)
  pub looks : (old new : L) (head : HeadAnswer) → g.looks old new head → AtSomeInstant (lines old) (lines new) (IsLogHead head)
  pub fails : (old new : L) → g.fails old new → Grows (lines old) (lines new)
