-- The lines of a record as they are read, one after another.
use Rattle.std.specs.Prelude.{◌≡◌, ◌⊎◌, ◌<◌, ◌≤◌, ◌+◌, ◌-◌, ◌^◌, ℕ, nat_le, List, [], ◌∷◌, ◌++◌, length, take, drop, position, Option, Some, None, ⊤, if◌then◌else◌, ◌==◌}
use Rattle.std.specs.Io.KnownBytes.{prepend_known}
use Rattle.byte_streams.specs.Streams.{FailsOnce}
use Rattle.registry_commands.specs.declared.record_lines.Found.{Found}
use Rattle.registry_commands.specs.declared.record_lines.Found.TheVariants.{End, Line, TooLong}
use Rattle.registry_commands.specs.declared.unread.Unread.{Unread}
use Rattle.registry_commands.specs.Lines.{lines_of}

-- the most bytes of a line, without its line feed
abbrev pub most_line : ℕ
most_line = 4194304

-- These may be the lines of what is still to come: exactly those of the known bytes, if they are known.
abbrev pub MayHaveLines : Option (List ℕ) → List (List ℕ) → Type 0
MayHaveLines None lines = ⊤
MayHaveLines (Some bytes) lines = lines ≡ lines_of bytes

-- These lines were passed: those before are they and those after.
abbrev pub Passes : Option (List ℕ) → Option (List ℕ) → List (List ℕ) → Type 0
Passes old new passed = (rest : List (List ℕ)) → MayHaveLines new rest → MayHaveLines old (passed ++ rest)

-- what was read and not yet passed
abbrev pub unread_of : Unread → List ℕ
unread_of it = drop it.start it.bytes.items

-- what is still to come, if it is known: the unread bytes, and then those that the source gives
abbrev pub ahead : Option (List ℕ) → Unread → Option (List ℕ)
ahead rest it = prepend_known (unread_of it) rest

-- what is found if the next line has so many bytes
abbrev pub of_length : ℕ → Found
of_length n = if nat_le n most_line then Line n else TooLong

-- what is found if so many bytes are the last ones, without a line feed
abbrev pub last_line : ℕ → Found
last_line n = if n == 0 then End else Line n

-- What was found at the next line of these bytes. A line of n bytes is at the front of what was read: if it is passed, what
-- follows is to come.
abbrev pub FindsLine : Option (List ℕ) → Option (List ℕ) → Unread → Found → Type 0
FindsLine old rest it End = MayHaveLines old []
FindsLine old rest it TooLong = (line : List ℕ) × (lines : List (List ℕ)) × (most_line < length line) × MayHaveLines old (line ∷ lines)
FindsLine old rest it (Line n) = (n ≤ length (unread_of it)) × (n ≤ most_line)
    × Passes old (prepend_known (drop (n + 1) (unread_of it)) rest) (take n (unread_of it) ∷ [])

-- A part of a line, whose end is not among these bytes: they have no line feed, and are no more than a line may have.
pub record IsPartOfLine (bytes : List ℕ) : Type 0 where
  pub open_ended : position (λ b. b == 10) bytes ≡ None
  pub few : length bytes ≤ most_line

-- These lines were passed, and what was read after them is a part of a line. If a read may only fail there, none is made once
-- the next line is there: any read may fail.
pub record HasReadTo (to_come now : Option (List ℕ)) (passed : List (List ℕ)) (it : Unread) : Type 0 where
  pub passes : Passes to_come now passed
  pub part : IsPartOfLine (unread_of it)

-- All these lines were passed, and the count of the lines that were passed is this many more.
abbrev pub HasPassedLines : Option (List ℕ) → Option (List ℕ) → ℕ → Unread → Type 0
HasPassedLines to_come now before it = (lines : List (List ℕ)) × Passes to_come now lines × (it.lines ≡ before + length lines)

-- one read failed between these counts of failures, or as many lines were passed as are counted
abbrev pub HasFailedOrIsFull : ℕ → ℕ → Unread → Type 0
HasFailedOrIsFull old new it = FailsOnce old new ⊎ (it.lines ≡ 2 ^ 64 - 1)
