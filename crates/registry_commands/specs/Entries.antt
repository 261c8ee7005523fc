-- What the lines of a record say.
use Rattle.std.specs.Prelude.{◌≡◌, ◌≤◌, ◌+◌, ℕ, Bool, true, false, nat_le, List, [], ◌∷◌, length, drop, ⊤, Option, Result, Ok, Err, if◌then◌else◌}
use Rattle.std.specs.Io.KnownBytes.{prepend_known}
use Rattle.registry_wire.specs.declared.record.RecordLine.{RecordLine}
use Rattle.registry_wire.specs.declared.record.RecordLine.TheVariants as wire
use Rattle.registry_wire.specs.declared.refusal.WireRefusal.{WireRefusal}
use Rattle.registry_wire.specs.Record.{record_reading}
use Rattle.registry_commands.specs.declared.entries.Entry.{Entry}
use Rattle.registry_commands.specs.declared.entries.Entry.TheVariants.{End, Blank, Founding, Accepted as Request, Bad}
use Rattle.registry_commands.specs.declared.entries.LineRefusal.TheVariants.{TooLong, NoEntry}
use Rattle.registry_commands.specs.declared.unread.Unread.{Unread}
use Rattle.registry_commands.specs.Lines.{is_blank}
use Rattle.registry_commands.specs.RecordLines.{MayHaveLines, Passes, most_line, unread_of}

-- what was read in a line
abbrev pub entry_by : Result RecordLine WireRefusal → Entry
entry_by (Ok (wire.Founding founding)) = Founding founding
entry_by (Ok (wire.Accepted accepted digest)) = Request accepted digest
entry_by (Err refusal) = Bad (NoEntry refusal)

-- what a line says, if it is not too long
abbrev pub short_entry : List ℕ → Entry
short_entry line = if is_blank line then Blank else entry_by (record_reading line)

-- what a line says
abbrev pub entry_in : List ℕ → Entry
entry_in line = if nat_le (length line) most_line then short_entry line else Bad TooLong

-- the first of these lines says this; if there is none, the end does
abbrev pub FirstSays : List (List ℕ) → Entry → Type 0
FirstSays [] entry = entry ≡ End
FirstSays (line ∷ later) entry = entry_in line ≡ entry

-- the next line, which is not passed, says this
abbrev pub NextSays : Option (List ℕ) → Entry → Type 0
NextSays ahead entry = (lines : List (List ℕ)) × FirstSays lines entry × MayHaveLines ahead lines

-- a line that says this was passed
abbrev pub PassesOne : Option (List ℕ) → Option (List ℕ) → Entry → Type 0
PassesOne old new entry = (line : List ℕ) × (entry_in line ≡ entry) × Passes old new (line ∷ [])

-- a line that is blank or an accepted request
abbrev pub is_followed : Entry → Bool
is_followed Blank = true
is_followed (Request accepted digest) = true
is_followed entry = false

-- a line that may be passed
abbrev pub MayPass : Entry → Type 0
MayPass End = ⊥
MayPass (Bad refusal) = ⊥
MayPass entry = ⊤

-- The next line says this, and nothing was passed. If it may be passed, and is by its size, what follows is to come.
pub record Peeks (old rest : Option (List ℕ)) (it : Unread) (entry : Entry) (size : ℕ) : Type 0 where
  pub next : NextSays old entry
  pub within : size ≤ length (unread_of it)
  pub passed : MayPass entry → PassesOne old (prepend_known (drop (size + 1) (unread_of it)) rest) entry

-- The next line says this. It was passed if it is blank or an accepted request; the counts are those of the lines passed before
-- and now.
abbrev pub TakesEntry : Option (List ℕ) → Option (List ℕ) → ℕ → ℕ → Entry → Type 0
TakesEntry old new n m Blank = PassesOne old new Blank × (m ≡ n + 1)
TakesEntry old new n m (Request accepted digest) = PassesOne old new (Request accepted digest) × (m ≡ n + 1)
TakesEntry old new n m entry = NextSays old entry × (m ≡ n)
