-- The keys of a founding file that no founding has, and what a check of the file says.
use Rattle.std.specs.Prelude.{◌≡◌, ◌⊎◌, ◌||◌, ◌++◌, ℕ, Bool, true, false, not, List, [], map, codes, Result, Ok, Err, if◌then◌else◌}
use Rattle.std.specs.Str.{bytes_eq}
use Rattle.toml.specs.Data.{Members, no_members, member}
use Rattle.registry_wire.specs.declared.refusal.WireRefusal.{WireRefusal}
use Rattle.registry_wire.specs.Founding.{Listed, founding_listed, table_of}
use Rattle.registry_commands.specs.declared.messages.Failure.{Failure}
use Rattle.registry_commands.specs.declared.status.ExitStatus.{ExitStatus}
use Rattle.registry_commands.specs.declared.status.ExitStatus.TheVariants.{Success, Failed, Rejected}
use Rattle.registry_commands.specs.Ends.{Output}
use Rattle.registry_commands.specs.Failures.{Prints, PrintsFailure}
use Rattle.registry_commands.specs.Messages.{refusal_line, shown}

-- ---- keys

-- a founding has a key of this name
unfoldable pub is_known_key : List ℕ → Bool
is_known_key key = bytes_eq key (codes "vendor") || (bytes_eq key (codes "name") || (bytes_eq key (codes "curators") || (bytes_eq key (codes "licences") || bytes_eq key (codes "fixed"))))

-- the line for a key that no founding has, and nothing for another
abbrev pub key_line : List ℕ → List ℕ
key_line key = if is_known_key key then [] else codes "unknown key: " ++ map shown key ++ codes "\n"

-- those lines for the keys of a table, in their order
abbrev pub key_lines : Members → List ℕ
key_lines no_members = []
key_lines (member key value others) = key_line key ++ key_lines others

-- some key of a table is one that no founding has
abbrev pub has_unknown_key : Members → Bool
has_unknown_key no_members = false
has_unknown_key (member key value others) = not (is_known_key key) || has_unknown_key others

-- ---- a check

-- Where a key is unknown, the lines say which, at the status Rejected; otherwise nothing is printed, at the status Success.
abbrev pub SaysKeys : Members → Bool → Output → ExitStatus → Type 0
SaysKeys table true errors status = (status ≡ Rejected) × Prints errors (key_lines table)
SaysKeys table false errors status = (status ≡ Success) × (errors.new ≡ errors.old)

-- what a check says of the keys of bytes that are TOML
abbrev pub SaysKeysOf : Result Members WireRefusal → Output → ExitStatus → Type 0
SaysKeysOf (Ok table) errors status = SaysKeys table (has_unknown_key table) errors status
SaysKeysOf (Err refusal) errors status = ⊥

-- What a check says of bytes, by the founding that they list or its first fault: the fault, as a founding does, at the status
-- Rejected; or which keys are unknown. Only bytes that list a founding and have no unknown key get the status Success.
abbrev pub SaysFounding : List ℕ → Result Listed WireRefusal → Output → ExitStatus → Type 0
SaysFounding bytes (Err refusal) errors status = (status ≡ Rejected) × Prints errors (refusal_line refusal)
SaysFounding bytes (Ok listed) errors status = SaysKeysOf (table_of bytes) errors status

-- that, or the check failed, which the error output says
abbrev pub IsFoundingChecked : (Failure → Type 0) → List ℕ → Output → ExitStatus → Type 0
IsFoundingChecked OfInput bytes errors status = SaysFounding bytes (founding_listed bytes) errors status ⊎ ((status ≡ Failed) × PrintsFailure OfInput errors)
