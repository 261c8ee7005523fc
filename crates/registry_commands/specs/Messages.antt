-- What the program prints.
use Rattle.std.specs.Prelude.{◌==◌, ◌||◌, List, [], ◌∷◌, ◌++◌, ℕ, codes, nat_lt, if◌then◌else◌}
use Rattle.std.specs.Fmt.{decimal}
use Rattle.serde_json.specs.Written.{compact_text}
use Rattle.registry_rules.specs.declared.verdict.Reply.{Reply}
use Rattle.registry_store.specs.declared.fault.Fault.{Fault}
use Rattle.registry_store.specs.declared.fault.Fault.TheVariants as faults
use Rattle.registry_wire.specs.declared.refusal.WireRefusal.{WireRefusal}
use Rattle.registry_wire.specs.Replies.{refusal_data, reply_data}
use Rattle.registry_commands.specs.declared.input.ReadAllFault.{ReadAllFault}
use Rattle.registry_commands.specs.declared.input.ReadAllFault.TheVariants as inputs
use Rattle.registry_commands.specs.declared.lines.BadLine.{BadLine}
use Rattle.registry_commands.specs.declared.messages.Failure.{Failure}
use Rattle.registry_commands.specs.declared.messages.Failure.TheVariants.{Store, Memory, Foreign, Taken, Poisoned, File}

-- a byte as it is shown: a control character of ASCII, as a line feed, is a question mark
abbrev pub shown : ℕ → ℕ
shown b = if nat_lt b 32 || b == 127 then 63 else b

-- a reply as a line
unfoldable pub reply_line : Reply → List ℕ
reply_line reply = compact_text (reply_data reply) ++ codes "\n"

-- replies as lines, one after another
abbrev pub reply_lines : List Reply → List ℕ
reply_lines [] = []
reply_lines (reply ∷ replies) = reply_line reply ++ reply_lines replies

-- a line that says why bytes are not a request, a founding file or a list
unfoldable pub refusal_line : WireRefusal → List ℕ
refusal_line refusal = compact_text (refusal_data refusal) ++ codes "\n"

-- the message for the first line that is not a request
unfoldable pub bad_line_text : BadLine → List ℕ
bad_line_text bad = codes "line " ++ decimal bad.number ++ codes ": " ++ refusal_line bad.refusal

-- the message if more requests are said to be answered than were read
abbrev pub exceeds_text : List ℕ
exceeds_text = codes "answered exceeds requests\n"

-- the message for a failure of a command
abbrev pub failure_line : Failure → List ℕ
failure_line Store = codes "fault: store\n"
failure_line Memory = codes "fault: memory\n"
failure_line Foreign = codes "fault: foreign\n"
failure_line Taken = codes "fault: taken\n"
failure_line Poisoned = codes "fault: spent\n"
failure_line File = codes "fault: file\n"

-- the failure for a fault of the registry
abbrev pub failure_of : Fault → Failure
failure_of faults.Store = Store
failure_of faults.NoMemory = Memory
failure_of faults.Foreign = Foreign
failure_of faults.Taken = Taken
failure_of faults.Poisoned = Poisoned

-- the failure for a fault of an input
abbrev pub input_failure : ReadAllFault → Failure
input_failure inputs.File = File
input_failure inputs.NoMemory = Memory

-- why an input cannot be read
abbrev pub read_all_fault_text : ReadAllFault → List ℕ
read_all_fault_text inputs.File = codes "the input failed or is too long"
read_all_fault_text inputs.NoMemory = codes "out of memory"
