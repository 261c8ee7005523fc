-- The numbers of the faults of a text, and their messages.
use Rattle.std.specs.Prelude.{ℕ, List, ◌++◌, codes}
use Rattle.std.specs.Fmt.{decimal}
use Rattle.usbids_text.specs.declared.fault.LineFault.{LineFault}
use Rattle.usbids_text.specs.declared.fault.ReadFault.{ReadFault}
use Rattle.usbids_text.specs.declared.fault.ReadFault.TheVariants as fault
use Rattle.usbids_text.specs.declared.line.Why.{Why}
use Rattle.usbids_text.specs.declared.line.Why.TheVariants.{BadTop, BadCode, NoParent, LineTooLong}

-- the number of a line's fault
abbrev pub why_number : Why → ℕ
why_number BadTop = 1
why_number BadCode = 2
why_number NoParent = 3
why_number LineTooLong = 4

-- the number of the faulty line's fault, or 5 if out of memory
abbrev pub read_fault_number : ReadFault → ℕ
read_fault_number (fault.Line line) = why_number line.why
read_fault_number fault.NoMemory = 5

-- the name of a line's fault
abbrev pub why_text : Why → List ℕ
why_text BadTop = codes "BadTop"
why_text BadCode = codes "BadCode"
why_text NoParent = codes "NoParent"
why_text LineTooLong = codes "LineTooLong"

-- for example `line 2: NoParent`
abbrev pub line_fault_text : LineFault → List ℕ
line_fault_text fault = codes "line " ++ decimal fault.line ++ codes ": " ++ why_text fault.why

-- the faulty line, or out of memory
abbrev pub read_fault_text : ReadFault → List ℕ
read_fault_text (fault.Line line) = line_fault_text line
read_fault_text fault.NoMemory = codes "out of memory"
