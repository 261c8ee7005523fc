-- The state of a reader that takes a text in pieces.
use Rattle.std.specs.Prelude.{ℕ, ◌+◌, ◌==◌, nat_lt, List, [], ◌∷◌, ◌++◌, length, Option, Some, None, is_some, Result, Ok, Err, if◌then◌else◌}
use Rattle.usbids_text.specs.declared.line.Why.{Why}
use Rattle.usbids_text.specs.declared.line.Why.TheVariants.{LineTooLong}
use Rattle.usbids_text.specs.declared.fault.ReadFault.{ReadFault}
use Rattle.usbids_text.specs.declared.fault.ReadFault.TheVariants.{Line}
use Rattle.usbids_text.specs.Entries.{EntryLine}
use Rattle.usbids_text.specs.Lines.{line_class}
use Rattle.usbids_text.specs.Documents.{next}
use Rattle.usbids_text.specs.Opens.{Open, none_open, put, misplaced_in}

-- the state after the complete lines so far: the number of the next line, the document, and the first fault
pub record Held : Type 0 where
  pub line : ℕ
  pub built : Open
  pub fault : Option ReadFault

abbrev pub refused : Held → Why → Held
refused h why = record h { fault = Some (Line (record { line = h.line; why = why })) }

abbrev pub with_fault : Held → EntryLine → Option Why → Held
with_fault h entry_line None = record h { line = next h.line; built = put h.built entry_line }
with_fault h entry_line (Some why) = refused h why

abbrev pub with_class : Held → Result (Option EntryLine) Why → Held
with_class h (Ok None) = record h { line = next h.line }
with_class h (Ok (Some entry_line)) = with_fault h entry_line (misplaced_in h.built entry_line)
with_class h (Err why) = refused h why

-- the state after one more line
unfoldable pub line_done : Held → List ℕ → Held
line_done h line = with_class h (line_class line)

-- the state after the bytes so far: the bytes of the incomplete line, and the state after the lines before it
pub record Fed : Type 0 where
  pub pending : List ℕ
  pub held : Held

abbrev pub longer : Fed → ℕ → Fed
longer s b = if nat_lt (length s.pending) 65536 then record s { pending = s.pending ++ b ∷ [] }
    else record { pending = []; held = refused s.held LineTooLong }

-- the state after one more byte; a line that is too long is faulty before it ends
unfoldable pub took : Fed → ℕ → Fed
took s b = if is_some s.held.fault then s
    else (if b == 10 then record { pending = []; held = line_done s.held s.pending } else longer s b)

-- the state after these bytes
unfoldable pub fed : Fed → List ℕ → Fed
fed s [] = s
fed s (b ∷ bytes) = fed (took s b) bytes

-- the state after one more line; the first fault stays
abbrev pub step : Held → List ℕ → Held
step h line = if is_some h.fault then h else line_done h line

-- the state after the rest of a line and its line feed
unfoldable pub ended : Fed → List ℕ → Fed
ended s part = if is_some s.held.fault then s else record { pending = []; held = line_done s.held (s.pending ++ part) }

-- the state after bytes without a line feed
unfoldable pub kept : Fed → List ℕ → Fed
kept s [] = s
kept s (b ∷ bytes) = if is_some s.held.fault then s
    else (if nat_lt 65536 (length s.pending + length (b ∷ bytes)) then record { pending = []; held = refused s.held LineTooLong } else record s { pending = s.pending ++ b ∷ bytes })

abbrev pub with_last : Held → List ℕ → Held
with_last h [] = h
with_last h (b ∷ bytes) = step h (b ∷ bytes)

-- the state at the end of the text, where the remaining bytes are the last line
unfoldable pub finished : Fed → Held
finished s = with_last s.held s.pending

-- the state before the first byte
abbrev pub start : Fed
start = record { pending = []; held = record { line = 1; built = none_open []; fault = None } }
