-- The class of a line: an entry, no entry, or a fault.
use Rattle.std.specs.Prelude.{ℕ, ◌==◌, nat_le, nat_lt, List, [], ◌∷◌, length, Bool, true, Option, Some, None, Result, Ok, Err, if◌then◌else◌}
use Rattle.usbids_text.specs.declared.line.Why.{Why}
use Rattle.usbids_text.specs.declared.line.Why.TheVariants.{BadTop, BadCode, LineTooLong}
use Rattle.usbids_text.specs.declared.line.Entry.{Entry}
use Rattle.usbids_text.specs.declared.kind.Depth.{Depth}
use Rattle.usbids_text.specs.declared.kind.Depth.TheVariants.{Zero, One, Two}
use Rattle.usbids_text.specs.declared.kind.Kind.TheVariants.{Vendor, Tagged}
use Rattle.usbids_text.specs.Words.{trimmed, word, past_separators, after_word, code_in, is_four, is_tag}
use Rattle.usbids_text.specs.Entries.{EntryLine}

-- the entry that the reader makes from a line
abbrev pub line_of : Entry → EntryLine
line_of e = record { depth = e.depth; code = e.code; digits = e.digits; name = e.name.now }

abbrev pub entry_lines : Option Entry → Option EntryLine
entry_lines None = None
entry_lines (Some e) = Some (line_of e)

-- an entry whose name is longer than 65,000 bytes is faulty
abbrev pub short_enough : EntryLine → Result (Option EntryLine) Why
short_enough entry_line = if nat_le (length entry_line.name) 65000 then Ok (Some entry_line) else Err LineTooLong

abbrev pub with_code : Depth → List ℕ → Option ℕ → Result (Option EntryLine) Why
with_code depth bytes None = Err BadCode
with_code depth bytes (Some code) = short_enough (record { depth = depth; code = code; digits = length (word bytes); name = after_word bytes })

-- a code of one to four digits, and a name
unfoldable pub below : Depth → List ℕ → Result (Option EntryLine) Why
below depth bytes = with_code depth bytes (code_in (word bytes))

-- a tag, and then a code and a name
unfoldable pub tagged : List ℕ → Result (Option EntryLine) Why
tagged bytes = if is_tag (word bytes) then below (Zero (Tagged (word bytes))) (after_word bytes) else Err BadTop

-- a line without a tab at its start: a vendor, or an entry with a tag
unfoldable pub top : List ℕ → Result (Option EntryLine) Why
top bytes = if is_four (word bytes) then below (Zero Vendor) bytes else tagged bytes

-- after one tab: an entry of depth one, or of depth two after another tab
abbrev pub after_tab : List ℕ → Result (Option EntryLine) Why
after_tab [] = below One []
after_tab (b ∷ bytes) = if b == 9 then below Two bytes else below One (b ∷ bytes)

abbrev pub by_tabs : List ℕ → Result (Option EntryLine) Why
by_tabs [] = Ok None
by_tabs (b ∷ bytes) = if b == 9 then after_tab bytes else top (b ∷ bytes)

-- no bytes, or a comment
abbrev pub is_comment : List ℕ → Bool
is_comment [] = true
is_comment (b ∷ bytes) = b == 35

-- a line of more than 65,536 bytes is faulty; blank lines and comments have no entry
unfoldable pub line_class : List ℕ → Result (Option EntryLine) Why
line_class line = if nat_lt 65536 (length line) then Err LineTooLong else (if is_comment (past_separators (trimmed line)) then Ok None else by_tabs (trimmed line))
