-- The state of a search for one device in the lines of a list.
use Rattle.std.specs.Prelude.{ℕ, ◌+◌, ◌==◌, nat_lt, List, [], ◌∷◌, ◌++◌, length, Bool, true, false, Option, Some, None, is_some, Result, Ok, Err, if◌then◌else◌}
use Rattle.std.specs.Option.{option_or}
use Rattle.usbids_text.specs.declared.kind.Kind.{Kind}
use Rattle.usbids_text.specs.declared.kind.Kind.TheVariants.{Vendor, Tagged}
use Rattle.usbids_text.specs.declared.kind.Depth.TheVariants.{Zero, One, Two}
use Rattle.usbids_text.specs.declared.line.Why.{Why}
use Rattle.usbids_text.specs.declared.line.Why.TheVariants.{BadCode, NoParent, LineTooLong}
use Rattle.usbids_text.specs.declared.fault.ReadFault.{ReadFault}
use Rattle.usbids_text.specs.declared.fault.ReadFault.TheVariants.{Line}
use Rattle.usbids_text.specs.declared.seen.Over.{Over}
use Rattle.usbids_text.specs.declared.seen.Over.TheVariants as over
use Rattle.usbids_text.specs.declared.seen.Seen.{Seen}
use Rattle.usbids_text.specs.declared.seen.Wanted.{Wanted}
use Rattle.usbids_text.specs.Entries.{EntryLine, TopEntry}
use Rattle.usbids_text.specs.Lines.{line_class}
use Rattle.usbids_text.specs.Documents.{next}
use Rattle.usbids_text.specs.Finding.{find_mid}
use Rattle.usbids_text.specs.Opens.{document_so_far, open_mid}
use Rattle.usbids_text.specs.Feeding.{Held, Fed}

-- ---- the state between lines

abbrev pub over_kind : ℕ → Kind → ℕ → Over
over_kind vendor Vendor code = if code == vendor then over.Wanted else over.Other
over_kind vendor (Tagged tag) code = over.Tagged

abbrev pub over_of : ℕ → Option TopEntry → Over
over_of vendor None = over.Nothing
over_of vendor (Some t) = over_kind vendor t.kind t.code

-- the part of this reader's state that a search keeps
abbrev pub seen_of : Wanted → Held → Seen
seen_of wanted h = record { line = h.line; over = over_of wanted.vendor h.built.top; has_mid = is_some (open_mid h.built.top h.built.mid); found = find_mid wanted.vendor wanted.code (document_so_far h.built); fault = h.fault }

-- ---- one line

abbrev pub seen_below : Over → ℕ → Option Why
seen_below over.Nothing digits = Some NoParent
seen_below over.Tagged digits = None
seen_below over.Wanted digits = if digits == 4 then None else Some BadCode
seen_below over.Other digits = if digits == 4 then None else Some BadCode

-- the fault of an entry that is misplaced here
unfoldable pub seen_misplaced : Seen → EntryLine → Option Why
seen_misplaced q entry_line = elim entry_line.depth as (λ _. Option Why) [ Zero kind ↦ None | One ↦ seen_below q.over entry_line.digits | Two ↦ (if q.has_mid then None else Some NoParent) ]

abbrev pub seen_top : Wanted → Seen → Kind → ℕ → Seen
seen_top wanted q kind code = record q { over = over_kind wanted.vendor kind code; has_mid = false }

abbrev pub is_match : Wanted → Over → ℕ → Bool
is_match wanted over.Wanted code = code == wanted.code
is_match wanted over.Nothing code = false
is_match wanted over.Other code = false
is_match wanted over.Tagged code = false

-- the first match stays
abbrev pub seen_mid : Wanted → Seen → ℕ → List ℕ → Seen
seen_mid wanted q code name = record q { has_mid = true; found = option_or q.found (if is_match wanted q.over code then Some name else None) }

-- the state after an entry that is in its place
unfoldable pub seen_put : Wanted → Seen → EntryLine → Seen
seen_put wanted q entry_line = elim entry_line.depth as (λ _. Seen) [ Zero kind ↦ seen_top wanted q kind entry_line.code | One ↦ seen_mid wanted q entry_line.code entry_line.name | Two ↦ q ]

abbrev pub seen_refused : Seen → Why → Seen
seen_refused q why = record q { fault = Some (Line (record { line = q.line; why = why })) }

abbrev pub seen_next : Seen → Seen
seen_next q = record q { line = next q.line }

abbrev pub seen_fault : Wanted → Seen → EntryLine → Option Why → Seen
seen_fault wanted q entry_line None = seen_next (seen_put wanted q entry_line)
seen_fault wanted q entry_line (Some why) = seen_refused q why

abbrev pub seen_class : Wanted → Seen → Result (Option EntryLine) Why → Seen
seen_class wanted q (Ok None) = seen_next q
seen_class wanted q (Ok (Some entry_line)) = seen_fault wanted q entry_line (seen_misplaced q entry_line)
seen_class wanted q (Err why) = seen_refused q why

-- the state after one more line
unfoldable pub seen_line : Wanted → Seen → List ℕ → Seen
seen_line wanted q line = seen_class wanted q (line_class line)

-- the state after one more line; the first fault stays
abbrev pub seen_step : Wanted → Seen → List ℕ → Seen
seen_step wanted q line = if is_some q.fault then q else seen_line wanted q line

-- ---- bytes that come in pieces

-- the state after the bytes so far: the bytes of the incomplete line, and the state after the lines before it
pub record Scanned : Type 0 where
  pub pending : List ℕ
  pub seen : Seen

-- the part of this reader's state that a search keeps
abbrev pub scanned_of : Wanted → Fed → Scanned
scanned_of wanted s = record { pending = s.pending; seen = seen_of wanted s.held }

-- the state after the rest of a line and its line feed
unfoldable pub scan_ended : Wanted → Scanned → List ℕ → Scanned
scan_ended wanted s part = if is_some s.seen.fault then s else record { pending = []; seen = seen_line wanted s.seen (s.pending ++ part) }

-- the state after bytes without a line feed
unfoldable pub scan_kept : Scanned → List ℕ → Scanned
scan_kept s [] = s
scan_kept s (b ∷ bytes) = if is_some s.seen.fault then s
    else (if nat_lt 65536 (length s.pending + length (b ∷ bytes)) then record { pending = []; seen = seen_refused s.seen LineTooLong } else record s { pending = s.pending ++ b ∷ bytes })

abbrev pub seen_last : Wanted → Seen → List ℕ → Seen
seen_last wanted q [] = q
seen_last wanted q (b ∷ bytes) = seen_step wanted q (b ∷ bytes)

-- the state at the end of the text, where the remaining bytes are the last line
unfoldable pub scan_finished : Wanted → Scanned → Seen
scan_finished wanted s = seen_last wanted s.seen s.pending

-- the name that was found, or the fault of a line
abbrev pub seen_answer : Option ReadFault → Option (List ℕ) → Result (Option (List ℕ)) ReadFault
seen_answer None found = Ok found
seen_answer (Some fault) found = Err fault
