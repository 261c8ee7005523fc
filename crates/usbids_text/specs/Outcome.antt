-- The state after the lines of a text.
use Rattle.std.specs.Prelude.{ℕ, nat_lt, List, [], ◌∷◌, length, is_some, if◌then◌else◌}
use Rattle.usbids_text.specs.declared.line.Why.TheVariants.{LineTooLong}
use Rattle.usbids_text.specs.Cut.{cut}
use Rattle.usbids_text.specs.Feeding.{Held, line_done, refused}

-- the state after these lines; the first fault stays
unfoldable pub done : Held → List (List ℕ) → Held
done h [] = h
done h (l ∷ ls) = done (if is_some h.fault then h else line_done h l) ls

-- an incomplete line that is too long is faulty before it ends
abbrev pub over : Held → List ℕ → Held
over h rest = if is_some h.fault then h else (if nat_lt 65536 (length rest) then refused h LineTooLong else h)

-- the state after a text that may continue
unfoldable pub held_after : Held → List ℕ → Held
held_after h text = over (done h (cut text).0) (cut text).1
