-- The lines of an input, and their requests.
use Rattle.std.specs.Prelude.{ℕ, ◌+◌, ◌==◌, ◌||◌, Bool, List, [], ◌∷◌, Result, Ok, Err, if◌then◌else◌}
use Rattle.std.specs.List.{list_all}
use Rattle.registry_rules.specs.declared.order.Request.{Request}
use Rattle.registry_wire.specs.declared.refusal.WireRefusal.{WireRefusal}
use Rattle.registry_wire.specs.Reading.{line_reading}
use Rattle.registry_commands.specs.declared.lines.BadLine.{BadLine}

-- the lines with one more byte at the front of the first
abbrev pub in_front : ℕ → List (List ℕ) → List (List ℕ)
in_front b [] = (b ∷ []) ∷ []
in_front b (line ∷ lines) = (b ∷ line) ∷ lines

-- The lines: each ends at its line feed, which is not part of it; a last piece without a line feed is a line too.
unfoldable pub lines_of : List ℕ → List (List ℕ)
lines_of [] = []
lines_of (b ∷ bytes) = if b == 10 then [] ∷ lines_of bytes else in_front b (lines_of bytes)

-- the line has only spaces, tabs and carriage returns
unfoldable pub is_blank : List ℕ → Bool
is_blank line = list_all (λ b. b == 32 || b == 9 || b == 13) line

-- the request of the line with this number, or the line as a bad one
abbrev pub numbered : ℕ → Result Request WireRefusal → Result Request BadLine
numbered number (Ok request) = Ok request
numbered number (Err refusal) = Err (record { number = number; refusal = refusal })

-- a request and those after it
abbrev pub with_request : Result Request BadLine → Result (List Request) BadLine → Result (List Request) BadLine
with_request (Err bad) rest = Err bad
with_request (Ok request) (Err bad) = Err bad
with_request (Ok request) (Ok rest) = Ok (request ∷ rest)

-- the requests of the lines that are not blank, or the first line that is not a request; number is that of the first line
unfoldable pub requests_from : ℕ → List (List ℕ) → Result (List Request) BadLine
requests_from number [] = Ok []
requests_from number (line ∷ lines) =
    if is_blank line then requests_from (number + 1) lines
    else with_request (numbered number (line_reading line)) (requests_from (number + 1) lines)

-- the requests of the bytes in order, or the first line that is not a request
abbrev pub requests_in : List ℕ → Result (List Request) BadLine
requests_in bytes = requests_from 1 (lines_of bytes)
