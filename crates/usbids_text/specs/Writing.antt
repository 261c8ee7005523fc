-- The text that is written for a document.
use Rattle.std.specs.Prelude.{ℕ, ◌+◌, ◌-◌, ◌/◌, ◌%◌, List, [], ◌∷◌, ◌++◌, drop, codes, Option, Some, None}
use Rattle.usbnum_core.specs.Number.{digits_of}
use Rattle.usbids_text.specs.declared.kind.Kind.TheVariants.{Vendor, Tagged}
use Rattle.usbids_text.specs.declared.kind.Depth.{Depth}
use Rattle.usbids_text.specs.declared.kind.Depth.TheVariants.{Zero, One, Two}
use Rattle.usbids_text.specs.Entries.{EntryLine, TopEntry, preorder}
use Rattle.usbids_text.specs.Moments.{Moment}

-- one tab for each level of depth; for a tagged top the tag and a space
abbrev pub front : Depth → List ℕ
front (Zero Vendor) = []
front (Zero (Tagged tag)) = tag ++ 32 ∷ []
front One = 9 ∷ []
front Two = 9 ∷ 9 ∷ []

-- the last `digits` of a code's four lower-case hexadecimal digits
unfoldable pub code_text : ℕ → ℕ → List ℕ
code_text digits code = drop (4 - digits) (digits_of code)

-- two spaces before a name that is not empty
abbrev pub gap : List ℕ → List ℕ
gap [] = []
gap (b ∷ bytes) = 32 ∷ 32 ∷ []

-- a line without its line feed: the part before the code, the code, and the name
unfoldable pub line_text : List ℕ → ℕ → ℕ → List ℕ → List ℕ
line_text before digits code name = before ++ (code_text digits code ++ (gap name ++ name))

-- an entry's line
unfoldable pub entry_text : EntryLine → List ℕ
entry_text entry_line = line_text (front entry_line.depth) entry_line.digits entry_line.code entry_line.name ++ 10 ∷ []

-- the lines of entries in order
unfoldable pub lines_text : List EntryLine → List ℕ
lines_text [] = []
lines_text (entry_line ∷ entry_lines) = entry_text entry_line ++ lines_text entry_lines

-- two decimal digits, and four
abbrev pub two_digits : ℕ → List ℕ
two_digits n = (48 + n / 10) ∷ (48 + n % 10) ∷ []

abbrev pub four_digits : ℕ → List ℕ
four_digits n = (48 + n / 1000) ∷ (48 + n / 100 % 10) ∷ (48 + n / 10 % 10) ∷ (48 + n % 10) ∷ []

-- year, month and day, with this byte between them
abbrev pub date_text : ℕ → Moment → List ℕ
date_text between m = four_digits m.year ++ (between ∷ (two_digits m.month ++ (between ∷ two_digits m.day)))

-- hour, minute and second
abbrev pub time_text : Moment → List ℕ
time_text m = two_digits m.hour ++ (58 ∷ (two_digits m.minute ++ (58 ∷ two_digits m.second)))

-- the comment lines with the date and time of the list
unfoldable pub stamp_text : Option Moment → List ℕ
stamp_text None = []
stamp_text (Some m) = (codes "# Version: " ++ (date_text 46 m ++ 10 ∷ [])) ++ (codes "# Date:    " ++ (date_text 45 m ++ (32 ∷ (time_text m ++ 10 ∷ []))))

unfoldable pub title : List ℕ
title = codes "# List of USB numbers in the syntax of usb.ids"

-- the title, the stamp if there is one, and an empty line
abbrev pub head_text : Option Moment → List ℕ
head_text stamp = (title ++ 10 ∷ []) ++ (stamp_text stamp ++ 10 ∷ [])

-- the head, and then each entry in preorder
abbrev pub written : List TopEntry → Option Moment → List ℕ
written doc stamp = head_text stamp ++ lines_text (preorder doc)
