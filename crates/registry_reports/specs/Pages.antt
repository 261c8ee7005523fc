-- A page of lines.
use Rattle.std.specs.Prelude.{◌≡◌, ◌≢◌, ◌⊎◌, ℕ, ◌<◌, ◌≤◌, ◌-◌, ◌/◌, nat_lt, min, List, [], ◌∷◌, ◌++◌, length, take, if◌then◌else◌}
use Rattle.std.specs.String.{string_bytes}
use Rattle.registry_reports.specs.declared.page.Page.{Page}

-- the lines, each ended by a line feed
abbrev pub text_of_lines : List (List ℕ) → List ℕ
text_of_lines [] = []
text_of_lines (line ∷ lines) = line ++ 10 ∷ [] ++ text_of_lines lines

-- at most 1,000 lines, of at most 1,048,576 bytes
pub record FitPage (lines : List (List ℕ)) : Type 0 where
  pub count : length lines ≤ 1000
  pub bytes : length (text_of_lines lines) ≤ 1048576

-- the page of the lines: their longest beginning that fits, or the first line alone if it is longer
pub record IsPage (lines page : List (List ℕ)) : Type 0 where
  pub beginning : page ≡ take (length page) lines
  pub fits : 1 < length page → FitPage page
  pub longest : (n : ℕ) → length page < n → n ≤ length lines → ¬ FitPage (take n lines)
  pub first : lines ≢ [] → page ≢ []

-- the page has these lines so far
abbrev pub HasLines : Page → List (List ℕ) → Type 0
HasLines page lines = (string_bytes page.text ≡ text_of_lines lines) × (page.count ≡ length lines)

-- the line may follow these lines on a page: it is the first, or all of them fit
abbrev pub MayFollow : List (List ℕ) → List ℕ → Type 0
MayFollow lines line = (lines ≡ []) ⊎ FitPage (lines ++ line ∷ [])

-- how many lines are wanted next for a page with so many lines and bytes: none if no line may follow; one if it has none, or
-- if its lines have 4,096 bytes or more on average; else as many as may follow, at most 4
abbrev pub wanted_lines : ℕ → ℕ → ℕ
wanted_lines count bytes = if nat_lt bytes 1048576 then (if nat_lt (bytes / 4096) count then min 4 (1000 - count) else 1) else 0
