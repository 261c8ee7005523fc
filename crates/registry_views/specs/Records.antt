-- A page of the record of a history.
use Rattle.std.specs.Prelude.{◌≡◌, ℕ, ◌<◌, ◌≤◌, List, length, map, take, drop}
use Rattle.registry_rules.specs.Accepted.{AreValid, accepted_of}
use Rattle.registry_rules.specs.History.{History}
use Rattle.registry_rules.specs.declared.accepted.Accepted.{Accepted}
use Rattle.registry_reports.specs.Pages.{FitPage, HasLines, IsPage, text_of_lines}
use Rattle.registry_reports.specs.declared.page.Page.{Page}
use Rattle.registry_wire.specs.Record.{accepted_line}

-- the lines of the accepted requests after the first `after`, oldest first
abbrev pub lines_after : History → ℕ → List (List ℕ)
lines_after h after = map accepted_line (drop after (accepted_of h.deeds))

-- the text of the page of these lines
pub record IsPageText (lines : List (List ℕ)) (text : List ℕ) : Type 0 where
  pub page : List (List ℕ)
  pub is_page : IsPage lines page
  pub text_is : text ≡ text_of_lines page

-- the text is a page of the record, if its requests have valid fields
abbrev pub IsRecordPage : History → ℕ → List ℕ → Type 0
IsRecordPage h after text = AreValid h.deeds → IsPageText (lines_after h after) text

-- the page has the first of these lines, and those fit on it if they are more than one
pub record IsBegun (lines : List (List ℕ)) (page : Page) : Type 0 where
  pub within : page.count ≤ length lines
  pub has : HasLines page (take page.count lines)
  pub fits : 1 < page.count → FitPage (take page.count lines)

-- the requests are those of the next lines, at most so many
abbrev pub AreNext : ℕ → List (List ℕ) → Page → List Accepted → Type 0
AreNext most lines page accepted = map accepted_line accepted ≡ take most (drop page.count lines)
