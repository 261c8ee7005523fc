-- What a command that writes a report promises.
use Rattle.std.specs.Prelude.{◌≡◌, ◌⊎◌, ℕ, true, List, None}
use Rattle.sqlite.specs.Store.{Ghosts}
use Rattle.registry_reports.specs.declared.kinds.ReportKind.{ReportKind}
use Rattle.registry_store.specs.Promise.{NotesForeign, is_poisoned}
use Rattle.registry_store.specs.Queries.{IsUntouched}
use Rattle.registry_views.specs.Reports.{IsReport}
use Rattle.registry_commands.specs.Ends.{Effect}
use Rattle.registry_commands.specs.Printed.{IsPrinted, IsUnprinted}
use Rattle.registry_commands.specs.Shown.{HoldsOfHistory, IsOfReading, ShowsNothing}

module _ {S : Type 0} {g : Ghosts S} where
  -- The report on the history is written, whole or in part; and no call found the rows of no history, if none had before. Or
  -- nothing is written, after a failure.
  pub record IsReported (did : Effect S g) (name : ReportKind) : Type 0 where
    pub left : IsUntouched did.old did.new
    pub shown : ((text : List ℕ) × NotesForeign did.old did.new None × HoldsOfHistory did.old did.new (λ h. IsReport name h text) × IsPrinted text did.ends) ⊎ IsUnprinted (IsOfReading did.old did.new) did.ends
    pub poisoned : is_poisoned did.old ≡ true → ShowsNothing did
