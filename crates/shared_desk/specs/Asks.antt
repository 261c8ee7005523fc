-- The lines that a server over a shared log asks it to take.
use Rattle.std.specs.Prelude.{◌≡◌, ℕ, List, ◌∷◌, ◌++◌, Result, Ok}
use Rattle.registry_rules.specs.History.{History}
use Rattle.registry_rules.specs.declared.order.Request.{Request}
use Rattle.registry_http.specs.declared.message.Message.{Message}
use Rattle.registry_http.specs.declared.message.Message.TheVariants as messages
use Rattle.registry_http.specs.declared.refusal.HttpRefusal.{HttpRefusal}
use Rattle.registry_http.specs.Messages.{Says}
use Rattle.registry_desk.specs.Server.{Visit}
use Rattle.shared_log.specs.Calls.{LogLines}
use Rattle.shared_registry.specs.Asks.{AppendsRequest}

-- `log` is what the log keeps after the calls, and h is the history that the registry followed it with.
module _ (log : LogLines) (h : History) where
  -- only the line of the order in a message is appended, with its reply
  abbrev pub AppendsOrder : Result Message HttpRefusal → ℕ → List ℕ → Type 0
  AppendsOrder said n line = (r : Request) × (said ≡ Ok (messages.Request r)) × AppendsRequest log h r n line

  -- only the line of the order that these bytes are
  abbrev pub AppendsOrderIn : List ℕ → ℕ → List ℕ → Type 0
  AppendsOrderIn bytes n line = (said : Result Message HttpRefusal) × Says h.founding.vendor bytes said × AppendsOrder said n line

  -- only lines of orders that connections brought
  abbrev pub AppendsOrdersIn : List Visit → ℕ → List ℕ → Type 0
  AppendsOrdersIn visits n line = (before : List Visit) × (visit : Visit) × (rest : List Visit) × (visits ≡ before ++ visit ∷ rest) × AppendsOrderIn visit.bytes n line
