-- The head of a record, as it is written.
use Rattle.std.specs.Prelude.{◌≡◌, ◌⊎◌, ⊤, true, ℕ, List, length}
use Rattle.sqlite.specs.Store.{Ghosts}
use Rattle.registry_rules.specs.Accepted.{AreValid}
use Rattle.registry_rules.specs.History.{History}
use Rattle.registry_wire.specs.Digests.{digest_of}
use Rattle.registry_http.specs.Resources.{head_response}
use Rattle.registry_tables.specs.declared.head.Head.{Head}
use Rattle.registry_tables.specs.Head.{last_time}
use Rattle.registry_store.specs.declared.registry.Registry.{Registry}
use Rattle.registry_store.specs.Promise.{Represents, is_poisoned}
use Rattle.registry_commands.specs.declared.messages.Failure.{Failure}
use Rattle.registry_commands.specs.declared.messages.Failure.TheVariants.{Memory, Poisoned}
use Rattle.registry_commands.specs.declared.status.ExitStatus.TheVariants.{Failed}
use Rattle.registry_commands.specs.Ends.{Ends}
use Rattle.registry_commands.specs.Failures.{PrintsFailure}
use Rattle.registry_commands.specs.Printed.{IsPrinted, IsUnprinted}

-- a head as a line: the body of the response to `GET /head`
abbrev pub head_line : Head → List ℕ
head_line head = (head_response head.count head.digest head.time).body

-- the line of the head of a history
abbrev pub head_line_of : History → List ℕ
head_line_of h = (head_response (length h.deeds) (digest_of h) (last_time h.deeds)).body

module _ {S : Type 0} {g : Ghosts S} where
  -- The failures: out of memory for the line, or the registry is poisoned.
  abbrev pub IsOfHead : Registry S g → Failure → Type 0
  IsOfHead it Memory = ⊤
  IsOfHead it Poisoned = is_poisoned it ≡ true
  IsOfHead it _ = ⊥

  -- The line of the head of the history is written, whole or in part, if its requests are valid. Or nothing is written, after a
  -- failure; of a poisoned registry nothing is.
  pub record IsHeadShown (it : Registry S g) (ends : Ends) : Type 0 where
    pub shown : ((line : List ℕ) × ((h : History) → Represents it h → AreValid h.deeds → line ≡ head_line_of h) × IsPrinted line ends) ⊎ IsUnprinted (IsOfHead it) ends
    pub poisoned : is_poisoned it ≡ true
        → (ends.status ≡ Failed) × (ends.out.new.contents ≡ ends.out.old.contents) × PrintsFailure (λ failure. failure ≡ Poisoned) ends.errors
