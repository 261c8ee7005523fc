-- Laws of answers over a log that several machines share.
use Rattle.registry_rules.specs.History.{History}
use Rattle.registry_rules.specs.Run.{Legal}
use Rattle.registry_laws.specs.Machines.{HasValidFields, LeadsToLater}
use Rattle.shared_log.specs.Calls.{Grows, LogLines}
use Rattle.shared_registry.specs.Follows.{WasWhole}

-- two answers on any machines: the log was whole at the first between `began` and `ended`, and at the second after that, between
-- `again` and `done`
abbrev pub IsNoOlder : Type 0
IsNoOlder = (began ended again done : LogLines) (first second : History) → Legal first → HasValidFields first → Legal second → HasValidFields second →
    WasWhole began ended first → Grows ended again → WasWhole again done second → LeadsToLater first second
