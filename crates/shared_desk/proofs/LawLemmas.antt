-- Answers on any two machines.
use Rattle.std.proofs.Common.{◌≤◌, ◌∙◌, length, inl, inr, ap, subst, arith}
use Rattle.std.proofs.lemmas.List.{length-append}
use Rattle.registry_rules.specs.History.{History}
use Rattle.registry_laws.specs.Machines.{IsOfMachine, LeadsToLater}
use Rattle.registry_laws.specs.Records.{record_of}
use Rattle.registry_laws.proofs.MachineLemmas.{one_history}
use Rattle.shared_log.specs.Calls.{Grows, LogLines}
use Rattle.shared_registry.proofs.FollowLemmas.{grows_none, grows_on}
use Rattle.shared_registry.proofs.LineLemmas.{leads_nowhere}
use Rattle.shared_desk.specs.Laws.{IsNoOlder}
use Rattle.shared_registry.proofs.ActLemmas.{unmoved}

grows_longer : (a b : LogLines) → Grows a b → length a ≤ length b
grows_longer a b it = let is = ap length it.1 ∙ length-append a it.0 in omega (arith, is)

pub no_older : IsNoOlder
no_older began ended again done first second legal_first valid_first legal_second valid_second one between two =
    let all = grows_on one.instant ended two.instant one.after (grows_on ended again two.instant between two.before) in
    let grown : Grows (record_of first) (record_of second) = rw one.held at (rw two.held at all) in
    let of_first : IsOfMachine (record_of second) first = record { legal = legal_first; valid = valid_first; begins = grown } in
    let of_second : IsOfMachine (record_of second) second = record { legal = legal_second; valid = valid_second; begins = grows_none (record_of second) } in
    elim (one_history (record_of second) first second of_first of_second) [
      | inl leads ↦ leads
      | inr back ↦ subst (λ (x : History). LeadsToLater first x) (unmoved second first back (grows_longer (record_of first) (record_of second) grown)) (leads_nowhere first)
    ]
