-- The record of a history keeps the whole history.
use Rattle.std.proofs.Common.{◌≡◌, List, [], ◌∷◌, refl, ap₂}
use Rattle.std.specs.Prelude.{map, All, None, Result, Ok}
use Rattle.std.proofs.lemmas.List.Elements.{All-head, All-tail}
use Rattle.registry_rules.specs.Accepted.{accepted_of}
use Rattle.registry_rules.specs.History.{History}
use Rattle.registry_rules.specs.Run.{Legal}
use Rattle.registry_rules.specs.declared.accepted.Accepted.{Accepted}
use Rattle.registry_rules.proofs.ReplayLemmas.{replayed, replied}
use Rattle.registry_wire.specs.Record.{accepted_line, record_reading}
use Rattle.registry_wire.specs.declared.record.RecordLine.{RecordLine}
use Rattle.registry_wire.specs.declared.record.RecordLine.TheVariants as lines
use Rattle.registry_wire.specs.declared.refusal.WireRefusal.{WireRefusal}
use Rattle.registry_laws.specs.Records.{IsAccepted, IsValidFounding, IsKeptWhole}
use Rattle.registry_laws.proofs.LineLemmas.{accepted_read, founding_read}

abbrev Reading : Type 0
Reading = Result RecordLine WireRefusal

put_first : Reading → List Reading → List Reading
put_first first others = first ∷ others

all_read : (accepted : List Accepted) → All IsAccepted accepted → map record_reading (map accepted_line accepted) ≡ map (λ a. Ok (lines.Accepted a None)) accepted
unfolding put_first
all_read [] all = refl
all_read (first ∷ others) all = ap₂ put_first (accepted_read first (All-head IsAccepted first others all)) (all_read others (All-tail IsAccepted first others all))

pub kept_whole : (h : History) → Legal h → IsValidFounding h.founding → All IsAccepted (accepted_of h.deeds) → IsKeptWhole h
unfolding put_first
kept_whole h legal founding all = record {
  read = ap₂ put_first (founding_read h.founding founding) (all_read (accepted_of h.deeds) all);
  history = replayed h.founding h.deeds legal;
  replies = replied h.founding h.deeds legal;
}
