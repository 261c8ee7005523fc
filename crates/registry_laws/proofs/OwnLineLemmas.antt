-- No two valid requests or foundings share a line of a record.
use Rattle.std.proofs.Common.{◌≡◌, sym, ap, ◌∙◌}
use Rattle.std.specs.Prelude.{Result, Ok, Err}
use Rattle.registry_rules.specs.declared.accepted.Accepted.{Accepted}
use Rattle.registry_rules.specs.declared.founding.Founding.{Founding}
use Rattle.registry_wire.specs.Record.{accepted_line, founding_line, record_reading}
use Rattle.registry_wire.specs.declared.record.RecordLine.{RecordLine}
use Rattle.registry_wire.specs.declared.record.RecordLine.TheVariants as lines
use Rattle.registry_wire.specs.declared.refusal.WireRefusal.{WireRefusal}
use Rattle.registry_laws.specs.Records.{IsAccepted, IsValidFounding}
use Rattle.registry_laws.proofs.LineLemmas.{accepted_read, founding_read}

accepted_of_line : (read : Result RecordLine WireRefusal) (otherwise : Accepted) → Accepted
accepted_of_line (Ok (lines.Accepted accepted digest)) otherwise = accepted
accepted_of_line (Ok (lines.Founding founding)) otherwise = otherwise
accepted_of_line (Err refusal) otherwise = otherwise

pub own_line : (a b : Accepted) → IsAccepted a → IsAccepted b → accepted_line a ≡ accepted_line b → a ≡ b
unfolding accepted_of_line
own_line a b of_a of_b same =
    ap (λ (read : Result RecordLine WireRefusal). accepted_of_line read a) (sym (accepted_read a of_a) ∙ (ap record_reading same ∙ accepted_read b of_b))

founding_of_line : (read : Result RecordLine WireRefusal) (otherwise : Founding) → Founding
founding_of_line (Ok (lines.Founding founding)) otherwise = founding
founding_of_line (Ok (lines.Accepted accepted digest)) otherwise = otherwise
founding_of_line (Err refusal) otherwise = otherwise

pub own_founding_line : (a b : Founding) → IsValidFounding a → IsValidFounding b → founding_line a ≡ founding_line b → a ≡ b
unfolding founding_of_line
own_founding_line a b of_a of_b same =
    ap (λ (read : Result RecordLine WireRefusal). founding_of_line read a) (sym (founding_read a of_a) ∙ (ap record_reading same ∙ founding_read b of_b))
