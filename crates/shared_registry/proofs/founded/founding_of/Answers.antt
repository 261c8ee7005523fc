use Rattle.std.proofs.Common.{◌∙◌, ap, sym, subst}
use Rattle.std.specs.Prelude.{Ok, Err}
use Rattle.registry_rules.specs.Gives.{Gives}
use Rattle.registry_rules.specs.declared.rejection.Rejection.{Rejection}
use Rattle.registry_wire.specs.Record.{record_reading}
use Rattle.registry_wire.specs.declared.refusal.WireRefusal.{WireRefusal}
use Rattle.shared_registry.proofs.FoundedLemmas.{accepted_instead, none_so, other_founding, refused_instead}
use Rattle.shared_registry.proofs.founded.founding_of.Goals as goal

pub returns-in-Ok-Founding-clause-none : goal.returns-in-Ok-Founding-clause-none
returns-in-Ok-Founding-clause-none c =
    let read = c.in-Ok-Founding in
    none_so c.if_line_of.result
    (other_founding c.args.line.now read.founding (ap record_reading (sym c.as_bytes.ensures) ∙ read.ensures ∙ ap Ok read.field-0-is))
    c.if_line_of.ensures.none

pub returns-in-Ok-Accepted-clause-none : goal.returns-in-Ok-Accepted-clause-none
returns-in-Ok-Accepted-clause-none c =
    let read = c.in-Ok-Accepted in
    accepted_instead c.args.line.now read.field-0-0 read.field-0-1 (ap record_reading (sym c.as_bytes.ensures) ∙ read.ensures ∙ ap Ok read.field-0-is)

pub returns-in-Err-Refused-clause-none : goal.returns-in-Err-Refused-clause-none
returns-in-Err-Refused-clause-none c =
    let read = c.in-Err-Refused in
    let gives = subst (λ (e : Rejection WireRefusal). Gives (Err e) (record_reading c.as_bytes.result.now)) read.field-0-is (read.ensures) in
    refused_instead c.args.line.now read.field-0-0 (ap record_reading (sym c.as_bytes.ensures) ∙ gives)
