use Rattle.std.proofs.Common.{◌∙◌}
use Rattle.registry_tables.proofs.WrittenLemmas.{founding_made}
use Rattle.registry_tables.proofs.written.founding_of.Goals as goal

pub returns-clause-founding : goal.returns-clause-founding
returns-clause-founding c h t of it vid named =
    founding_made h t c.args.written of it c.args.vendor c.in-Ok.name c.in-Some.curators c.in-Some-new.allowed c.in_ok-licences.licences c.in_ok-fixed.fixed vid (c.in-Ok.ensures.cases ∙ named) c.in-Some.ensures.same c.in-Some-new.ensures.same
    (rw c.deref.ensures.value at c.in_ok-licences.ensures.left) (rw c.deref-2.ensures.value at c.in_ok-fixed.ensures.same)
