use Rattle.std.proofs.Common.{sym}
use Rattle.registry_rows.specs.Rows.{IsVendor}
use Rattle.registry_rules.specs.declared.record.Vendor.{Vendor}
use Rattle.registry_rows.proofs.PutLemmas.{puts_vendor}
use Rattle.registry_rows.proofs.StepLemmas.{changed}
use Rattle.registry_rows.proofs.vendors.put_vendor.Goals as goal

pub returns : goal.returns
returns g c =
    let x : Vendor = record { vid = c.args.vid; name = c.args.name.now } in
    let valid : IsVendor x = record { vid = rw (sym c.get.ensures.number) c.get.ensures.valid; name = c.as_str.ensures.valid } in
    record { writes = changed c.execute.ensures.same_reference c.execute.ensures.survives _ _ _ (λ clean inside. rw (c.params-to_sql.ensures, c.params-to_sql-2.ensures, c.from.ensures, c.get.ensures.number, c.as_str.ensures.text) at (c.in_ok-execute.ensures.runs clean inside)) (puts_vendor _ _ x _ valid) }
