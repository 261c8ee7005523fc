use Rattle.std.proofs.Common.{ℕ, ap, find, ◌∙◌, rules}
use Rattle.std.specs.Option.{option_map}
use Rattle.registry_rows.specs.Rows.{is_digest_at}
use Rattle.registry_rows.specs.declared.digests.DigestRow.{DigestRow}
use Rattle.registry_tables.proofs.ReadLemmas.{recorded_pass, rows_fail}
use Rattle.registry_tables.proofs.keyed.digest_at.Goals as goal

pub returns : goal.returns
returns g c = record {
  reads = recorded_pass (λ h t legal recorded is valid.
      c.digest_of_row.ensures ∙ ap (option_map (λ (row : ℕ × DigestRow). row.1.digest)) (is ∙ ap (find (is_digest_at c.args.n)) (recorded.digests legal valid))) c.in_ok-row.ensures.reads;
}

pub returns-in_err-row : goal.returns-in_err-row
returns-in_err-row g c = record { reads = rows_fail (search rules) c.in_err-row.ensures.reads }
