use Rattle.std.proofs.Common.{◌≡◌, ℕ, List, map, take}
use Rattle.std.specs.List.{AllByRecursion}
use Rattle.registry_rules.specs.declared.accepted.Accepted.{Accepted}
use Rattle.registry_rows.specs.declared.digests.DigestRow.{DigestRow}
use Rattle.registry_tables.specs.Rows.{kept_row_of, HasValidOrder}
use Rattle.registry_tables.proofs.accepted.accepted_from.Given as goal

-- the list has the accepted requests of the rows so far
abbrev pub invariant-loop-at : goal.invariant-loop-at
invariant-loop-at l = (values : List Accepted) → AllByRecursion HasValidOrder values → l.rows ≡ map kept_row_of values → map (λ (d : ℕ × DigestRow). d.1.time) l.digests ≡ map (λ (a : Accepted). a.request.time) values → l.all.items ≡ take l.at values
