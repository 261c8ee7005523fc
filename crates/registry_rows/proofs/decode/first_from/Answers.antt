use Rattle.std.proofs.Common.{◌≡◌, Err, sym, ap}
use Rattle.registry_rows.proofs.DecodeLemmas.{value_at}
use Rattle.registry_schema.specs.declared.fault.TableFault.TheVariants.{Store}
use Rattle.registry_rows.proofs.decode.first_from.Goals as goal

pub returns-in-Err : goal.returns-in-Err
returns-in-Err g c = record {
  decodes = λ values valid same foreign.
      (let it = value_at g.T.FromRow.is_valid g.T.FromRow.columns values c.args.rows.now valid same 0 c.in-Some.row.now (sym c.in-Some.ensures.value) in
      c.in-Err.ensures.decodes it.0 it.3 it.2 foreign);
  there = tt;
  fault = λ is. (let same : c.in-Err.fault ≡ Store = cc in c.in-Err.ensures.fault (ap Err same));
}
