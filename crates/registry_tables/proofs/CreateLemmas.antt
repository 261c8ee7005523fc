-- From an empty store to the rows of a founding.
use Rattle.std.proofs.Common.{◌≡◌, true, IsTrue, Ok, [], refl, subst, arith}
use Rattle.std.specs.Borrow.{MutBor}
use Rattle.sqlite.specs.Store.{Ghosts}
use Rattle.sqlite.specs.Held.{Held, state}
use Rattle.sqlite.specs.State.{HasCleanDisk, IsLive}
use Rattle.sqlite.specs.Effect.{Database}
use Rattle.sqlite_catalog.specs.Listing.{IsSound}
use Rattle.table_laws.specs.Making.{no_schema, IsBlank, Adds}
use Rattle.registry_schema.specs.Schema.{schema_5}
use Rattle.registry_schema.specs.Steps.{WritesTables}
use Rattle.registry_rules.specs.History.{founded}
use Rattle.registry_rules.specs.declared.founding.Founding.{Founding}
use Rattle.registry_rows.specs.Steps.{Changes}
use Rattle.registry_rows.specs.Tables.{Holds, no_rows}
use Rattle.registry_tables.specs.Calls.{with_founding}
use Rattle.registry_tables.specs.Rows.{newest, IsFounding, Rows, HoldsRows}
use Rattle.registry_tables.proofs.FoundingLemmas.{founded_records, founded_recorded}
use Rattle.registry_tables.proofs.RowsLemmas.{goes_out}

pub blank_of : (db : Database) → db.schema ≡ no_schema → IsSound db.schema db.trees → IsBlank no_schema db
blank_of db is sound = record { is = is; sound = subst (λ s. IsSound s db.trees) is sound; none = tt }

-- tables without rows have no values
pub blank_holds : (db : Database) → IsBlank schema_5 db → Holds db no_rows
blank_holds db blank = record {
  schema = blank.is;
  sound = blank.sound;
  rows = record {
    metas = record { rows_are = blank.none.0; keyed = tt; valid = tt };
    curators = record { numbered = []; stores = record { rows_are = blank.none.1.0; keyed = tt; valid = tt }; values_are = refl };
    licences = record { numbered = []; stores = record { rows_are = blank.none.1.1.0; keyed = tt; valid = tt }; values_are = refl };
    fixed = record { rows_are = blank.none.1.1.1.0; keyed = tt; valid = tt };
    orgs = record { numbered = []; stores = record { rows_are = blank.none.1.1.1.1.0; keyed = tt; valid = tt }; values_are = refl };
    no_petitions = blank.none.1.1.1.1.1.0;
    no_entries = blank.none.1.1.1.1.1.1.0;
    no_reserved = blank.none.1.1.1.1.1.1.1.0;
    kept = record { rows_are = blank.none.1.1.1.1.1.1.1.1.0; keyed = tt; valid = tt };
    no_spans = blank.none.1.1.1.1.1.1.1.1.1.0;
    vendors = record { rows_are = blank.none.1.1.1.1.1.1.1.1.1.1.0; keyed = tt; valid = tt };
    spans = record { numbered = []; stores = record { rows_are = blank.none.1.1.1.1.1.1.1.1.1.1.1.0; keyed = tt; valid = tt }; values_are = refl };
    entries = record { numbered = []; stores = record { rows_are = blank.none.1.1.1.1.1.1.1.1.1.1.1.1.0; keyed = tt; valid = tt }; values_are = refl };
    petitions = record { rows_are = blank.none.1.1.1.1.1.1.1.1.1.1.1.1.1.0; keyed = tt; valid = tt };
    digests = record { rows_are = blank.none.1.1.1.1.1.1.1.1.1.1.1.1.1.1.0; keyed = tt; valid = tt };
    reasons = record { rows_are = blank.none.1.1.1.1.1.1.1.1.1.1.1.1.1.1.1.0; keyed = tt; valid = tt };
    opened = record { rows_are = blank.none.1.1.1.1.1.1.1.1.1.1.1.1.1.1.1.1.0; keyed = tt; valid = tt };
    closed = record { rows_are = blank.none.1.1.1.1.1.1.1.1.1.1.1.1.1.1.1.1.1.0; keyed = tt; valid = tt };
  };
}

all_held : (db : Database) (founding : Founding) → IsFounding founding → Holds db (with_founding founding no_rows) → HoldsRows newest db (founded founding)
unfolding HoldsRows
all_held db founding valid holds = (refl, with_founding founding no_rows, holds, founded_records founding valid, founded_recorded founding)

pub founding_rows : (db : Database) (founding : Founding) → IsFounding founding → Holds db (with_founding founding no_rows) → Rows newest db.trees (founded founding)
founding_rows db founding valid holds = goes_out db (founded founding) (all_held db founding valid holds)

-- what the transaction of a founding shows at its end
pub founding_shown : {S A : Type 0} {g : Ghosts S} {mid last : MutBor (Held S)} {x : A} (old begun : Held S) (founding : Founding) → begun ≡ record old { in_transaction = true } → (state g old).now.schema ≡ no_schema → IsLive (state g old)
    → (HasCleanDisk (state g mid.now) → IsTrue (state g begun).in_transaction → Adds no_schema schema_5 (state g begun) (state g mid.now)) → WritesTables g mid last (Ok x) (Changes (with_founding founding)) → IsFounding founding
    → HasCleanDisk (state g last.now) → IsTrue (state g old).is_open × ((state g old).now.schema ≡ no_schema) × Rows newest (state g last.now).now.trees (founded founding)
founding_shown {S} {A} {g} {mid} {last} old begun founding started is live made wrote valid fine =
    let one = made (omega (arith, wrote.survives.clean)) (rw started refl) in
    let was : IsTrue (state g old).is_open = rw started at one.0.was_open in
    let blank = blank_of (state g old).now is (live was).0 in
    let filled = one.1 (rw started blank) in
    let two = wrote.done fine one.0.mode in
    (was, is, founding_rows (state g last.now).now founding valid (two.1 no_rows (blank_holds (state g mid.now).now filled)))
