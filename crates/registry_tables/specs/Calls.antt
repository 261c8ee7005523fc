-- What the calls on the tables do.
use Rattle.std.specs.Prelude.{◌≡◌, ◌≢◌, false, IsTrue, IfOk, OnOk, Result, Err}
use Rattle.std.specs.Borrow.{MutBor}
use Rattle.sqlite_trees.specs.declared.store.Store.{Ghosts}
use Rattle.sqlite.specs.Held.{Held, state}
use Rattle.sqlite.specs.State.{State, HasCleanDisk}
use Rattle.sqlite.specs.Effect.{Database}
use Rattle.registry_schema.specs.Meta.{has_meta_table}
use Rattle.registry_schema.specs.declared.fault.TableFault.{TableFault}
use Rattle.registry_schema.specs.declared.fault.TableFault.TheVariants.{Store, Foreign}
use Rattle.registry_rules.specs.History.{History}
use Rattle.registry_rules.specs.Reply.{act_text}
use Rattle.registry_rules.specs.Run.{Legal}
use Rattle.registry_rules.specs.declared.deed.Deed.{Deed}
use Rattle.registry_rules.specs.declared.order.Request.{Request}
use Rattle.std.specs.Prelude.{List, ℕ, None}
use Rattle.registry_wire.specs.Digests.{founding_digest}
use Rattle.table_laws.specs.Inside.{CommitsNothing, StoreFailed}
use Rattle.sqlite_keyed.specs.Keyed.{insert_by}
use Rattle.registry_rules.specs.declared.founding.Founding.{Founding}
use Rattle.registry_rows.specs.Rows.{meta_key, vendor_key, digest_key}
use Rattle.registry_rows.specs.Tables.{Tables}
use Rattle.registry_tables.specs.Changed.{names_put, spans_put}
use Rattle.registry_tables.specs.Rows.{newest, Rows}

-- the database has no table called meta
abbrev pub HasNoMeta : Database → Type 0
HasNoMeta db = has_meta_table db.schema ≡ false

-- the deed is the request's, and this is its reply
pub record IsKeptAs (deed : Deed) (request : Request) (reply : List ℕ) : Type 0 where
  pub caller : deed.caller ≡ request.caller
  pub key : deed.key ≡ request.key
  pub order : deed.order ≡ request.order
  pub time : deed.time ≡ request.time
  pub said : reply ≡ act_text deed.act

module _ (old new : State) where
  -- the connection was open, and the list is that of each history whose rows it showed
  abbrev pub Lists : {A : Type 0} → (History → A → Type 0) → A → Type 0
  Lists Is list = IsTrue old.is_open × ((h : History) → Legal h → Rows newest old.now.trees h → Is h list)

  -- a connection that is open was open before, and shows what was committed then
  abbrev pub KeepsAll : Type 0
  KeepsAll = IsTrue new.is_open → IsTrue old.is_open × (new.now ≡ old.committed) × (new.committed ≡ old.committed)

  -- Foreign comes only from an open connection that shows the rows of no history
  abbrev pub IsForeign : {A : Type 0} → Result A TableFault → Type 0
  IsForeign result = result ≡ Err Foreign → IsTrue old.is_open × ((h : History) → Legal h → ¬ Rows newest old.now.trees h)

  -- Store comes only if the store failed, or from a connection that shows the rows of no history
  abbrev pub IsStoreFault : {A : Type 0} → Result A TableFault → Type 0
  IsStoreFault result = HasCleanDisk new → result ≡ Err Store → (h : History) → Legal h → Rows newest old.now.trees h → StoreFailed old new

-- a look-up in a transaction of its own, which is rolled back: the result is that of each history whose rows were shown, and nothing changes
pub record IsLookUp {A : Type 0} (old new : State) (result : Result A TableFault) (Is : History → A → Type 0) : Type 0 where
  pub answer : HasCleanDisk new → IfOk result (Lists old new Is)
  pub same : HasCleanDisk new → KeepsAll old new
  pub foreign : HasCleanDisk new → IsForeign old new result
  pub survives : CommitsNothing old new

-- as `WritesTables`, of a connection that is known to be open: it may need no statement
pub record WritesTablesOpen {S : Type 0} (g : Ghosts S) (old new : MutBor (Held S)) {A : Type 0} (result : Result A TableFault) (Does : State → State → Type 0) : Type 0 where
  pub same_reference : new.ghost_name ≡ old.ghost_name
  pub done : HasCleanDisk (state g new.now) → IsTrue (state g old.now).in_transaction → IsTrue (state g old.now).is_open → OnOk result (Does (state g old.now) (state g new.now))
  pub fault : result ≢ Err Foreign
  pub survives : CommitsNothing (state g old.now) (state g new.now)

-- the tables after the rows of a founding are inserted
abbrev pub with_founding : Founding → Tables → Tables
with_founding founding t = record t {
  metas = insert_by meta_key t.metas (record { version = newest; vendor = founding.vendor; name = founding.name });
  curators = names_put founding.curators t.curators;
  licences = names_put founding.licences t.licences;
  fixed = spans_put founding.fixed t.fixed;
  vendors = insert_by vendor_key t.vendors (record { vid = founding.vendor; name = founding.name });
  digests = insert_by digest_key t.digests (0, record { time = None; digest = founding_digest founding });
}
