-- What a lookup within a transaction returns.
use Rattle.std.specs.Prelude.{◌≡◌, List, true, IsTrue, Result, Ok, Err}
use Rattle.std.specs.Borrow.{MutBor}
use Rattle.sqlite_trees.specs.declared.store.Store.{Ghosts}
use Rattle.sqlite.specs.Held.{Held, state}
use Rattle.sqlite.specs.State.{State, HasCleanDisk, IsUnchanged, KeepsCommit}
use Rattle.usbnum_core.specs.Spans.{span_has}
use Rattle.usbnum_core.specs.declared.number.Number.{Number}
use Rattle.table_laws.specs.Inside.{GoesOn, CommitsNothing, StoreFailed}
use Rattle.registry_schema.specs.declared.fault.TableFault.{TableFault}
use Rattle.registry_schema.specs.declared.fault.TableFault.TheVariants.{Store, Foreign}
use Rattle.registry_rules.specs.FactsOf.{holding_in, holding_of}
use Rattle.registry_rules.specs.History.{History}
use Rattle.registry_rules.specs.Run.{Legal}
use Rattle.registry_rules.specs.declared.concern.VendorSpan.{VendorSpan}
use Rattle.registry_rules.specs.declared.record.Entry.{Entry}
use Rattle.registry_rules.specs.declared.record.Holding.{Holding}
use Rattle.registry_tables.specs.Rows.{newest, HoldsRows}

module _ (old new : State) where
  -- The transaction goes on; if it holds a history's rows, nothing changes and the result is the history's. Foreign comes
  -- only from an open connection that holds the rows of no history, and a fault commits nothing.
  abbrev pub Finds : {A : Type 0} → Result A TableFault → (History → A → Type 0) → Type 0
  Finds (Ok a) Is = GoesOn old new × ((h : History) → Legal h → HoldsRows newest old.now h → IsUnchanged old new × Is h a)
  Finds (Err e) Is = (e ≡ Foreign → IsTrue old.is_open × ((h : History) → Legal h → ¬ HoldsRows newest old.now h)) × KeepsCommit old new

module _ {S : Type 0} (g : Ghosts S) (old new : MutBor (Held S)) {A : Type 0} (result : Result A TableFault) (Is : History → A → Type 0) where
  -- a look-up within a transaction: over a clean disk it finds what the history says, and it commits nothing
  pub record ReadsHistory : Type 0 where
    pub same_reference : new.ghost_name ≡ old.ghost_name
    pub found : HasCleanDisk (state g new.now) → IsTrue (state g old.now).in_transaction → Finds (state g old.now) (state g new.now) result Is
    pub survives : CommitsNothing (state g old.now) (state g new.now)

  -- the same of a connection that is known to be open: it may need no read
  pub record ReadsHistoryOpen : Type 0 where
    pub same_reference : new.ghost_name ≡ old.ghost_name
    pub found : HasCleanDisk (state g new.now) → IsTrue (state g old.now).in_transaction → IsTrue (state g old.now).is_open → Finds (state g old.now) (state g new.now) result Is
    pub survives : CommitsNothing (state g old.now) (state g new.now)

-- within a transaction Store comes only if the store failed, or where the database holds the rows of no history
pub record TellsStore {S : Type 0} (g : Ghosts S) (old new : MutBor (Held S)) {A : Type 0} (result : Result A TableFault) : Type 0 where
  pub store : HasCleanDisk (state g new.now) → IsTrue (state g old.now).in_transaction → result ≡ Err Store → (h : History) → Legal h → HoldsRows newest (state g old.now).now h → StoreFailed (state g old.now) (state g new.now)

-- the owner of a number that has an entry, and whether the number is held
abbrev pub holding_at : Number × Entry → Holding
holding_at e = record { number = e.0; org = e.1.org; held = e.1.held }

-- the vendor's span has the number
abbrev pub IsOfRange : Number → VendorSpan → Type 0
IsOfRange n range = (range.vid ≡ n.vid) × (span_has range.span n.pid ≡ true)

-- for each number in the range the holdings are those of the history
abbrev pub AreHoldings : VendorSpan → History → List Holding → Type 0
AreHoldings range h holdings = (n : Number) → IsOfRange n range → holding_in holdings n ≡ holding_of h n
