-- The founding of a store in the middle of a migration.
use Rattle.std.proofs.Common.{◌≡◌, ◌∙◌, ℕ, ℤ, List, IsTrue, map, filter, not, refl, ap, sym, subst}
use Rattle.sqlite.specs.State.{State}
use Rattle.sqlite.proofs.Callers.{unchanged_then}
use Rattle.table_laws.specs.Inside.{GoesOn}
use Rattle.table_laws.proofs.InsideLemmas.{goes_then}
use Rattle.registry_schema.specs.declared.fault.TableFault.{TableFault}
use Rattle.registry_schema.specs.declared.fault.TableFault.TheVariants.{Foreign}
use Rattle.usbnum_core.specs.Spans.{IsSpread}
use Rattle.usbnum_core.specs.declared.number.Span.{Span}
use Rattle.registry_rules.specs.Accepted.{accepted_of}
use Rattle.registry_rules.specs.History.{History}
use Rattle.registry_rules.specs.Texts.{AreSorted}
use Rattle.registry_rows.specs.declared.kept.KeptRow.{KeptRow}
use Rattle.registry_rows.specs.Tables.{Tables, Holds}
use Rattle.registry_tables.specs.FirstLicences.{was_added}
use Rattle.registry_tables.specs.Rows.{kept_row_of}
use Rattle.registry_tables.specs.Written.{IsWritten, AreOf}
use Rattle.registry_tables.specs.declared.written.Written.{Written}
use Rattle.registry_tables.proofs.FirstLicencesLemmas.{names_licence, first_is}
use Rattle.registry_tables.proofs.NumberingLemmas.{numbered_values}
use Rattle.registry_tables.proofs.OpeningLemmas.{curators_in_order, allowed_in_order}
use Rattle.registry_tables.proofs.FindLemmas.{Read}

-- one read after another
pub read_then : (a b c : State) (P Q : Tables → Type 0) → Read a b P → Read b c Q → Read a c (λ t. P t × Q t)
read_then a b c P Q one two = (
  goes_then a b c one.0 two.0,
  λ t had.
      (let first = one.1 t had in
      let second = two.1 t (subst (λ db. Holds db t) (sym first.0.0.now_is) had) in
      (unchanged_then a b c first.0 second.0, (first.1, second.1))),
)

-- what was read says less
pub read_as : (a b : State) (P Q : Tables → Type 0) → ((t : Tables) → P t → Q t) → Read a b P → Read a b Q
read_as a b P Q means one = (one.0, λ t had. (let it = one.1 t had in (it.0, means t it.1)))

-- a read that refutes the tables refutes those of the beginning
pub read_fails : (a b c : State) (P : Tables → Type 0) (e : TableFault) → Read a b P → (e ≡ Foreign → GoesOn b c × ((t : Tables) → ¬ Holds b.now t)) → e ≡ Foreign → IsTrue a.is_open × ((t : Tables) → ¬ Holds a.now t)
read_fails a b c P e one two foreign = (one.0.was_open, λ t had. (two foreign).1 t (subst (λ db. Holds db t) (sym (one.1 t had).0.0.now_is) had))

-- the founding that is made of the values is that of the history
pub founding_made : (h : History) (t : Tables) (written : Written) → AreOf h t → IsWritten t written → (vendor : ℕ) (name : List ℕ) (curators allowed licences : List (List ℕ)) (fixed : List Span)
    → vendor ≡ h.founding.vendor → name ≡ h.founding.name → AreSorted written.curators.items curators → AreSorted written.licences.items allowed
    → AreSorted (filter (λ licence. not (was_added written.added.items licence)) allowed) licences → (IsSpread 1 written.fixed.items → fixed ≡ written.fixed.items)
    → record { vendor = vendor; name = name; curators = curators; licences = licences; fixed = fixed } ≡ h.founding
founding_made h t written of it vendor name curators allowed licences fixed vid named given_curators given_licences left spread =
    let same_curators : curators ≡ h.founding.curators = curators_in_order h t.curators written.curators.items it.curators of.records.founding of.records.curators curators given_curators in
    let now = allowed_in_order h t.licences written.licences.items it.licences of.legal of.records.licences allowed given_licences in
    let same_licences : licences ≡ h.founding.licences =
    first_is h of.legal written.added.items (it.added ∙ ap (filter names_licence) (ap (map (λ (k : ℤ × KeptRow). k.1)) of.kept.in_order ∙ numbered_values 1 (map kept_row_of (accepted_of h.deeds)))) allowed licences now.each left in
    let founded = it.fixed ∙ of.records.fixed in
    let same_fixed : fixed ≡ h.founding.fixed = spread (subst (IsSpread 1) (sym founded) of.records.founding.fixed) ∙ founded in
    rw (vid, named, same_curators, same_licences, same_fixed) refl
