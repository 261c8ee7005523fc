-- Changes take the rows of one history to those of another.
use Rattle.std.proofs.Common.{◌≡◌, ℕ, Bool, true, false, cond, not, ◌||◌, if◌then◌else◌, List, [], ◌∷◌, ◌++◌, find, nat_eq, Option, Some, refl, sym, ap, subst, ◌∙◌}
use Rattle.std.specs.List.{list_any}
use Rattle.std.specs.Option.{option_map}
use Rattle.std.specs.Str.{bytes_eq}
use Rattle.sqlite.specs.Effect.{Database}
use Rattle.sqlite.specs.State.{State}
use Rattle.sqlite_keyed.specs.Lists.{delete_where}
use Rattle.sqlite_trees.specs.Tree.{IsAscending}
use Rattle.usbnum_core.specs.declared.number.Number.{Number}
use Rattle.usbnum_core.specs.declared.number.Span.{Span}
use Rattle.table_laws.proofs.FoundLemmas.{apart_put}
use Rattle.registry_rules.specs.History.{History}
use Rattle.registry_rules.specs.Query.{opened_at, closed_at}
use Rattle.registry_rules.specs.Records.{with_held, with_card, org_changed, petition_changed, entry_changed, reserved_changed, vendor_changed, licence_changed, reason_changed, after_all, LeadsTo}
use Rattle.registry_rules.specs.declared.change.Change.{Change}
use Rattle.registry_rules.specs.declared.change.Change.TheVariants.{PutOrg, PutPetition, PutEntry, SetHeld, SetCard, PutVendor, PutLicence, PutReason}
use Rattle.registry_rules.specs.declared.founding.Founding.{Founding}
use Rattle.registry_rules.specs.declared.record.Org.{Org}
use Rattle.registry_rules.specs.declared.record.Entry.{Entry}
use Rattle.registry_rules.specs.declared.record.Petition.{Petition}
use Rattle.registry_rules.specs.declared.record.Vendor.{Vendor}
use Rattle.registry_rows.specs.Rows.{is_named, is_called, is_of, is_numbered, is_reason_of}
use Rattle.registry_rows.specs.Steps.{Changes}
use Rattle.registry_rows.specs.Tables.{Tables, Holds}
use Rattle.registry_tables.specs.Changed.{applied, applied_all, with_spans, Makes}
use Rattle.registry_tables.specs.Rows.{newest, NoTwo, IsFounding, vendor_span_has, AreApart, AreRecords, AreTimes, AreKeptReplies, IsRecorded, HoldsRows, HoldsUnkept}
use Rattle.registry_tables.proofs.EntryLemmas.{entry_set, entries_once}
use Rattle.registry_tables.proofs.ViewLemmas.{same_bytes, org_put, entry_put, petition_put, vendor_put, reason_put}

-- ---- inserting a name

last_any : (name last : List ℕ) → (bytes_eq name last || false) ≡ cond (bytes_eq name last) true false
last_any name last = elim (bytes_eq name last) as (λ b. (b || false) ≡ cond b true false) [ true ↦ refl | false ↦ refl ]

pub name_put : (name last : List ℕ) (names : List (List ℕ)) → list_any (bytes_eq name) (delete_where (λ other. is_named other last) names ++ last ∷ []) ≡ cond (bytes_eq name last) true (list_any (bytes_eq name) names)
name_put name last [] = last_any name last
name_put name last (other ∷ names) = go (bytes_eq other last) (bytes_eq name other) (bytes_eq name last) refl refl refl (name_put name last names)
  where
    left : List (List ℕ)
    left = delete_where (λ x. is_named x last) names

    go : (a b c : Bool) → bytes_eq other last ≡ a → bytes_eq name other ≡ b → bytes_eq name last ≡ c → list_any (bytes_eq name) (left ++ last ∷ []) ≡ cond (bytes_eq name last) true (list_any (bytes_eq name) names)
        → list_any (bytes_eq name) (cond (not a) (other ∷ left) left ++ last ∷ []) ≡ cond (bytes_eq name last) true (b || list_any (bytes_eq name) names)
    go true true true x y z more = rw z (rw z at more)
    go true true false x y z more = absurd (let e : bytes_eq name last ≡ true = ap (bytes_eq name) (sym (same_bytes other last x)) ∙ y in cc)
    go true false c x y z more = more
    go false true true x y z more = rw (y, z) refl
    go false true false x y z more = rw (y, z) refl
    go false false c x y z more = rw y more

-- ---- the value under each key

record IsView (t : Tables) (o : List ℕ → Option Org) (p : ℕ → Option Petition) (e : Number → Option Entry) (v : ℕ → Option Vendor) (l : List ℕ → Bool) (r : ℕ → Option (List ℕ)) : Type 0 where
  orgs : (slug : List ℕ) → find (is_called slug) t.orgs ≡ o slug
  orgs_once : NoTwo (λ a b. is_called b.slug a) t.orgs
  petitions : (i : ℕ) → find (is_numbered i) t.petitions ≡ option_map (λ petition. (i, petition)) (p i)
  entries : (n : Number) → find (is_of n) t.entries ≡ option_map (λ entry. (n, entry)) (e n)
  entries_once : NoTwo (λ a b. is_of b.0 a) t.entries
  vendors : (vid : ℕ) → find (λ vendor. nat_eq vendor.vid vid) t.vendors ≡ v vid
  licences : (name : List ℕ) → list_any (bytes_eq name) t.licences ≡ l name
  licences_once : NoTwo is_named t.licences
  reasons : (i : ℕ) → find (is_reason_of i) t.reasons ≡ option_map (λ reason. (i, reason)) (r i)

orgs_view : (c : Change) (t : Tables) (o : List ℕ → Option Org) → ((slug : List ℕ) → find (is_called slug) t.orgs ≡ o slug) → (slug : List ℕ) → find (is_called slug) (applied c t).orgs ≡ org_changed slug c (o slug)
orgs_view (PutOrg org) t o was slug = org_put org t.orgs slug ∙ ap (λ old. if bytes_eq org.slug slug then Some org else old) (was slug)
orgs_view _ t o was slug = was slug

orgs_once_view : (c : Change) (t : Tables) → NoTwo (λ a b. is_called b.slug a) t.orgs → NoTwo (λ a b. is_called b.slug a) (applied c t).orgs
orgs_once_view (PutOrg org) t once = apart_put (λ a b. is_called b.slug a) org t.orgs once
orgs_once_view _ t once = once

petitions_view : (c : Change) (t : Tables) (p : ℕ → Option Petition) → ((i : ℕ) → find (is_numbered i) t.petitions ≡ option_map (λ petition. (i, petition)) (p i))
    → (i : ℕ) → find (is_numbered i) (applied c t).petitions ≡ option_map (λ petition. (i, petition)) (petition_changed i c (p i))
petitions_view (PutPetition id petition) t p was i = petition_put id petition t.petitions i (p i) (was i)
petitions_view _ t p was i = was i

entries_view : (c : Change) (t : Tables) (e : Number → Option Entry) → ((n : Number) → find (is_of n) t.entries ≡ option_map (λ entry. (n, entry)) (e n))
    → (n : Number) → find (is_of n) (applied c t).entries ≡ option_map (λ entry. (n, entry)) (entry_changed n c (e n))
entries_view (PutEntry number entry) t e was n = entry_put number entry t.entries n (e n) (was n)
entries_view (SetHeld number held) t e was n = entry_set (with_held held) number t.entries n (e n) (was n)
entries_view (SetCard number card) t e was n = entry_set (with_card card) number t.entries n (e n) (was n)
entries_view _ t e was n = was n

entries_once_view : (c : Change) (t : Tables) → NoTwo (λ a b. is_of b.0 a) t.entries → NoTwo (λ a b. is_of b.0 a) (applied c t).entries
entries_once_view (PutEntry number entry) t once = apart_put (λ a b. is_of b.0 a) (number, entry) t.entries once
entries_once_view (SetHeld number held) t once = entries_once (with_held held) number t.entries once
entries_once_view (SetCard number card) t once = entries_once (with_card card) number t.entries once
entries_once_view _ t once = once

vendors_view : (c : Change) (t : Tables) (v : ℕ → Option Vendor) → ((vid : ℕ) → find (λ vendor. nat_eq vendor.vid vid) t.vendors ≡ v vid) → (d : ℕ) → find (λ vendor. nat_eq vendor.vid d) (applied c t).vendors ≡ vendor_changed d c (v d)
vendors_view (PutVendor vid name) t v was d = let new : Vendor = record { vid = vid; name = name } in vendor_put new t.vendors d ∙ ap (λ old. if nat_eq vid d then Some new else old) (was d)
vendors_view _ t v was d = was d

licences_view : (c : Change) (t : Tables) (l : List ℕ → Bool) → ((name : List ℕ) → list_any (bytes_eq name) t.licences ≡ l name) → (name : List ℕ) → list_any (bytes_eq name) (applied c t).licences ≡ licence_changed name c (l name)
licences_view (PutLicence name) t l was other = name_put other name t.licences ∙ ap (λ old. if bytes_eq other name then true else old) (was other)
licences_view _ t l was other = was other

licences_once_view : (c : Change) (t : Tables) → NoTwo is_named t.licences → NoTwo is_named (applied c t).licences
licences_once_view (PutLicence name) t once = apart_put is_named name t.licences once
licences_once_view _ t once = once

reasons_view : (c : Change) (t : Tables) (r : ℕ → Option (List ℕ)) → ((i : ℕ) → find (is_reason_of i) t.reasons ≡ option_map (λ reason. (i, reason)) (r i))
    → (i : ℕ) → find (is_reason_of i) (applied c t).reasons ≡ option_map (λ reason. (i, reason)) (reason_changed i c (r i))
reasons_view (PutReason id reason) t r was i = reason_put id reason t.reasons i (r i) (was i)
reasons_view _ t r was i = was i

view_one : (c : Change) (t : Tables) (o : List ℕ → Option Org) (p : ℕ → Option Petition) (e : Number → Option Entry) (v : ℕ → Option Vendor) (l : List ℕ → Bool) (r : ℕ → Option (List ℕ)) → IsView t o p e v l r
    → IsView (applied c t) (λ s. org_changed s c (o s)) (λ i. petition_changed i c (p i)) (λ n. entry_changed n c (e n)) (λ d. vendor_changed d c (v d)) (λ n. licence_changed n c (l n)) (λ i. reason_changed i c (r i))
view_one c t o p e v l r was = record {
  orgs = orgs_view c t o was.orgs;
  orgs_once = orgs_once_view c t was.orgs_once;
  petitions = petitions_view c t p was.petitions;
  entries = entries_view c t e was.entries;
  entries_once = entries_once_view c t was.entries_once;
  vendors = vendors_view c t v was.vendors;
  licences = licences_view c t l was.licences;
  licences_once = licences_once_view c t was.licences_once;
  reasons = reasons_view c t r was.reasons;
}

view_all : (cs : List Change) (t : Tables) (o : List ℕ → Option Org) (p : ℕ → Option Petition) (e : Number → Option Entry) (v : ℕ → Option Vendor) (l : List ℕ → Bool) (r : ℕ → Option (List ℕ)) → IsView t o p e v l r
    → IsView (applied_all cs t) (λ s. after_all (org_changed s) cs (o s)) (λ i. after_all (petition_changed i) cs (p i)) (λ n. after_all (entry_changed n) cs (e n)) (λ d. after_all (vendor_changed d) cs (v d)) (λ n. after_all (licence_changed n) cs (l n)) (λ i. after_all (reason_changed i) cs (r i))
view_all [] t o p e v l r was = was
view_all (c ∷ cs) t o p e v l r was = view_all cs (applied c t) _ _ _ _ _ _ (view_one c t o p e v l r was)

-- ---- what is unchanged

record IsRest (a b : Tables) : Type 0 where
  metas : b.metas ≡ a.metas
  curators : b.curators ≡ a.curators
  fixed : b.fixed ≡ a.fixed
  kept : b.kept ≡ a.kept
  digests : b.digests ≡ a.digests
  opened : b.opened ≡ a.opened
  closed : b.closed ≡ a.closed

rest_one : (c : Change) (t : Tables) → IsRest t (applied c t)
rest_one (PutOrg org) t = record { metas = refl; curators = refl; fixed = refl; kept = refl; digests = refl; opened = refl; closed = refl }
rest_one _ t = record { metas = refl; curators = refl; fixed = refl; kept = refl; digests = refl; opened = refl; closed = refl }

rest_all : (cs : List Change) (t : Tables) → IsRest t (applied_all cs t)
rest_all [] t = record { metas = refl; curators = refl; fixed = refl; kept = refl; digests = refl; opened = refl; closed = refl }
rest_all (c ∷ cs) t =
    let first = rest_one c t in
    let later = rest_all cs (applied c t) in
    record { metas = later.metas ∙ first.metas; curators = later.curators ∙ first.curators; fixed = later.fixed ∙ first.fixed; kept = later.kept ∙ first.kept; digests = later.digests ∙ first.digests; opened = later.opened ∙ first.opened; closed = later.closed ∙ first.closed }

-- ---- one more change

applied_more : (cs : List Change) (c : Change) (t : Tables) → applied_all (cs ++ c ∷ []) t ≡ applied c (applied_all cs t)
applied_more [] c t = refl
applied_more (x ∷ cs) c t = applied_more cs c (applied x t)

reserved_more : (cs : List Change) (c : Change) (n : Number) (b : Bool) → after_all (reserved_changed n) (cs ++ c ∷ []) b ≡ reserved_changed n c (after_all (reserved_changed n) cs b)
reserved_more [] c n b = refl
reserved_more (x ∷ cs) c n b = reserved_more cs c n (reserved_changed n x b)

spans_over : (c : Change) (a b : List (ℕ × Span)) (t : Tables) → with_spans b (applied c (with_spans a t)) ≡ with_spans b (applied c t)
spans_over (PutOrg org) a b t = refl
spans_over _ a b t = refl

-- a change that does not touch the spans
pub record_made : (old new : State) (change made : Change) → change ≡ made → ((t : Tables) → with_spans t.spans (applied made t) ≡ applied made t) → ((n : Number) (b : Bool) → reserved_changed n made b ≡ b)
    → Changes (applied made) old new → Makes change old new
record_made old new change made is same unordered h = subst (λ x. Makes x old new) (sym is) (
  h.0,
  λ t has up. (t.spans, subst (Holds new.now) (sym (same t)) (h.1 t has), record { each = λ n. sym (unordered n (list_any (vendor_span_has n) t.spans)); apart = up }),
)

-- the changes are made to the tables and to their spans
pub record AreMade (cs : List Change) (t : Tables) (db : Database) : Type 0 where
  spans : List (ℕ × Span)
  holds : Holds db (with_spans spans (applied_all cs t))
  each : (n : Number) → list_any (vendor_span_has n) spans ≡ after_all (reserved_changed n) cs (list_any (vendor_span_has n) t.spans)
  apart : IsAscending AreApart spans

pub none_made : (t : Tables) (db : Database) → Holds db t → IsAscending AreApart t.spans → AreMade [] t db
none_made t db has up = record { spans = t.spans; holds = has; each = λ n. refl; apart = up }

pub made_more : (cs : List Change) (c : Change) (b d : State) (t : Tables) → AreMade cs t b.now → Makes c b d → AreMade (cs ++ c ∷ []) t d.now
made_more cs c b d t before makes =
    let now = makes.1 (with_spans before.spans (applied_all cs t)) before.holds before.apart in
    record {
      spans = now.0;
      holds = subst (Holds d.now) (spans_over c before.spans now.0 (applied_all cs t) ∙ ap (with_spans now.0) (sym (applied_more cs c t))) now.1;
      each = λ n. now.2.each n ∙ ap (reserved_changed n c) (before.each n) ∙ sym (reserved_more cs c n (list_any (vendor_span_has n) t.spans));
      apart = now.2.apart;
    }

-- ---- the histories

module _ (cs : List Change) (h after : History) (founding : after.founding ≡ h.founding) (leads : LeadsTo cs h after) where
  records_after : (t : Tables) (db : Database) → AreRecords h t → (made : AreMade cs t db) → AreRecords after (with_spans made.spans (applied_all cs t))
  records_after t db had made =
      let rest = rest_all cs t in
      let view = view_all cs t _ _ _ _ _ _ (record { orgs = had.orgs.each; orgs_once = had.orgs.once; petitions = had.petitions; entries = had.entries.each; entries_once = had.entries.once; vendors = had.vendors; licences = had.licences.each; licences_once = had.licences.once; reasons = had.reasons }) in
      record {
        founding = subst IsFounding (sym founding) had.founding;
        metas = rest.metas ∙ had.metas ∙ ap (λ (f : Founding). record { version = newest; vendor = f.vendor; name = f.name } ∷ []) (sym founding);
        curators = record {
          each = λ name. ap (list_any (bytes_eq name)) rest.curators ∙ had.curators.each name ∙ ap (λ (f : Founding). list_any (bytes_eq name) f.curators) (sym founding);
          once = subst (NoTwo is_named) (sym rest.curators) had.curators.once;
        };
        licences = record { each = λ name. view.licences name ∙ leads.licences name; once = view.licences_once };
        fixed = rest.fixed ∙ had.fixed ∙ ap (λ (f : Founding). f.fixed) (sym founding);
        orgs = record { each = λ slug. view.orgs slug ∙ leads.orgs slug; once = view.orgs_once };
        vendors = λ vid. view.vendors vid ∙ leads.vendors vid;
        spans = record { each = λ n. made.each n ∙ ap (after_all (reserved_changed n) cs) (had.spans.each n) ∙ leads.reserved_by_order n; apart = made.apart };
        entries = record { each = λ n. view.entries n ∙ ap (option_map (λ entry. (n, entry))) (leads.entries n); once = view.entries_once };
        petitions = λ i. view.petitions i ∙ ap (option_map (λ petition. (i, petition))) (leads.petitions i);
        reasons = λ i. view.reasons i ∙ ap (option_map (λ reason. (i, reason))) (leads.reasons i);
      }

  rest_spans : (spans : List (ℕ × Span)) (t : Tables) → IsRest t (with_spans spans (applied_all cs t))
  rest_spans spans t = let rest = rest_all cs t in record { metas = rest.metas; curators = rest.curators; fixed = rest.fixed; kept = rest.kept; digests = rest.digests; opened = rest.opened; closed = rest.closed }

  recorded_same : (a b : Tables) → IsRest a b → IsRecorded h a → IsRecorded h b
  recorded_same a b same was = record {
    kept = subst (λ rows. AreKeptReplies h rows) (sym same.kept) was.kept;
    digests = λ legal valid. same.digests ∙ was.digests legal valid;
    times = λ legal valid. (let had = was.times legal valid in record { opened_then = subst (AreTimes (opened_at h)) (sym same.opened) had.opened_then; closed_then = subst (AreTimes (closed_at h)) (sym same.closed) had.closed_then });
  }

  pub stored_now : (old new : State) → ((t : Tables) → Holds old.now t → IsAscending AreApart t.spans → AreMade cs t new.now) → HoldsRows newest old.now h → HoldsUnkept new.now h after
  unfolding HoldsRows HoldsUnkept
  stored_now old new made had =
      let now = made had.1 had.2 had.3.spans.apart in
      (with_spans now.spans (applied_all cs had.1), now.holds, records_after had.1 new.now had.3 now, recorded_same had.1 (with_spans now.spans (applied_all cs had.1)) (rest_spans now.spans had.1) had.4)
