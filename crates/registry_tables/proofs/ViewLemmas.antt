-- What changes do to the value under each key.
use Rattle.std.proofs.Common.{◌≡◌, ℕ, pos, Bool, true, false, cond, if◌then◌else◌, ◌&&◌, nat_eq, List, [], ◌∷◌, ◌++◌, find, Option, Some, refl, sym, ap, ap₂, ◌∙◌, eqb-true, eq-eqb}
use Rattle.std.specs.Option.{option_map}
use Rattle.std.specs.Str.{bytes_eq}
use Rattle.std.proofs.lemmas.Bool.{and_parts, and_from}
use Rattle.std.proofs.lemmas.Slice.Eq.{bytes_eq-Decides}
use Rattle.sqlite_keyed.specs.Keyed.{insert_by}
use Rattle.sqlite_keyed.specs.Lists.{delete_where}
use Rattle.usbnum_core.specs.declared.number.Number.{Number}
use Rattle.registry_rules.specs.Number.{number_eq}
use Rattle.registry_rules.specs.declared.record.Org.{Org}
use Rattle.registry_rules.specs.declared.record.Entry.{Entry}
use Rattle.registry_rules.specs.declared.record.Petition.{Petition}
use Rattle.registry_rules.specs.declared.record.Vendor.{Vendor}
use Rattle.registry_rows.specs.declared.kept.KeptRow.{KeptRow}
use Rattle.registry_rows.specs.Rows.{is_called, is_of, is_numbered, is_kept_under, petition_key, vendor_key, reason_key, is_reason_of}
use Rattle.registry_tables.proofs.UnderLemmas.{found_after, found_among}

pub same_bytes : (a b : List ℕ) → bytes_eq a b ≡ true → a ≡ b
same_bytes a b h = (bytes_eq-Decides a b).0 h

pub bytes_same : (a : List ℕ) → bytes_eq a a ≡ true
bytes_same a = (bytes_eq-Decides a a).1 refl

pub same_number : (a b : Number) → number_eq a b ≡ true → a ≡ b
same_number a b h = let parts = and_parts _ _ h in let v = eqb-true a.vid b.vid parts.0 in let p = eqb-true a.pid b.pid parts.1 in let make : ℕ → ℕ → Number = λ vid pid. record { vid = vid; pid = pid } in ap₂ make v p

pub number_same : (a : Number) → number_eq a a ≡ true
number_same a = and_from _ _ (eq-eqb a.vid a.vid refl) (eq-eqb a.pid a.pid refl)

-- ---- organisations

pub org_put : (org : Org) (orgs : List Org) (slug : List ℕ) → find (is_called slug) (delete_where (λ other. is_called org.slug other) orgs ++ org ∷ []) ≡ (if bytes_eq org.slug slug then Some org else find (is_called slug) orgs)
org_put org orgs slug = found_after (λ (o : Org). o.slug) is_called (λ o. bytes_same o.slug) (λ k o h. sym (same_bytes o.slug k h)) org orgs slug

-- ---- entries

entry_as : (b : Bool) (n number : Number) (entry : Entry) (old : Option Entry) → (b ≡ true → n ≡ number)
    → (let here : Entry → Number × Entry = λ e. (n, e) in let there : Number × Entry = (number, entry) in cond b (Some there) (option_map here old) ≡ option_map here (cond b (Some entry) old))
entry_as true n number entry old same = let at : Number → Option (Number × Entry) = λ m. Some (m, entry) in ap at (sym (same refl))
entry_as false n number entry old same = refl

pub entry_put : (number : Number) (entry : Entry) (entries : List (Number × Entry)) (n : Number) (old : Option Entry) → find (is_of n) entries ≡ option_map (λ e. (n, e)) old
    → find (is_of n) (delete_where (λ other. is_of number other) entries ++ (number, entry) ∷ []) ≡ option_map (λ e. (n, e)) (if number_eq n number then Some entry else old)
entry_put number entry entries n old was =
    found_after (λ (e : Number × Entry). e.0) is_of (λ e. number_same e.0) (λ k e h. same_number k e.0 h) (number, entry) entries n
    ∙ (let there : Number × Entry = (number, entry) in ap (λ o. cond (number_eq n number) (Some there) o) was) ∙ entry_as (number_eq n number) n number entry old (same_number n number)

-- ---- petitions

petition_as : (b : Bool) (i id : ℕ) (petition : Petition) (old : Option Petition) → (b ≡ true → id ≡ i)
    → (let here : Petition → ℕ × Petition = λ p. (i, p) in let there : ℕ × Petition = (id, petition) in cond b (Some there) (option_map here old) ≡ option_map here (cond b (Some petition) old))
petition_as true i id petition old same = let at : ℕ → Option (ℕ × Petition) = λ m. Some (m, petition) in ap at (same refl)
petition_as false i id petition old same = refl

pub petition_put : (id : ℕ) (petition : Petition) (petitions : List (ℕ × Petition)) (i : ℕ) (old : Option Petition) → find (is_numbered i) petitions ≡ option_map (λ p. (i, p)) old
    → find (is_numbered i) (insert_by petition_key petitions (id, petition)) ≡ option_map (λ p. (i, p)) (if nat_eq id i then Some petition else old)
petition_put id petition petitions i old was =
    found_among petition_key is_numbered (λ k x y a b. ap pos (eqb-true x.0 k a ∙ sym (eqb-true y.0 k b))) (λ k x y same. (let e : x.0 ≡ y.0 = cc in ap (λ m. nat_eq m k) e)) (id, petition) petitions i
    ∙ (let there : ℕ × Petition = (id, petition) in ap (λ o. cond (nat_eq id i) (Some there) o) was) ∙ petition_as (nat_eq id i) i id petition old (eqb-true id i)

-- ---- reasons

reason_as : (b : Bool) (i id : ℕ) (reason : List ℕ) (old : Option (List ℕ)) → (b ≡ true → id ≡ i) →
    (let here : List ℕ → ℕ × List ℕ = λ r. (i, r) in let there : ℕ × List ℕ = (id, reason) in cond b (Some there) (option_map here old) ≡ option_map here (cond b (Some reason) old))
reason_as true i id reason old same = let at : ℕ → Option (ℕ × List ℕ) = λ m. Some (m, reason) in ap at (same refl)
reason_as false i id reason old same = refl

pub reason_put : (id : ℕ) (reason : List ℕ) (reasons : List (ℕ × List ℕ)) (i : ℕ) (old : Option (List ℕ)) → find (is_reason_of i) reasons ≡ option_map (λ r. (i, r)) old
    → find (is_reason_of i) (insert_by reason_key reasons (id, reason)) ≡ option_map (λ r. (i, r)) (if nat_eq id i then Some reason else old)
reason_put id reason reasons i old was =
    found_among reason_key is_reason_of (λ k x y a b. ap pos (eqb-true x.0 k a ∙ sym (eqb-true y.0 k b))) (λ k x y same. (let e : x.0 ≡ y.0 = cc in ap (λ m. nat_eq m k) e)) (id, reason) reasons i
    ∙ (let there : ℕ × List ℕ = (id, reason) in ap (λ o. cond (nat_eq id i) (Some there) o) was) ∙ reason_as (nat_eq id i) i id reason old (eqb-true id i)

-- ---- vendors

abbrev is_vendor : ℕ → Vendor → Bool
is_vendor vid v = nat_eq v.vid vid

pub vendor_put : (vendor : Vendor) (vendors : List Vendor) (vid : ℕ) → find (λ (v : Vendor). nat_eq v.vid vid) (insert_by vendor_key vendors vendor) ≡ (if nat_eq vendor.vid vid then Some vendor else find (λ (v : Vendor). nat_eq v.vid vid) vendors)
vendor_put vendor vendors vid =
    found_among vendor_key is_vendor (λ k x y a b. ap pos (eqb-true x.vid k a ∙ sym (eqb-true y.vid k b))) (λ k x y same. (let e : x.vid ≡ y.vid = cc in ap (λ m. nat_eq m k) e)) vendor vendors vid

-- ---- kept replies

pub kept_put : (row : KeptRow) (rows : List KeptRow) (caller key : List ℕ)
    → find (is_kept_under caller key) (delete_where (λ other. is_kept_under row.caller row.key other) rows ++ row ∷ [])
    ≡ (if bytes_eq row.caller caller && bytes_eq row.key key then Some row else find (is_kept_under caller key) rows)
kept_put row rows caller key =
    found_after (λ (k : KeptRow). (k.caller, k.key)) (λ (p : List ℕ × List ℕ) (k : KeptRow). is_kept_under p.0 p.1 k) (λ k. and_from _ _ (bytes_same k.caller) (bytes_same k.key))
    (λ p k h. (let parts = and_parts _ _ h in let a = same_bytes k.caller p.0 parts.0 in let b = same_bytes k.key p.1 parts.1 in let make : List ℕ → List ℕ → List ℕ × List ℕ = λ c l. (c, l) in ap₂ make (sym a) (sym b))) row rows (caller, key)
