-- A STRICT table stores the values of its rows unchanged, and two rows have the same key if and only if their values do.
use Rattle.std.proofs.Common.{◌≡◌, ℕ, ℤ, pos, Bool, true, false, cond, ◌&&◌, ◌||◌, List, ◌∷◌, Option, Some, None, refl, ap, ap₂, ◌∙◌, arith, nat_eq}
use Rattle.std.specs.List.{list_any}
use Rattle.std.specs.Str.{bytes_eq}
use Rattle.std.proofs.lemmas.Bool.Decides.{nat_tests}
use Rattle.sqlite.specs.declared.types.Value.{Value}
use Rattle.sqlite.specs.declared.types.Value.TheVariants.{Null, Int, Text}
use Rattle.sqlite.specs.Cast.{cast, cast_row, as_text}
use Rattle.sqlite.specs.Kind.TheVariants.{Integer}
use Rattle.sqlite.specs.Ops.{unary}
use Rattle.sqlite.specs.Values.{or_null}
use Rattle.sqlite_rules.specs.Keys.{shares}
use Rattle.sqlite_schema.specs.Rules.{equal}
use Rattle.sqlite_sql.specs.declared.ops.CompareOp.TheVariants.{Eq}
use Rattle.sqlite_value.specs.declared.keys.Key.{Key}
use Rattle.sqlite_value.specs.Keys.{first_key, plain}
use Rattle.sqlite_value.proofs.KeyLemmas.{first_key-plain}
use Rattle.sqlite_typed.proofs.TestLemmas.{at_texts}
use Rattle.usbnum_core.specs.declared.number.Number.{Number}
use Rattle.usbnum_core.specs.declared.number.Span.{Span}
use Rattle.registry_rules.specs.declared.record.Org.{Org}
use Rattle.registry_rules.specs.declared.record.Terms.{Terms}
use Rattle.registry_rules.specs.declared.record.Entry.{Entry}
use Rattle.registry_rules.specs.declared.record.Petition.{Petition}
use Rattle.registry_rules.specs.declared.record.Vendor.{Vendor}
use Rattle.table_laws.proofs.NumberedLemmas.{equal_ints}
use Rattle.registry_schema.specs.Schema.{schema_5, meta_table, curators_table, licences_table, fixed_table, orgs_table, kept_table, vendors_table, spans3_table, entries3_table, petitions3_table, digests4_table, reasons4_table, opened5_table, closed5_table}
use Rattle.registry_rows.specs.declared.digests.DigestRow.{DigestRow}
use Rattle.registry_rows.specs.declared.kept.KeptRow.{KeptRow}
use Rattle.registry_rows.specs.declared.meta.Meta.{Meta}
use Rattle.registry_rows.specs.Rows.{whole, part, meta_row, name_row, fixed_row, org_row, kept_row, vendor_row, span_row, begins_at, entry_row, petition_row, digest_row, reason_row, time_row, is_named, is_called, is_kept_under, is_of}
use Rattle.registry_rows.proofs.NumberLemmas.{same_numbers, same_texts}

either : (b : Bool) (x : Value) → cond b x x ≡ x
either true x = refl
either false x = refl

cast_null : cast Integer Null ≡ Null
unfolding unary
cast_null = either _ Null

cast_int : (n : ℤ) → cast Integer (Int n) ≡ Int n
unfolding unary
cast_int n = either _ (Int n)

cast_whole : (o : Option ℕ) → cast Integer (or_null whole o) ≡ or_null whole o
cast_whole None = cast_null
cast_whole (Some n) = cast_int (pos n)

cast_part : (f : Terms → List ℕ) (o : Option Terms) → as_text (part f o) ≡ part f o
cast_part f None = refl
cast_part f (Some t) = refl

pub cast_meta : (m : Meta) → cast_row meta_table (meta_row m) ≡ meta_row m
cast_meta m = simp (cast_int, cast_null)

pub cast_fixed : (span : Span) → cast_row fixed_table (fixed_row span) ≡ fixed_row span
cast_fixed span = simp (cast_int, cast_null)

pub cast_vendor : (v : Vendor) → cast_row vendors_table (vendor_row v) ≡ vendor_row v
cast_vendor v = simp (cast_int, cast_null)

pub cast_petition : (p : ℕ × Petition) → cast_row petitions3_table (petition_row p) ≡ petition_row p
cast_petition p = simp (cast_int, cast_null, cast_whole)

cast_time : (o : Option (List ℕ)) → as_text (or_null (λ time. Text time) o) ≡ or_null (λ time. Text time) o
cast_time None = refl
cast_time (Some time) = refl

pub cast_digest : (d : ℕ × DigestRow) → cast_row digests4_table (digest_row d) ≡ digest_row d
cast_digest d = simp (cast_int, cast_null, cast_time)

pub cast_reason : (r : ℕ × List ℕ) → cast_row reasons4_table (reason_row r) ≡ reason_row r
cast_reason r = simp (cast_int, cast_null)

pub cast_opened : (r : ℕ × List ℕ) → cast_row opened5_table (time_row r) ≡ time_row r
cast_opened r = simp (cast_int, cast_null)

pub cast_closed : (r : ℕ × List ℕ) → cast_row closed5_table (time_row r) ≡ time_row r
cast_closed r = simp (cast_int, cast_null)

pub cast_curator : (name : List ℕ) → cast_row curators_table (Null ∷ name_row name) ≡ Null ∷ name_row name
cast_curator name = simp cast_null

pub cast_curator_numbered : (name : List ℕ) (id : ℤ) → cast_row curators_table (Int id ∷ name_row name) ≡ Int id ∷ name_row name
cast_curator_numbered name id = simp cast_int

pub cast_licence : (name : List ℕ) → cast_row licences_table (Null ∷ name_row name) ≡ Null ∷ name_row name
cast_licence name = simp cast_null

pub cast_licence_numbered : (name : List ℕ) (id : ℤ) → cast_row licences_table (Int id ∷ name_row name) ≡ Int id ∷ name_row name
cast_licence_numbered name id = simp cast_int

pub cast_org : (org : Org) → cast_row orgs_table (Null ∷ org_row org) ≡ Null ∷ org_row org
cast_org org = simp cast_null

pub cast_org_numbered : (org : Org) (id : ℤ) → cast_row orgs_table (Int id ∷ org_row org) ≡ Int id ∷ org_row org
cast_org_numbered org id = simp cast_int

pub cast_kept : (k : KeptRow) → cast_row kept_table (Null ∷ kept_row k) ≡ Null ∷ kept_row k
cast_kept k = simp cast_null

pub cast_kept_numbered : (k : KeptRow) (id : ℤ) → cast_row kept_table (Int id ∷ kept_row k) ≡ Int id ∷ kept_row k
cast_kept_numbered k id = simp cast_int

pub cast_span : (s : ℕ × Span) → cast_row spans3_table (Null ∷ span_row s) ≡ Null ∷ span_row s
cast_span s = simp (cast_int, cast_null)

pub cast_span_numbered : (s : ℕ × Span) (id : ℤ) → cast_row spans3_table (Int id ∷ span_row s) ≡ Int id ∷ span_row s
cast_span_numbered s id = simp cast_int

pub cast_entry : (e : Number × Entry) → cast_row entries3_table (Null ∷ entry_row e) ≡ Null ∷ entry_row e
cast_entry e = simp (cast_int, cast_null, cast_part)

pub cast_entry_numbered : (e : Number × Entry) (id : ℤ) → cast_row entries3_table (Int id ∷ entry_row e) ≡ Int id ∷ entry_row e
cast_entry_numbered e id = simp (cast_int, cast_part)

-- ---- keys

equal_texts : (a b : List ℕ) → equal (first_key plain).collation (Text a) (Text b) ≡ bytes_eq a b
equal_texts a b = ap (λ (k : Key). equal k.collation (Text a) (Text b)) first_key-plain ∙ at_texts false Eq a b ∙ same_texts a b

-- the test of two numbers is symmetric
pub turned : (m n : ℕ) → nat_eq m n ≡ nat_eq n m
turned m n = grind (arith, nat_tests)

equal_numbers : (m n : ℕ) → equal (first_key plain).collation (whole m) (whole n) ≡ nat_eq n m
equal_numbers m n = equal_ints (pos m) (pos n) ∙ same_numbers m n ∙ turned m n

no_more : (a : Bool) → ((a && true) || false) ≡ a
no_more true = refl
no_more false = refl

no_more_of_two : (a b : Bool) → ((a && (b && true)) || false) ≡ (a && b)
no_more_of_two true true = refl
no_more_of_two true false = refl
no_more_of_two false b = refl

pub curators_shared : (new old : ℤ × List ℕ) → list_any (shares None curators_table (Int new.0 ∷ name_row new.1) (Int old.0 ∷ name_row old.1)) schema_5.indexes ≡ is_named old.1 new.1
curators_shared new old = no_more (equal (first_key plain).collation (Text old.1) (Text new.1)) ∙ equal_texts old.1 new.1

pub licences_shared : (new old : ℤ × List ℕ) → list_any (shares None licences_table (Int new.0 ∷ name_row new.1) (Int old.0 ∷ name_row old.1)) schema_5.indexes ≡ is_named old.1 new.1
licences_shared new old = no_more (equal (first_key plain).collation (Text old.1) (Text new.1)) ∙ equal_texts old.1 new.1

pub orgs_shared : (new old : ℤ × Org) → list_any (shares None orgs_table (Int new.0 ∷ org_row new.1) (Int old.0 ∷ org_row old.1)) schema_5.indexes ≡ is_called new.1.slug old.1
orgs_shared new old = no_more (equal (first_key plain).collation (Text old.1.slug) (Text new.1.slug)) ∙ equal_texts old.1.slug new.1.slug

pub kept_shared : (new old : ℤ × KeptRow) → list_any (shares None kept_table (Int new.0 ∷ kept_row new.1) (Int old.0 ∷ kept_row old.1)) schema_5.indexes ≡ is_kept_under new.1.caller new.1.key old.1
kept_shared new old =
    no_more_of_two (equal (first_key plain).collation (Text old.1.caller) (Text new.1.caller)) (equal (first_key plain).collation (Text old.1.key) (Text new.1.key))
    ∙ ap₂ ◌&&◌ (equal_texts old.1.caller new.1.caller) (equal_texts old.1.key new.1.key)

pub spans_shared : (new old : ℤ × (ℕ × Span)) → list_any (shares None spans3_table (Int new.0 ∷ span_row new.1) (Int old.0 ∷ span_row old.1)) schema_5.indexes ≡ begins_at new.1.0 new.1.1.first old.1
spans_shared new old =
    no_more_of_two (equal (first_key plain).collation (whole old.1.0) (whole new.1.0)) (equal (first_key plain).collation (whole old.1.1.first) (whole new.1.1.first))
    ∙ ap₂ ◌&&◌ (equal_ints (pos old.1.0) (pos new.1.0) ∙ same_numbers old.1.0 new.1.0) (equal_ints (pos old.1.1.first) (pos new.1.1.first) ∙ same_numbers old.1.1.first new.1.1.first)

pub entries_shared : (new old : ℤ × (Number × Entry)) → list_any (shares None entries3_table (Int new.0 ∷ entry_row new.1) (Int old.0 ∷ entry_row old.1)) schema_5.indexes ≡ is_of new.1.0 old.1
entries_shared new old =
    no_more_of_two (equal (first_key plain).collation (whole old.1.0.vid) (whole new.1.0.vid)) (equal (first_key plain).collation (whole old.1.0.pid) (whole new.1.0.pid))
    ∙ ap₂ ◌&&◌ (equal_numbers old.1.0.vid new.1.0.vid) (equal_numbers old.1.0.pid new.1.0.pid)
